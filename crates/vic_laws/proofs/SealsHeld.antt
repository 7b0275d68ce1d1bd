-- Each seal that a client takes or makes holds of its path, unless a tag was forged or two texts collide.
use Rattle.std.specs.Prelude.{◌≡◌, ◌≢◌, ℕ, ◌+◌, ◌<◌, ◌≤◌, ◌⊎◌, true, not, ◌&&◌, ◌||◌, List, [], ◌∷◌, ◌++◌, length, Some}
use Rattle.std.specs.List.{AllByRecursion}
use Rattle.std.proofs.Common.{refl, ap, subst, sym, ◌∙◌, inl, inr, arith, add-one, append_assoc, le_refl, le_trans}
use Rattle.std.proofs.lemmas.Bool.{cases_eq}
use Rattle.vic_dict.specs.declared.op.Entry.{Entry}
use Rattle.vic_dict.specs.Lists.{IsIn, AreBytes, front}
use Rattle.vic_dict.specs.Dictionary.{IsProper, AreBytesIn}
use Rattle.vic_wire.specs.declared.message.Seal.{Seal}
use Rattle.vic_wire.specs.declared.message.ToClient.{ToClient}
use Rattle.vic_wire.specs.declared.message.ToClient.TheVariants as say
use Rattle.vic_wire.specs.Texts.{seal_text}
use Rattle.vic_wire.specs.Hashes.{Group, chain}
use Rattle.vic_wire.specs.Trees.{dictionary_root, tree_of, node_texts}
use Rattle.vic_wire.specs.Messages.{IsEntry}
use Rattle.vic_wire.specs.Cuts.{IsCut}
use Rattle.vic_wire.specs.Parts.{Part, read_part, part_root, reaches}
use Rattle.vic_rules.specs.declared.state.Own.{Own}
use Rattle.vic_rules.specs.declared.trace.Input.{Input}
use Rattle.vic_rules.specs.declared.trace.TraceStep.{TraceStep}
use Rattle.vic_rules.specs.Client.{Standing, Move, Seals, is_done, is_write, new_root, seal_of, seal_text_on, commit_text_on}
use Rattle.vic_rules.specs.History.{standing, path, move_of, AreSteps, Completion, completions}
use Rattle.vic_rules.specs.Views.{confirmation, confirmed_calls, left_by, outcome_leaves}
use Rattle.vic_rules.specs.Trust.{IsForged, Collides, IsListed, of_genesis, of_part, of_sealed, texts_made, texts_taken, text_sent, answer_unless_halted, answer_taken, checked_texts, chain_texts, parts_in, parts_taken, node_texts_left}
use Rattle.vic_spellings.proofs.SpelledParts.{part_takes}
use Rattle.vic_laws.specs.Claims.{AllConfirmed, SealHolds, SealsHold, SealAt, of_answer, of_its_own}
use Rattle.vic_laws.proofs.Words.{some_same, tail_same, none_is_some, in_left, in_either}
use Rattle.vic_laws.proofs.Steps.{Sealing, Kind, is_quiet, is_called, is_replied, is_updated, is_listed, call_of}
use Rattle.vic_laws.proofs.Standings.{standing_moved, standing_kept, earlier_steps}
use Rattle.vic_laws.proofs.Chains.{TwoTexts}
use Rattle.vic_laws.proofs.Paths.{all_drop, texts_drop, path_listed, path_spelled, collides_from}
use Rattle.vic_laws.proofs.Calls.{kind_of}
use Rattle.vic_laws.proofs.Growth.{front_grows, front_none, front_next, confirmed_stays, confirmed_calls_stay, seal_stays, completions_grow, path_later, sealed_later, parts_later, texts_below, StandsWithin, stands_within}
use Rattle.vic_laws.proofs.OwnCalls.{OwnConfirmed, own_confirmed}
use Rattle.vic_laws.proofs.Dictionaries.{left_proper, root_at_start, part_told, root_written, left_next}
use Rattle.vic_laws.proofs.RealTime.{taken_was_made_before, forged_earlier}
use Rattle.vic_laws.proofs.MadeSeals.{seal_checked, MadeSeal, made_stays, made_holds}

-- ---- over plain values

-- the seal of an own call that stands above a seal that holds
seal_next : (cs : List Completion) (p below : List Entry) (e : Entry) (by : Completion) (first : Own) (part : Part) (root : List ℕ) (n : ℕ)
    → n + 1 ≤ length p → front (n + 1) p ≡ e ∷ below → below ≡ front n p → confirmation cs (e ∷ below) ≡ Some by → e.op ≡ first.op → is_done by.outcome ≡ first.done
    → SealHolds cs p n root → IsProper (left_by (confirmed_calls cs (front n p))) → AreBytesIn first.op → IsCut part (tree_of (left_by (confirmed_calls cs (front n p)))) → (not (first.done && is_write first.op) || reaches part first.op) ≡ true
    → SealHolds cs p (n + 1) (new_root first part root)
seal_next cs p below e by first part root n within is rest found op status holds proper bytes cut reached = record {
  within = within;
  all = subst (AllConfirmed cs) (sym is) ((by, found), subst (AllConfirmed cs) (sym rest) holds.all);
  is_root = root_written first (left_by (confirmed_calls cs (front n p))) part root (record { entry = e; outcome = by.outcome }) proper bytes cut reached holds.is_root op status
      ∙ ap dictionary_root (ap (λ q. outcome_leaves (left_by (confirmed_calls cs q)) (record { entry = e; outcome = by.outcome }) by.outcome) (sym rest)
      ∙ (sym (left_next cs e below by found) ∙ ap (λ q. left_by (confirmed_calls cs q)) (sym is)));
}

-- the text of a seal that was sent
record SentSeal (g : Group) (v : Move) (t : List ℕ) : Type 0 where
  sends : v.sends ≡ Some Seals
  is : t ≡ seal_text_on g v.next.path v.next.sealed v.next.root
  few : length v.next.path ≤ 1048576

pub first_apart : (a b : ℕ) (x y t : List ℕ) → (a ≡ b → ⊥) → a ∷ x ≡ t → t ≡ b ∷ y → ⊥
first_apart a b x y t differ e f = differ (cc)

sent_seal : (g : Group) (me : ℕ) (s : Standing) (i : Input) (v : Move) → Kind g me s i v → (t rest : List ℕ) → t ≡ 19 ∷ rest → IsIn (text_sent g me v.next v.sends) t → SentSeal g v t
unfolding commit_text_on
sent_seal g me s i v (is_quiet k) t rest e there = absurd (subst (λ ts. IsIn ts t) k.sends_nothing there)
sent_seal g me s i v (is_called k) t rest e there = elim (subst (λ w. IsIn (text_sent g me w.next w.sends) t) k.moved there) [
  | inl same ↦ absurd (first_apart 17 19 _ rest t (λ q. omega (arith, q)) same e)
  | inr none ↦ absurd none
]
sent_seal g me s i v (is_replied k) t rest e there = elim (subst (λ w. IsIn (text_sent g me w.next w.sends) t) k.moved there) [
  | inl same ↦ absurd (first_apart 18 19 _ rest t (λ q. omega (arith, q)) same e)
  | inr none ↦ absurd none
]
sent_seal g me s i v (is_updated k) t rest e there = subst (λ w. SentSeal g w t) (sym k.moved) (elim (subst (λ w. IsIn (text_sent g me w.next w.sends) t) k.moved there) [
  | inl same ↦ record { sends = refl; is = sym same; few = k.few }
  | inr none ↦ absurd none
])
sent_seal g me s i v (is_listed k) t rest e there = absurd (subst (λ w. IsIn (text_sent g me w.next w.sends) t) k.moved there)

seal_text_is : (g : Group) (p : List Entry) (n : ℕ) (root : List ℕ) → seal_text_on g p n root ≡ seal_text n (chain g (front n p)) root
unfolding seal_text_on
seal_text_is g p n root = refl

seal_text_starts : (n : ℕ) (a r : List ℕ) → (rest : List ℕ) × (seal_text n a r ≡ 19 ∷ rest)
seal_text_starts n a r = (_, refl)

-- the seal of an update is the one above
only_updates_seal : (g : Group) (me : ℕ) (s : Standing) (i : Input) (v : Move) → Kind g me s i v → v.sends ≡ Some Seals → IsIn (text_sent g me v.next v.sends) (seal_text_on g v.next.path v.next.sealed v.next.root)
only_updates_seal g me s i v k e = subst (λ o. IsIn (text_sent g me v.next o) (seal_text_on g v.next.path v.next.sealed v.next.root)) (sym e) (inl refl)

-- what is taken at a step, by its move
pub taken_at : (g : Group) (past : List TraceStep) (x : TraceStep) (m : ToClient) → answer_unless_halted (move_of g past x).next x.input ≡ Some m → answer_taken g past x ≡ Some m
unfolding answer_taken
taken_at g past x m e = e

-- the seal of an answer that was taken passed the checks
kind_sealing : (g : Group) (x : TraceStep) (past : List TraceStep) → Kind g x.client (standing g x.client past) x.input (move_of g past x) → (m : ToClient) (seal : Seal)
    → answer_taken g past x ≡ Some m → seal_of m ≡ Some seal → Sealing g (standing g x.client past) (move_of g past x).next.path seal
unfolding answer_taken
kind_sealing g x past (is_quiet k) m seal t has = absurd (none_is_some (sym (k.seals_nothing m t).0 ∙ has))
kind_sealing g x past (is_called k) m seal t has = absurd (none_is_some (ap seal_of (sym (k.takes m t)) ∙ has))
kind_sealing g x past (is_replied k) m seal t has =
    subst (λ p. Sealing g (standing g x.client past) p seal) (ap (λ w. w.next.path) (sym k.moved))
    (subst (Sealing g (standing g x.client past) (call_of x.client k.seq k.op ∷ (k.others ++ (standing g x.client past).path))) (some_same (ap seal_of (some_same (sym k.takes ∙ t)) ∙ has)) k.sealing)
kind_sealing g x past (is_updated k) m seal t has =
    subst (λ p. Sealing g (standing g x.client past) p seal) (ap (λ w. w.next.path) (sym k.moved))
    (subst (Sealing g (standing g x.client past) (standing g x.client past).path) (some_same (ap seal_of (some_same (sym k.takes ∙ t)) ∙ has)) k.sealing)
kind_sealing g x past (is_listed k) m seal t has =
    subst (λ p. Sealing g (standing g x.client past) p seal) (ap (λ w. w.next.path) (sym k.moved))
    (subst (Sealing g (standing g x.client past) (k.others ++ (standing g x.client past).path)) (some_same (ap seal_of (some_same (sym k.takes ∙ t)) ∙ has)) k.sealing)

-- ---- along a history that is a part of a whole one

module _ (g : Group) (whole : List TraceStep) (lawful : AreSteps g whole) (honest : IsForged g whole → ⊥) (apart : Collides g whole → ⊥) where
  two_apart : TwoTexts (IsListed g whole) → ⊥
  two_apart two = apart (collides_from g whole two)

  steps_of : (later h : List TraceStep) → whole ≡ later ++ h → AreSteps g h
  steps_of later h e = earlier_steps g later h (subst (AreSteps g) e lawful)

  honest_at : (later h : List TraceStep) → whole ≡ later ++ h → IsForged g h → ⊥
  honest_at later h e f = honest (subst (IsForged g) (sym e) (forged_earlier g later h f))

  -- the texts along a path of an earlier history are listed
  path_texts : (later h : List TraceStep) → whole ≡ later ++ h → (me : ℕ) → AllByRecursion (IsListed g whole) (chain_texts g (path g me h))
  path_texts later h e me =
      let grown = path_later g later h (subst (AreSteps g) e lawful) me in
      texts_below g (IsListed g whole) grown.0 (path g me h)
      (subst (λ p. AllByRecursion (IsListed g whole) (chain_texts g p)) (ap (path g me) e ∙ grown.1) (path_listed g whole me))

  -- the nodes of what a sealed front of an earlier path leaves are listed
  sealed_texts : (later h : List TraceStep) → whole ≡ later ++ h → (me n : ℕ) → n ≤ (standing g me h).sealed → AllConfirmed (completions g h) (front n (path g me h))
      → (t : List ℕ) → IsIn (node_texts (tree_of (left_by (confirmed_calls (completions g h) (front n (path g me h)))))) t → IsListed g whole t
  sealed_texts later h e me n le all t i =
      let steps : AreSteps g (later ++ h) = subst (AreSteps g) e lawful in
      let grown = path_later g later h steps me in
      let more = completions_grow g later h in
      let within = (stands_within g h (earlier_steps g later h steps) me).sealed in
      let same_front : front n (path g me (later ++ h)) ≡ front n (path g me h) = ap (front n) grown.1 ∙ front_grows grown.0 (path g me h) n (le_trans le within) in
      let same_calls : confirmed_calls (completions g (later ++ h)) (front n (path g me (later ++ h))) ≡ confirmed_calls (completions g h) (front n (path g me h)) =
      ap (confirmed_calls (completions g (later ++ h))) same_front ∙ (ap (λ cs. confirmed_calls cs (front n (path g me h))) more.1 ∙ confirmed_calls_stay more.0 (completions g h) (front n (path g me h)) all) in
      let there : IsIn (node_texts_left g (later ++ h) (front n (path g me (later ++ h)))) t = subst (λ v. IsIn (node_texts (tree_of (left_by v))) t) (sym same_calls) i in
      of_sealed me n (subst (λ w. n ≤ (standing g me w).sealed) (sym e) (le_trans le (sealed_later g later h steps me))) (subst (λ w. IsIn (node_texts_left g w (front n (path g me w))) t) (sym e) there)

  -- each seal that was made in an earlier history holds
  abbrev MadeAll : List TraceStep → Type 0
  MadeAll h = (t : List ℕ) → IsIn (texts_made g h) t → (rest : List ℕ) → t ≡ 19 ∷ rest → MadeSeal g (IsListed g whole) (completions g h) t

  -- a seal that a client takes holds of the path that it then has
  taken_seal : (later : List TraceStep) (x : TraceStep) (past : List TraceStep) → whole ≡ later ++ x ∷ past → MadeAll past → (m : ToClient) (seal : Seal) → answer_taken g past x ≡ Some m → seal_of m ≡ Some seal
      → (p : List Entry) → (move_of g past x).next.path ≡ p → Sealing g (standing g x.client past) p seal → SealHolds (completions g past) p seal.position seal.root.bytes
  taken_seal later x past e made m seal takes has p is sealing = now (cases_eq seal.position 0)
    where
      path_is : path g x.client (x ∷ past) ≡ p
      path_is = ap (λ s. s.path) (standing_moved g x.client x past refl) ∙ is

      spelled : AllByRecursion IsEntry (front seal.position p)
      spelled = all_drop IsEntry _ p (subst (AllByRecursion IsEntry) path_is (path_spelled g (x ∷ past) (steps_of later (x ∷ past) e) x.client))

      texts : AllByRecursion (IsListed g whole) (chain_texts g (front seal.position p))
      texts = texts_drop g (IsListed g whole) _ p (subst (λ q. AllByRecursion (IsListed g whole) (chain_texts g q)) path_is (path_texts later (x ∷ past) e x.client))

      text_is : seal_text_on g (move_of g past x).next.path seal.position seal.root.bytes ≡ seal_text seal.position (chain g (front seal.position p)) seal.root.bytes
      text_is = ap (λ q. seal_text_on g q seal.position seal.root.bytes) is ∙ seal_text_is g p seal.position seal.root.bytes

      was_made : seal.position ≢ 0 → MadeSeal g (IsListed g whole) (completions g past) (seal_text seal.position (chain g (front seal.position p)) seal.root.bytes)
      was_made away =
          let there : IsIn (texts_taken g past x) (seal_text_on g (move_of g past x).next.path seal.position seal.root.bytes) =
          subst (λ o. IsIn (checked_texts g (move_of g past x).next.path o) (seal_text_on g (move_of g past x).next.path seal.position seal.root.bytes)) (sym takes)
          (seal_checked g (move_of g past x).next.path m seal has away) in
          let starts = seal_text_starts seal.position (chain g (front seal.position p)) seal.root.bytes in
          made _ (subst (IsIn (texts_made g past)) text_is (taken_was_made_before g past x (honest_at later (x ∷ past) e) _ there)) starts.0 starts.1

      now : (seal.position ≡ 0) ⊎ (seal.position ≡ 0 → ⊥) → SealHolds (completions g past) p seal.position seal.root.bytes
      now (inl zero) =
          let none : front seal.position p ≡ [] = ap (λ n. front n p) zero ∙ front_none p in
          record {
            within = sealing.within;
            all = subst (AllConfirmed (completions g past)) (sym none) tt;
            is_root = (sealing.spelled.first zero).0 ∙ (sym (root_at_start (completions g past)) ∙ ap (λ q. dictionary_root (left_by (confirmed_calls (completions g past) q))) (sym none));
          }
      now (inr away) =
          let held = made_holds g (IsListed g whole) (of_genesis refl) two_apart (completions g past) seal.position (front seal.position p) seal.root.bytes sealing.spelled.position spelled texts (was_made away) in
          record { within = sealing.within; all = held.0; is_root = held.1 }

  -- a seal that holds does so after one more step
  seal_later : (x : TraceStep) (past : List TraceStep) (news p : List Entry) (n : ℕ) (root : List ℕ) → SealHolds (completions g past) p n root
      → SealHolds (completions g (x ∷ past)) (news ++ p) n root
  seal_later x past news p n root s =
      let more = completions_grow g (x ∷ []) past in
      subst (λ cs. SealHolds cs (news ++ p) n root) (sym more.1) (seal_stays more.0 (completions g past) news p n root s)

  -- the part of an answer is a cut of the tree of what its seal's front leaves
  pub part_is_left : (later : List TraceStep) (x : TraceStep) (past : List TraceStep) → whole ≡ later ++ x ∷ past → (bytes : List ℕ) (part : Part) (n : ℕ) (root : List ℕ)
      → IsIn (parts_in (answer_taken g past x)) bytes → AreBytes bytes → read_part bytes ≡ Some part → part_root part ≡ root → n ≤ (standing g x.client (x ∷ past)).sealed
      → (p : List Entry) → path g x.client (x ∷ past) ≡ p → SealHolds (completions g (x ∷ past)) p n root → IsCut part (tree_of (left_by (confirmed_calls (completions g (x ∷ past)) (front n p))))
  unfolding parts_taken
  part_is_left later x past e bytes part n root there are_bytes is_part root_is le p path_is holds =
      part_told (IsListed g whole) two_apart part (left_by (confirmed_calls (completions g (x ∷ past)) (front n p))) (part_takes bytes part are_bytes is_part).0
      (left_proper (completions g (x ∷ past)) (front n p) (all_drop IsEntry _ p (subst (AllByRecursion IsEntry) path_is (path_spelled g (x ∷ past) (steps_of later (x ∷ past) e) x.client))))
      (λ t i. of_part bytes part (subst (λ w. IsIn (parts_taken g w) bytes) (sym e) (parts_later g later (x ∷ past) bytes (in_left (parts_in (answer_taken g past x)) (parts_taken g past) bytes there))) is_part i)
      (subst (λ q. (t : List ℕ) → IsIn (node_texts (tree_of (left_by (confirmed_calls (completions g (x ∷ past)) (front n q))))) t → IsListed g whole t) path_is
      (sealed_texts later (x ∷ past) e x.client n le (subst (λ q. AllConfirmed (completions g (x ∷ past)) (front n q)) (sym path_is) holds.all)))
      (root_is ∙ holds.is_root)

  -- where a client stands, its seal holds
  abbrev Stands : ℕ → List TraceStep → Type 0
  Stands me h = SealHolds (completions g h) (path g me h) (standing g me h).sealed (standing g me h).root

  -- the seal that a client has after its own step
  own_stands : (later : List TraceStep) (x : TraceStep) (past : List TraceStep) → whole ≡ later ++ x ∷ past → MadeAll past → Stands x.client past
      → Kind g x.client (standing g x.client past) x.input (move_of g past x)
      → SealHolds (completions g (x ∷ past)) (move_of g past x).next.path (move_of g past x).next.sealed (move_of g past x).next.root
  own_stands later x past e made before (is_quiet k) =
      let s = standing g x.client past in
      subst (λ r. SealHolds (completions g (x ∷ past)) (move_of g past x).next.path (move_of g past x).next.sealed r) (sym k.root)
      (subst (λ n. SealHolds (completions g (x ∷ past)) (move_of g past x).next.path n s.root) (sym k.sealed)
      (subst (λ p. SealHolds (completions g (x ∷ past)) p s.sealed s.root) (sym k.path)
      (seal_later x past [] s.path s.sealed s.root before)))
  own_stands later x past e made before (is_called k) =
      let s = standing g x.client past in
      subst (λ v. SealHolds (completions g (x ∷ past)) v.next.path v.next.sealed v.next.root) (sym k.moved)
      (seal_later x past [] s.path s.sealed s.root before)
  own_stands later x past e made before (is_replied k) =
      let s = standing g x.client past in
      let p : List Entry = call_of x.client k.seq k.op ∷ (k.others ++ s.path) in
      subst (λ v. SealHolds (completions g (x ∷ past)) v.next.path v.next.sealed v.next.root) (sym k.moved)
      (seal_later x past [] p k.seal.position k.seal.root.bytes
      (taken_seal later x past e made (say.Reply k.seal k.entries k.bytes) k.seal (taken_at g past x _ k.takes) refl p (ap (λ v. v.next.path) k.moved) k.sealing))
  own_stands later x past e made before (is_updated k) =
      let s = standing g x.client past in
      let steps : AreSteps g (x ∷ past) = steps_of later (x ∷ past) e in
      let n = k.seal.position in
      let root = k.seal.root.bytes in
      let path_is : (move_of g past x).next.path ≡ s.path = ap (λ v. v.next.path) k.moved in
      let holds : SealHolds (completions g (x ∷ past)) s.path n root =
      seal_later x past [] s.path n root (taken_seal later x past e made (say.Update k.seal k.bytes) k.seal (taken_at g past x _ k.takes) refl s.path path_is k.sealing) in
      let mine : OwnConfirmed x.client (completions g past) s.path k.first =
      (subst (AllByRecursion (OwnConfirmed x.client (completions g past) s.path)) k.own_is (own_confirmed g past steps.0 x.client)).0 in
      let bound : (0 < k.first.position) × (k.first.position ≤ length s.path) =
      (subst (AllByRecursion (StandsWithin (length s.path))) k.own_is (stands_within g past steps.0 x.client).own).0 in
      let within : n + 1 ≤ length s.path = subst (λ j. j ≤ length s.path) k.next_is bound.1 in
      let up = front_next n s.path (subst (λ j. j ≤ length s.path) (add-one n) within) in
      let is : front (n + 1) s.path ≡ mine.entry ∷ mine.below = ap (λ j. front j s.path) (sym k.next_is) ∙ mine.is in
      let more = completions_grow g (x ∷ []) past in
      let found : confirmation (completions g (x ∷ past)) (mine.entry ∷ mine.below) ≡ Some mine.by =
      ap (λ cs. confirmation cs (mine.entry ∷ mine.below)) more.1 ∙ confirmed_stays more.0 (completions g past) (mine.entry ∷ mine.below) mine.by mine.found in
      let here : path g x.client (x ∷ past) ≡ s.path = ap (λ w. w.path) (standing_moved g x.client x past refl) ∙ path_is in
      let spelled_path : AllByRecursion IsEntry s.path = subst (AllByRecursion IsEntry) here (path_spelled g (x ∷ past) steps x.client) in
      let spelled_front : AllByRecursion IsEntry (front n s.path) = all_drop IsEntry _ s.path spelled_path in
      let spelled_entry : IsEntry mine.entry = (subst (AllByRecursion IsEntry) is (all_drop IsEntry _ s.path spelled_path)).0 in
      let sealed_is : (standing g x.client (x ∷ past)).sealed ≡ n + 1 = ap (λ w. w.sealed) (standing_moved g x.client x past refl) ∙ ap (λ v. v.next.sealed) k.moved in
      let told = part_is_left later x past e k.bytes k.part n root (subst (λ o. IsIn (parts_in o) k.bytes) (sym (taken_at g past x _ k.takes)) (inl refl)) k.are_bytes k.is_part k.root_is
      (subst (λ j. n ≤ j) (sym sealed_is) (omega arith)) s.path here holds in
      subst (λ v. SealHolds (completions g (x ∷ past)) v.next.path v.next.sealed v.next.root) (sym k.moved)
      (seal_next (completions g (x ∷ past)) s.path mine.below mine.entry mine.by k.first k.part root n within is (tail_same mine.entry up.0 mine.below (front n s.path) (sym is ∙ up.1)) found mine.op mine.done holds
      (left_proper (completions g (x ∷ past)) (front n s.path) spelled_front) (subst AreBytesIn mine.op spelled_entry.op.1) told k.reached)
  own_stands later x past e made before (is_listed k) =
      let s = standing g x.client past in
      let p : List Entry = k.others ++ s.path in
      subst (λ v. SealHolds (completions g (x ∷ past)) v.next.path v.next.sealed v.next.root) (sym k.moved)
      (seal_later x past [] p k.seal.position k.seal.root.bytes
      (taken_seal later x past e made (say.Entries k.seal k.entries) k.seal (taken_at g past x _ k.takes) refl p (ap (λ v. v.next.path) k.moved) k.sealing))

  -- the seals made up to a step hold, where those before it do and its client's own seal does
  made_more : (later : List TraceStep) (x : TraceStep) (past : List TraceStep) → whole ≡ later ++ x ∷ past → MadeAll past → Kind g x.client (standing g x.client past) x.input (move_of g past x)
      → SealHolds (completions g (x ∷ past)) (move_of g past x).next.path (move_of g past x).next.sealed (move_of g past x).next.root → MadeAll (x ∷ past)
  unfolding texts_made
  made_more later x past e made k holds t there rest starts = now (in_either (text_sent g x.client v.next v.sends) (texts_made g past) t there)
    where
      v : Move
      v = move_of g past x

      more : (ds : List Completion) × (completions g (x ∷ past) ≡ ds ++ completions g past)
      more = completions_grow g (x ∷ []) past

      here : path g x.client (x ∷ past) ≡ (move_of g past x).next.path
      here = ap (λ w. w.path) (standing_moved g x.client x past refl)

      new : SentSeal g (move_of g past x) t → MadeSeal g (IsListed g whole) (completions g (x ∷ past)) t
      new s = record {
        position = (move_of g past x).next.sealed;
        root = (move_of g past x).next.root;
        front = front (move_of g past x).next.sealed (move_of g past x).next.path;
        is = s.is ∙ seal_text_is g (move_of g past x).next.path (move_of g past x).next.sealed (move_of g past x).next.root;
        small = omega (arith, holds.within, s.few);
        spelled = all_drop IsEntry _ _ (subst (AllByRecursion IsEntry) here (path_spelled g (x ∷ past) (steps_of later (x ∷ past) e) x.client));
        texts = texts_drop g (IsListed g whole) _ _ (subst (λ q. AllByRecursion (IsListed g whole) (chain_texts g q)) here (path_texts later (x ∷ past) e x.client));
        all = holds.all;
        is_root = holds.is_root;
      }

      now : IsIn (text_sent g x.client (move_of g past x).next (move_of g past x).sends) t ⊎ IsIn (texts_made g past) t → MadeSeal g (IsListed g whole) (completions g (x ∷ past)) t
      now (inl sent) = new (sent_seal g x.client (standing g x.client past) x.input (move_of g past x) k t rest starts sent)
      now (inr old) = subst (λ cs. MadeSeal g (IsListed g whole) cs t) (sym more.1) (made_stays g (IsListed g whole) more.0 (completions g past) t (made t old rest starts))

  -- every seal that was made holds, and where each client stands its seal holds
  abbrev AllHold : List TraceStep → Type 0
  AllHold h = MadeAll h × ((me : ℕ) → Stands me h)

  more_hold : (later : List TraceStep) (x : TraceStep) (past : List TraceStep) → whole ≡ later ++ x ∷ past → AllHold past → AllHold (x ∷ past)
  more_hold later x past e before = (made_more later x past e before.0 kind own, λ me. stands me (cases_eq x.client me))
    where
      steps : AreSteps g (x ∷ past)
      steps = steps_of later (x ∷ past) e

      kind : Kind g x.client (standing g x.client past) x.input (move_of g past x)
      kind = kind_of g past x steps.1

      own : SealHolds (completions g (x ∷ past)) (move_of g past x).next.path (move_of g past x).next.sealed (move_of g past x).next.root
      own = own_stands later x past e before.0 (before.1 x.client) kind

      stands : (me : ℕ) → (x.client ≡ me) ⊎ (x.client ≡ me → ⊥) → Stands me (x ∷ past)
      stands me (inl mine) = subst (λ s. SealHolds (completions g (x ∷ past)) s.path s.sealed s.root) (sym (standing_moved g me x past mine)) own
      stands me (inr else) = subst (λ s. SealHolds (completions g (x ∷ past)) s.path s.sealed s.root) (sym (standing_kept g me x past else))
          (seal_later x past [] (path g me past) (standing g me past).sealed (standing g me past).root (before.1 me))

  pub all_hold : (later h : List TraceStep) → whole ≡ later ++ h → AllHold h
  unfolding standing texts_made completions
  all_hold later [] e = ((λ t i rest starts. absurd i), λ me. record { within = le_refl 0; all = tt; is_root = sym (root_at_start []) })
  all_hold later (x ∷ past) e = more_hold later x past e (all_hold (later ++ x ∷ []) past (e ∙ sym (append_assoc later (x ∷ []) past)))

  -- each seal that a client took or made at a step holds in the whole history
  pub seal_at_holds : (later : List TraceStep) (x : TraceStep) (past : List TraceStep) → whole ≡ later ++ x ∷ past → (position : ℕ) (root : List ℕ) → SealAt g past x position root
      → SealHolds (completions g whole) (path g x.client (x ∷ past)) position root
  seal_at_holds later x past e position root at = subst (λ w. SealHolds (completions g w) (path g x.client (x ∷ past)) position root) (sym e) (now at)
    where
      moved : standing g x.client (x ∷ past) ≡ (move_of g past x).next
      moved = standing_moved g x.client x past refl

      more : (ds : List Completion) × (completions g (later ++ x ∷ past) ≡ ds ++ completions g (x ∷ past))
      more = completions_grow g later (x ∷ past)

      lasts : (n : ℕ) (r : List ℕ) → SealHolds (completions g (x ∷ past)) (path g x.client (x ∷ past)) n r → SealHolds (completions g (later ++ x ∷ past)) (path g x.client (x ∷ past)) n r
      lasts n r s = subst (λ cs. SealHolds cs (path g x.client (x ∷ past)) n r) (sym more.1) (seal_stays more.0 (completions g (x ∷ past)) [] (path g x.client (x ∷ past)) n r s)

      answered : (m : ToClient) (s : Seal) → answer_taken g past x ≡ Some m → seal_of m ≡ Some s → SealHolds (completions g (later ++ x ∷ past)) (path g x.client (x ∷ past)) s.position s.root.bytes
      answered m s takes has =
          let sealing = kind_sealing g x past (kind_of g past x (steps_of later (x ∷ past) e).1) m s takes has in
          let held = taken_seal later x past e (all_hold (later ++ x ∷ []) past (e ∙ sym (append_assoc later (x ∷ []) past))).0 m s takes has (move_of g past x).next.path refl sealing in
          lasts s.position s.root.bytes
          (subst (λ w. SealHolds (completions g (x ∷ past)) w.path s.position s.root.bytes) (sym moved)
          (seal_later x past [] (move_of g past x).next.path s.position s.root.bytes held))

      now : SealAt g past x position root → SealHolds (completions g (later ++ x ∷ past)) (path g x.client (x ∷ past)) position root
      now (of_answer m s takes has n r) = subst (λ q. SealHolds (completions g (later ++ x ∷ past)) (path g x.client (x ∷ past)) position q) (sym r)
          (subst (λ j. SealHolds (completions g (later ++ x ∷ past)) (path g x.client (x ∷ past)) j s.root.bytes) (sym n) (answered m s takes has))
      now (of_its_own sends n r) = subst (λ q. SealHolds (completions g (later ++ x ∷ past)) (path g x.client (x ∷ past)) position q) (ap (λ w. w.root) moved ∙ sym r)
          (subst (λ j. SealHolds (completions g (later ++ x ∷ past)) (path g x.client (x ∷ past)) j (standing g x.client (x ∷ past)).root) (ap (λ w. w.sealed) moved ∙ sym n)
          (lasts (standing g x.client (x ∷ past)).sealed (standing g x.client (x ∷ past)).root ((all_hold later (x ∷ past) e).1 x.client)))

pub seals_hold : SealsHold
seals_hold g h lawful honest apart later x past e position root at = seal_at_holds g h lawful.steps honest apart later x past e position root at
