-- What stays as a history grows: fronts of paths, what is confirmed on them, and what was taken and made.
use Rattle.std.specs.Prelude.{◌≡◌, ℕ, zero, suc, ◌+◌, ◌-◌, ◌<◌, ◌≤◌, ◌⊎◌, List, [], ◌∷◌, ◌++◌, length, drop, Some, None, if◌then◌else◌}
use Rattle.std.specs.List.{AllByRecursion}
use Rattle.std.specs.Cmp.Lexicographic.{pointwise}
use Rattle.std.proofs.Common.{refl, ap, subst, sym, ◌∙◌, inl, inr, arith, append_assoc, length-append, length-drop, le_refl, le_trans}
use Rattle.vic_wire.specs.Trees.{dictionary_root}
use Rattle.std.proofs.lemmas.Bool.{cases_eq}
use Rattle.vic_dict.specs.declared.op.Entry.{Entry}
use Rattle.vic_dict.specs.Lists.{IsIn, front}
use Rattle.vic_wire.specs.Hashes.{Group}
use Rattle.vic_rules.specs.declared.state.Own.{Own}
use Rattle.vic_rules.specs.declared.trace.Input.{Input}
use Rattle.vic_rules.specs.declared.trace.TraceStep.{TraceStep}
use Rattle.vic_rules.specs.Client.{Standing, Move, step, same_entry}
use Rattle.vic_rules.specs.History.{standing, path, move_of, AreSteps, Completion, completion, completions}
use Rattle.vic_rules.specs.Views.{or_else, confirmation, confirmed_calls, shown_as, left_by}
use Rattle.vic_rules.specs.Trust.{parts_taken, chain_texts, parts_in, answer_taken}
use Rattle.vic_laws.specs.Claims.{AllConfirmed, SealHolds}
use Rattle.vic_laws.proofs.Words.{in_right, all_weaker, all_append}
use Rattle.vic_laws.proofs.Steps.{Kind, is_quiet, is_called, is_replied, is_updated, is_listed}
use Rattle.vic_laws.proofs.StepKinds.{step_kind}
use Rattle.vic_laws.proofs.Standings.{standing_moved, standing_kept}
use Rattle.vic_laws.proofs.Paths.{at_each_standing}
use Rattle.vic_laws.proofs.Calls.{Grows, path_grows, kind_of}

-- ---- fronts

drop_past : {X : Type 0} (xs ys : List X) (n : ℕ) → drop (length xs + n) (xs ++ ys) ≡ drop n ys
drop_past [] ys n = let e : 0 + n ≡ n = omega arith in ap (λ k. drop k ys) e
drop_past (x ∷ xs) ys n = let e : suc (length xs) + n ≡ suc (length xs + n) = omega arith in ap (λ k. drop k (x ∷ (xs ++ ys))) e ∙ drop_past xs ys n

-- a front of a list is that of the grown list
pub front_grows : {X : Type 0} (xs ys : List X) (n : ℕ) → n ≤ length ys → front n (xs ++ ys) ≡ front n ys
front_grows xs ys n le = let e : length (xs ++ ys) - n ≡ length xs + (length ys - n) = omega (arith, length-append xs ys) in ap (λ k. drop k (xs ++ ys)) e ∙ drop_past xs ys (length ys - n)

drop_all : {X : Type 0} (xs : List X) → drop (length xs) xs ≡ []
drop_all [] = refl
drop_all (x ∷ xs) = drop_all xs

pub front_none : {X : Type 0} (xs : List X) → front 0 xs ≡ []
front_none xs = let e : length xs - 0 ≡ length xs = omega arith in ap (λ k. drop k xs) e ∙ drop_all xs

pub front_whole : {X : Type 0} (n : ℕ) (xs : List X) → length xs ≤ n → front n xs ≡ xs
front_whole n xs le = let e : length xs - n ≡ 0 = omega arith in ap (λ k. drop k xs) e

drop_next : {X : Type 0} (k : ℕ) (xs : List X) → k < length xs → (x : X) × (drop k xs ≡ x ∷ drop (suc k) xs)
drop_next k [] lt = absurd (omega (arith, lt))
drop_next zero (x ∷ xs) lt = (x, refl)
drop_next (suc k) (x ∷ xs) lt = drop_next k xs (omega arith)

-- the front with one item more
pub front_next : {X : Type 0} (n : ℕ) (xs : List X) → n < length xs → (x : X) × (front (n + 1) xs ≡ x ∷ front n xs)
front_next n xs lt =
    let k = length xs - (n + 1) in
    let d = drop_next k xs (omega arith) in
    let e : suc k ≡ length xs - n = omega arith in
    (d.0, d.1 ∙ ap (λ j. d.0 ∷ drop j xs) e)

pub length-front : {X : Type 0} (n : ℕ) (xs : List X) → n ≤ length xs → length (front n xs) ≡ n
length-front n xs le = omega (arith, length-drop (length xs - n) xs)

-- ---- what was confirmed stays so

pub confirmed_stays : (ds cs : List Completion) (p : List Entry) (c : Completion) → confirmation cs p ≡ Some c → confirmation (ds ++ cs) p ≡ Some c
unfolding confirmation
confirmed_stays [] cs p c e = e
confirmed_stays (d ∷ ds) cs p c e = ap (λ o. or_else o (if pointwise same_entry d.prefix p then Some d else None)) (confirmed_stays ds cs p c e)

pub all_confirmed_stays : (ds cs : List Completion) (p : List Entry) → AllConfirmed cs p → AllConfirmed (ds ++ cs) p
all_confirmed_stays ds cs [] a = tt
all_confirmed_stays ds cs (e ∷ p) a = ((a.0.0, confirmed_stays ds cs (e ∷ p) a.0.0 a.0.1), all_confirmed_stays ds cs p a.1)

-- the calls of a path that is confirmed throughout
pub confirmed_calls_stay : (ds cs : List Completion) (p : List Entry) → AllConfirmed cs p → confirmed_calls (ds ++ cs) p ≡ confirmed_calls cs p
unfolding confirmed_calls
confirmed_calls_stay ds cs [] a = refl
confirmed_calls_stay ds cs (e ∷ p) a =
    ap (λ o. shown_as e o ++ confirmed_calls (ds ++ cs) p) (confirmed_stays ds cs (e ∷ p) a.0.0 a.0.1 ∙ sym a.0.1)
    ∙ ap (λ v. shown_as e (confirmation cs (e ∷ p)) ++ v) (confirmed_calls_stay ds cs p a.1)

-- a seal that holds of a path holds of the grown path after more completions
pub seal_stays : (ds cs : List Completion) (news p : List Entry) (n : ℕ) (root : List ℕ) → SealHolds cs p n root → SealHolds (ds ++ cs) (news ++ p) n root
seal_stays ds cs news p n root s = record {
  within = omega (arith, s.within, length-append news p);
  all = subst (AllConfirmed (ds ++ cs)) (sym (front_grows news p n s.within)) (all_confirmed_stays ds cs (front n p) s.all);
  is_root = s.is_root ∙ ap (λ v. dictionary_root (left_by v)) (sym (confirmed_calls_stay ds cs (front n p) s.all) ∙ ap (confirmed_calls (ds ++ cs)) (sym (front_grows news p n s.within)));
}

-- ---- what a later history keeps of an earlier one

pub completions_grow : (g : Group) (later h : List TraceStep) → (ds : List Completion) × (completions g (later ++ h) ≡ ds ++ completions g h)
unfolding completions
completions_grow g [] h = ([], refl)
completions_grow g (x ∷ later) h =
    let more = completions_grow g later h in
    let new : List Completion = completion x.client (path g x.client (x ∷ (later ++ h))) x.returned in
    (new ++ more.0, ap (λ cs. new ++ cs) more.1 ∙ sym (append_assoc new more.0 (completions g h)))

pub path_later : (g : Group) (later h : List TraceStep) → AreSteps g (later ++ h) → (me : ℕ) → Grows (path g me h) (path g me (later ++ h))
path_later g [] h steps me = ([], refl)
path_later g (x ∷ later) h steps me =
    let before = path_later g later h steps.0 me in
    let now = path_grows g me x (later ++ h) steps.1 in
    (now.0 ++ before.0, now.1 ∙ (ap (λ p. now.0 ++ p) before.1 ∙ sym (append_assoc now.0 before.0 (path g me h))))

sealed_rises : (g : Group) (me : ℕ) (s : Standing) (i : Input) (v : Move) → Kind g me s i v → s.sealed ≤ v.next.sealed
sealed_rises g me s i v (is_quiet k) = subst (λ n. s.sealed ≤ n) (sym k.sealed) (le_refl s.sealed)
sealed_rises g me s i v (is_called k) = subst (λ w. s.sealed ≤ w.next.sealed) (sym k.moved) (le_refl s.sealed)
sealed_rises g me s i v (is_replied k) = subst (λ w. s.sealed ≤ w.next.sealed) (sym k.moved) k.sealing.goes
sealed_rises g me s i v (is_updated k) = let up : s.sealed ≤ k.seal.position + 1 = omega (arith, k.sealing.goes) in subst (λ w. s.sealed ≤ w.next.sealed) (sym k.moved) up
sealed_rises g me s i v (is_listed k) = subst (λ w. s.sealed ≤ w.next.sealed) (sym k.moved) k.sealing.goes

pub sealed_later : (g : Group) (later h : List TraceStep) → AreSteps g (later ++ h) → (me : ℕ) → (standing g me h).sealed ≤ (standing g me (later ++ h)).sealed
sealed_later g [] h steps me = le_refl _
sealed_later g (x ∷ later) h steps me = le_trans (sealed_later g later h steps.0 me) (now (cases_eq x.client me))
  where
    now : (x.client ≡ me) ⊎ (x.client ≡ me → ⊥) → (standing g me (later ++ h)).sealed ≤ (standing g me (x ∷ (later ++ h))).sealed
    now (inl e) = subst (λ s. (standing g me (later ++ h)).sealed ≤ s.sealed) (sym (standing_moved g me x (later ++ h) e))
        (subst (λ j. (standing g j (later ++ h)).sealed ≤ (move_of g (later ++ h) x).next.sealed) e
        (sealed_rises g x.client (standing g x.client (later ++ h)) x.input (move_of g (later ++ h) x) (kind_of g (later ++ h) x steps.1)))
    now (inr e) = subst (λ s. (standing g me (later ++ h)).sealed ≤ s.sealed) (sym (standing_kept g me x (later ++ h) e)) (le_refl _)

pub parts_later : (g : Group) (later h : List TraceStep) (b : List ℕ) → IsIn (parts_taken g h) b → IsIn (parts_taken g (later ++ h)) b
unfolding parts_taken
parts_later g [] h b i = i
parts_later g (x ∷ later) h b i = in_right (parts_in (answer_taken g (later ++ h) x)) (parts_taken g (later ++ h)) b (parts_later g later h b i)

-- the texts along a path are among those of the grown path
pub texts_below : (g : Group) (P : List ℕ → Type 0) (news p : List Entry) → AllByRecursion P (chain_texts g (news ++ p)) → AllByRecursion P (chain_texts g p)
texts_below g P [] p a = a
texts_below g P (e ∷ news) p a = texts_below g P news p a.1

-- ---- bounds of positions

abbrev pub StandsWithin : ℕ → Own → Type 0
StandsWithin n o = (0 < o.position) × (o.position ≤ n)

-- a seal and the own calls that aren't sealed stand within the path
pub record Within (s : Standing) : Type 0 where
  pub sealed : s.sealed ≤ length s.path
  pub own : AllByRecursion (StandsWithin (length s.path)) s.own

within_more : (n : ℕ) (m : ℕ) → n ≤ m → (own : List Own) → AllByRecursion (StandsWithin n) own → AllByRecursion (StandsWithin m) own
within_more n m le own a = all_weaker (StandsWithin n) (StandsWithin m) (λ o w. (w.0, le_trans w.1 le)) own a

within_kept : (g : Group) (me : ℕ) (s : Standing) (i : Input) (v : Move) → Kind g me s i v → Within s → Within v.next
within_kept g me s i v (is_quiet k) w = record {
  sealed = subst (λ n. n ≤ length v.next.path) (sym k.sealed) (subst (λ p. s.sealed ≤ length p) (sym k.path) w.sealed);
  own = subst (AllByRecursion (StandsWithin (length v.next.path))) (sym k.own) (subst (λ p. AllByRecursion (StandsWithin (length p)) s.own) (sym k.path) w.own);
}
within_kept g me s i v (is_called k) w = subst (λ m. Within m.next) (sym k.moved) (record { sealed = w.sealed; own = w.own })
within_kept g me s i v (is_replied k) w = subst (λ m. Within m.next) (sym k.moved) (record {
  sealed = k.sealing.within;
  own = all_append (StandsWithin (suc (length (k.others ++ s.path)))) s.own _
      (within_more (length s.path) (suc (length (k.others ++ s.path))) (omega (arith, length-append k.others s.path)) s.own w.own)
      ((omega arith, omega arith), tt);
})
within_kept g me s i v (is_updated k) w =
    let a : AllByRecursion (StandsWithin (length s.path)) (k.first ∷ k.rest) = subst (AllByRecursion (StandsWithin (length s.path))) k.own_is w.own in
    subst (λ m. Within m.next) (sym k.moved) (record { sealed = subst (λ n. n ≤ length s.path) k.next_is a.0.1; own = a.1 })
within_kept g me s i v (is_listed k) w = subst (λ m. Within m.next) (sym k.moved) (record {
  sealed = k.sealing.within;
  own = within_more (length s.path) (length (k.others ++ s.path)) (omega (arith, length-append k.others s.path)) s.own w.own;
})

pub stands_within : (g : Group) (h : List TraceStep) → AreSteps g h → (me : ℕ) → Within (standing g me h)
stands_within g h steps me = at_each_standing g (λ j s. Within s) (λ j. record { sealed = le_refl 0; own = tt }) (λ j s i may w. within_kept g j s i (step g j s i) (step_kind g j s i may) w) h steps me
