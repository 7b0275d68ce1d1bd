-- A client steps: it sends or rests, and what it takes was made.
use Rattle.std.proofs.Common.{◌≡◌, ℕ, suc, zero, ◌+◌, ◌<◌, ◌^◌, ◌≤◌, Bool, true, false, ◌&&◌, List, [], ◌∷◌, ◌++◌, length, map, Option, Some, None, is_none, ◌⊎◌, inl, inr, refl, sym, ap, subst, ◌∙◌, arith, length-append, append_assoc}
use Rattle.std.specs.Prelude.{if◌then◌else◌, nat_eq}
use Rattle.std.specs.List.{AllByRecursion}
use Rattle.std.proofs.lemmas.Bool.{eqb-false, eqb-true}
use Rattle.std.proofs.lemmas.List.{append-nil, length-take}
use Rattle.sha2.proofs.Facts256.{length-sha256}
use Rattle.vic_dict.specs.Lists.{IsIn, AreBytes}
use Rattle.vic_dict.specs.Dictionary.{Dictionary}
use Rattle.vic_dict.specs.declared.op.Entry.{Entry}
use Rattle.vic_dict.specs.declared.op.Op.{Op}
use Rattle.vic_dict.specs.declared.op.Answer.{Answer}
use Rattle.vic_dict.specs.declared.op.Answer.TheVariants as answer
use Rattle.vic_dict.specs.declared.op.Outcome.{Outcome}
use Rattle.vic_dict.specs.declared.op.Outcome.TheVariants as outcome
use Rattle.vic_wire.specs.declared.message.Digest32.{Digest32}
use Rattle.vic_rules.specs.declared.object.Phase.{Phase}
use Rattle.vic_rules.specs.declared.object.Phase.TheVariants as phase
use Rattle.vic_rules.specs.declared.object.Next.TheVariants as next
use Rattle.vic_rules.specs.Objects.{ObjectStep, step_on_answer, step_on_kept, after_decision, is_reference, hash_in, length_in}
use Rattle.vic_wire.specs.declared.message.Seal.{Seal}
use Rattle.vic_wire.specs.declared.message.Tagged.{Tagged}
use Rattle.vic_wire.specs.declared.message.ToClient.{ToClient}
use Rattle.vic_wire.specs.declared.message.ToClient.TheVariants as say
use Rattle.vic_wire.specs.Texts.{invoke_text}
use Rattle.vic_wire.specs.Hashes.{Group}
use Rattle.vic_wire.specs.Trees.{Pair, tree_of, tree_by, root_of, dictionary_root}
use Rattle.vic_wire.specs.Messages.{HasRequestSpelling}
use Rattle.vic_wire.specs.Parts.{Part, read_part, root_after}
use Rattle.vic_wire.specs.Reading.{read_answer}
use Rattle.vic_rules.specs.declared.state.Own.{Own}
use Rattle.vic_rules.specs.declared.state.Awaiting.{Awaiting}
use Rattle.vic_rules.specs.declared.state.Awaiting.TheVariants as awaits
use Rattle.vic_rules.specs.declared.trace.Input.TheVariants as input
use Rattle.vic_rules.specs.Client.{Standing, Sending, Invokes, Commits, Seals, Fetches, Move, move_to_call, move_on_wait, move_by_object_step, move_on_refusal, step, request_of, payload_of, awaits_nothing, seal_text_on, newest_first, path_with_entries, move_on_reply, move_on_update, move_on_answer, move_on_verdict, move_on_payload, verdict, new_root, is_write, is_done, decision}
use Rattle.vic_rules.specs.Trust.{answer_unless_halted, checked_texts, seal_texts, text_sent}
use Rattle.vic_order.specs.Order.{Ordered}
use Rattle.vic_order.specs.Fates.{entries}
use Rattle.vic_order.specs.Scenes.{queue_with}
use Rattle.vic_spellings.proofs.Bytes.{bytes-sha256}
use Rattle.vic_laws.proofs.Words.{all_weaker, all_append, in_either, in_left}
use Rattle.vic_laws.proofs.Steps.{PhaseFits, Kind, Quiet, Called, Replied, Updated, Listed, call_of, is_quiet, is_called, is_replied, is_updated, is_listed}
use Rattle.vic_laws.proofs.StepKinds.{step_kind}
use Rattle.vic_honest.proofs.Words.{entries-joined, length-entries, told, newest-told, AreMade}
use Rattle.vic_wire.specs.Walks.{tree_after}
use Rattle.vic_spellings.proofs.SpelledParts.{part_takes, parts_are_spelled}
use Rattle.vic_laws.proofs.PartRoots.{part_stubs, after_stubs, root_digest}
use Rattle.vic_honest.proofs.Serving.{length-tag, seal_text-joined}
use Rattle.vic_honest.proofs.Standing.{SealFits, StandingFits, PhaseHolds, SendsBytes, AnswerComes, IsWithin, Rests, Sends, ClientFits}

-- ---- roots are digests

length-tree : (n : ℕ) (ps : List Pair) → length (root_of (tree_by n ps)) ≡ 32
unfolding tree_by
length-tree zero ps = length-sha256 _
length-tree (suc n) [] = length-sha256 _
length-tree (suc n) (p ∷ []) = length-sha256 _
length-tree (suc n) (p ∷ q ∷ ps) = length-sha256 _

bytes-tree : (n : ℕ) (ps : List Pair) → AreBytes (root_of (tree_by n ps))
unfolding tree_by
bytes-tree zero ps = bytes-sha256 _
bytes-tree (suc n) [] = bytes-sha256 _
bytes-tree (suc n) (p ∷ []) = bytes-sha256 _
bytes-tree (suc n) (p ∷ q ∷ ps) = bytes-sha256 _

pub length-root : (d : Dictionary) → length (dictionary_root d) ≡ 32
unfolding dictionary_root tree_of
length-root d = length-tree _ _

bytes-root : (d : Dictionary) → AreBytes (dictionary_root d)
unfolding dictionary_root tree_of
bytes-root d = bytes-tree _ _

new_root_fits : (first : Own) (bytes : List ℕ) (part : Part) (root : List ℕ) → AreBytes bytes → read_part bytes ≡ Some part → length root ≡ 32 → AreBytes root → (length (new_root first part root) ≡ 32) × AreBytes (new_root first part root)
new_root_fits first text part root are read long bytes =
    let t = part_takes text part are read in
    let stubs = after_stubs part first.op (part_stubs part t.0 ((parts_are_spelled.in_bytes part t.0).0 (subst AreBytes t.1 are))) in
    elim (first.done && is_write first.op) as (λ b. (length (if b then root_after part first.op else root) ≡ 32) × AreBytes (if b then root_after part first.op else root)) [
      | true ↦ root_digest (tree_after part first.op) stubs
      | false ↦ (long, bytes)
    ]

-- ---- what a payload makes a client send

-- it fetches a content whose hash is one, and awaits it
abbrev FetchesOne : Move → Type 0
FetchesOne v = (h : Digest32) × (len : ℕ) × (v.sends ≡ Some (Fetches h.bytes)) × (length h.bytes ≡ 32) × (v.next.awaiting ≡ awaits.Content h len)

abbrev Loud : Move → Type 0
Loud v = (v.sends ≡ None) ⊎ (((done : Bool) × (v.sends ≡ Some (Commits done))) ⊎ ((v.sends ≡ Some Seals) ⊎ (((n : ℕ) × (o : Op) × (v.sends ≡ Some (Invokes n o))) ⊎ FetchesOne v)))

replied_loud : (me : ℕ) (t : Standing) (seal : Seal) (path : List Entry) (part : Option Part) (a : Awaiting) → Loud (move_on_reply me t seal path part a)
replied_loud me t seal [] part a = inl refl
replied_loud me t seal (e ∷ below) None a = inl refl
replied_loud me t seal (e ∷ below) (Some part) (awaits.Reply n o load) = inr (inl (_, refl))
replied_loud me t seal (e ∷ below) (Some part) awaits.Nothing = inl refl
replied_loud me t seal (e ∷ below) (Some part) awaits.Turn = inl refl
replied_loud me t seal (e ∷ below) (Some part) awaits.Entries = inl refl
replied_loud me t seal (e ∷ below) (Some part) awaits.Kept = inl refl
replied_loud me t seal (e ∷ below) (Some part) (awaits.Content h n) = inl refl

updated_loud : (t : Standing) (seal : Seal) (part : Option Part) (own : List Own) → Loud (move_on_update t seal part own)
updated_loud t seal None own = inl refl
updated_loud t seal (Some part) [] = inl refl
updated_loud t seal (Some part) (o ∷ others) = inr (inr (inl refl))

waited_loud : (t : Standing) (p : Phase) → PhaseHolds t.calls p → Loud (move_on_wait t p)
waited_loud t phase.Closed f = inl refl
waited_loud t (phase.Keeping k h len) f = inl refl
waited_loud t phase.Calling f = inl refl
waited_loud t (phase.Fetching h len) f = inr (inr (inr (inr (h, len, refl, f, refl))))

kept_loud : (t : Standing) (p : Phase) → Loud (move_by_object_step t false (step_on_kept p))
kept_loud t phase.Closed = inl refl
kept_loud t (phase.Keeping k h len) = inr (inr (inr (inl (_, _, refl))))
kept_loud t phase.Calling = inl refl
kept_loud t (phase.Fetching h len) = inl refl

refused_loud : (t : Standing) (r : ℕ) (a : Awaiting) → Loud (move_on_refusal t r a)
refused_loud t r awaits.Kept = inl refl
refused_loud t r awaits.Nothing = inl refl
refused_loud t r (awaits.Reply n o load) = inl refl
refused_loud t r awaits.Turn = inl refl
refused_loud t r awaits.Entries = inl refl
refused_loud t r (awaits.Content h len) = inl refl

taken_loud : (me : ℕ) (t : Standing) (m : ToClient) → PhaseHolds t.calls t.phase → Loud (move_on_answer me t m)
taken_loud me t say.Hi f = inl refl
taken_loud me t (say.Reply seal ts part) f = replied_loud me t seal (path_with_entries t ts) (read_part part) t.awaiting
taken_loud me t say.Wait f = waited_loud t t.phase f
taken_loud me t (say.Update seal part) f = updated_loud t seal (read_part part) t.own
taken_loud me t (say.Entries seal ts) f = inl refl
taken_loud me t (say.Refused r) f = refused_loud t r t.awaiting
taken_loud me t say.Kept f = kept_loud t t.phase
taken_loud me t (say.Content c) f = inl refl
taken_loud me t say.Gone f = inl refl
taken_loud me t say.Absent f = inl refl

or_halts_loud : (me : ℕ) (t : Standing) (m : Option ToClient) (k : Option ℕ) → PhaseHolds t.calls t.phase → Loud (move_on_verdict me t m k)
or_halts_loud me t m (Some k) f = inl refl
or_halts_loud me t (Some m) None f = taken_loud me t m f
or_halts_loud me t None None f = inl refl

on_payload_loud : (g : Group) (me : ℕ) (t : Standing) (k : Option ℕ) (payload : List ℕ) → PhaseHolds t.calls t.phase → Loud (move_on_payload g me t k payload)
on_payload_loud g me t (Some k) payload f = inl refl
on_payload_loud g me t None payload f = or_halts_loud me t (read_answer payload) (verdict g me t payload) f

payload_loud : (g : Group) (me : ℕ) (t : Standing) (payload : List ℕ) → PhaseHolds t.calls t.phase → Loud (step g me t (input.Payload payload))
unfolding step
payload_loud g me t payload f = on_payload_loud g me t t.halted payload f

-- where nothing is tagged, nothing is sent but a request for a content
silent : (g : Group) (me : ℕ) (v : Move) → Loud v → text_sent g me v.next v.sends ≡ [] → (v.sends ≡ None) ⊎ FetchesOne v
silent g me v (inl e) nothing = inl e
silent g me v (inr (inl e)) nothing = let f = sym (ap (text_sent g me v.next) e.1) ∙ nothing in absurd cc
silent g me v (inr (inr (inl e))) nothing = let f = sym (ap (text_sent g me v.next) e) ∙ nothing in absurd cc
silent g me v (inr (inr (inr (inl e)))) nothing = let f = sym (ap (text_sent g me v.next) e.2) ∙ nothing in absurd cc
silent g me v (inr (inr (inr (inr e)))) nothing = inr e

-- ---- how far the call on objects has come

-- the hash in a reference is one
hash_long : (v : List ℕ) → is_reference v ≡ true → length (hash_in v) ≡ 32
hash_long v e = let long : length v ≡ 36 = eqb-true (length v) 36 e in omega (arith, length-take 32 v, long)

answered_holds : (calls : ℕ) (a : Answer) → PhaseHolds calls (step_on_answer a).0
answered_holds calls answer.Stored = tt
answered_holds calls (answer.Found v) = by_test (is_reference v) refl
  where
    by_test : (b : Bool) → is_reference v ≡ b
        → PhaseHolds calls (if◌then◌else◌ {A = ObjectStep} b (phase.Fetching (record { bytes = hash_in v }) (length_in v), next.Fetch (record { bytes = hash_in v }) (length_in v)) (phase.Closed, next.Bad)).0
    by_test true e = hash_long v e
    by_test false e = tt
answered_holds calls answer.NotFound = tt
answered_holds calls answer.Removed = tt
answered_holds calls answer.Absent = tt
answered_holds calls (answer.Names names) = tt

decided_holds : (calls : ℕ) (p : Phase) (o : Outcome) → PhaseHolds calls p → PhaseHolds calls (after_decision p o)
decided_holds calls phase.Closed o f = f
decided_holds calls (phase.Keeping k h len) o f = f
decided_holds calls (phase.Fetching h len) o f = f
decided_holds calls phase.Calling (outcome.Done a) f = answered_holds calls a
decided_holds calls phase.Calling (outcome.Aborted u) f = tt
decided_holds calls phase.Calling (outcome.Refused r) f = tt
decided_holds calls phase.Calling (outcome.Halted k) f = tt

abbrev Holds : Move → Type 0
Holds v = PhaseHolds v.next.calls v.next.phase

replied_holds : (me : ℕ) (t : Standing) (seal : Seal) (path : List Entry) (part : Option Part) (a : Awaiting) → PhaseHolds t.calls t.phase → Holds (move_on_reply me t seal path part a)
replied_holds me t seal [] part a f = f
replied_holds me t seal (e ∷ below) None a f = f
replied_holds me t seal (e ∷ below) (Some part) (awaits.Reply n o load) f = decided_holds t.calls t.phase (decision me t below seal.position part o) f
replied_holds me t seal (e ∷ below) (Some part) awaits.Nothing f = f
replied_holds me t seal (e ∷ below) (Some part) awaits.Turn f = f
replied_holds me t seal (e ∷ below) (Some part) awaits.Entries f = f
replied_holds me t seal (e ∷ below) (Some part) awaits.Kept f = f
replied_holds me t seal (e ∷ below) (Some part) (awaits.Content h n) f = f

updated_holds : (t : Standing) (seal : Seal) (part : Option Part) (own : List Own) → PhaseHolds t.calls t.phase → Holds (move_on_update t seal part own)
updated_holds t seal None own f = f
updated_holds t seal (Some part) [] f = f
updated_holds t seal (Some part) (o ∷ others) f = f

waited_holds : (t : Standing) (p : Phase) → PhaseHolds t.calls t.phase → Holds (move_on_wait t p)
waited_holds t phase.Closed f = f
waited_holds t (phase.Keeping k h len) f = f
waited_holds t phase.Calling f = f
waited_holds t (phase.Fetching h len) f = f

kept_holds : (t : Standing) (p : Phase) → PhaseHolds t.calls t.phase → Holds (move_by_object_step t false (step_on_kept p))
kept_holds t phase.Closed f = f
kept_holds t (phase.Keeping k h len) f = tt
kept_holds t phase.Calling f = f
kept_holds t (phase.Fetching h len) f = f

refused_holds : (t : Standing) (r : ℕ) (a : Awaiting) → PhaseHolds t.calls t.phase → Holds (move_on_refusal t r a)
refused_holds t r awaits.Kept f = tt
refused_holds t r awaits.Nothing f = decided_holds t.calls t.phase (outcome.Refused r) f
refused_holds t r (awaits.Reply n o load) f = decided_holds t.calls t.phase (outcome.Refused r) f
refused_holds t r awaits.Turn f = decided_holds t.calls t.phase (outcome.Refused r) f
refused_holds t r awaits.Entries f = decided_holds t.calls t.phase (outcome.Refused r) f
refused_holds t r (awaits.Content h len) f = decided_holds t.calls t.phase (outcome.Refused r) f

taken_holds : (me : ℕ) (t : Standing) (m : ToClient) → PhaseHolds t.calls t.phase → Holds (move_on_answer me t m)
taken_holds me t say.Hi f = f
taken_holds me t (say.Reply seal ts part) f = replied_holds me t seal (path_with_entries t ts) (read_part part) t.awaiting f
taken_holds me t say.Wait f = waited_holds t t.phase f
taken_holds me t (say.Update seal part) f = updated_holds t seal (read_part part) t.own f
taken_holds me t (say.Entries seal ts) f = f
taken_holds me t (say.Refused r) f = refused_holds t r t.awaiting f
taken_holds me t say.Kept f = kept_holds t t.phase f
taken_holds me t (say.Content c) f = tt
taken_holds me t say.Gone f = f
taken_holds me t say.Absent f = f

or_halts_holds : (me : ℕ) (t : Standing) (m : Option ToClient) (k : Option ℕ) → PhaseHolds t.calls t.phase → Holds (move_on_verdict me t m k)
or_halts_holds me t m (Some k) f = f
or_halts_holds me t (Some m) None f = taken_holds me t m f
or_halts_holds me t None None f = f

on_payload_holds : (g : Group) (me : ℕ) (t : Standing) (k : Option ℕ) (payload : List ℕ) → PhaseHolds t.calls t.phase → Holds (move_on_payload g me t k payload)
on_payload_holds g me t (Some k) payload f = f
on_payload_holds g me t None payload f = or_halts_holds me t (read_answer payload) (verdict g me t payload) f

payload_holds : (g : Group) (me : ℕ) (t : Standing) (payload : List ℕ) → PhaseHolds t.calls t.phase → Holds (step g me t (input.Payload payload))
unfolding step
payload_holds g me t payload f = on_payload_holds g me t t.halted payload f

pub fits_of : (calls : ℕ) (p : Phase) → PhaseHolds calls p → PhaseFits calls p
fits_of calls phase.Closed f = tt
fits_of calls (phase.Keeping k h len) f = f
fits_of calls phase.Calling f = tt
fits_of calls (phase.Fetching h len) f = tt

-- ---- a client that sends, and one that rests

-- where the client stands once it has moved there and sent that
abbrev pub Moved : Group → List (List ℕ) → ℕ → List Ordered → Standing → Option Sending → Type 0
Moved g made me log t sends = ClientFits g (text_sent g me t sends ++ made) me log t (queue_with [] (payload_of g me t sends)) []

module _ (g : Group) (made : List (List ℕ)) (me : ℕ) (log : List Ordered) where
  pub now_sends : (t : Standing) (sending : Sending) (seen newer : List Ordered) → log ≡ newer ++ seen → t.path ≡ entries seen → StandingFits t → awaits_nothing t.awaiting ≡ false
      → HasRequestSpelling (request_of g me t sending) → SendsBytes sending → Moved g made me log t (Some sending)
  now_sends t sending seen newer is path fits busy spelled content = record {
    seen = seen;
    newer = newer;
    is = is;
    path = path;
    fits = fits;
    doing = Sends sending;
    up_is = refl;
    down_is = refl;
    busy = busy;
    does = record { spelled = spelled; texts = λ text i. in_left (text_sent g me t (Some sending)) made text i; content = content };
  }

  pub now_rests : (t : Standing) (seen newer : List Ordered) → log ≡ newer ++ seen → t.path ≡ entries seen → StandingFits t → Moved g made me log t None
  now_rests t seen newer is path fits = record {
    seen = seen;
    newer = newer;
    is = is;
    path = path;
    fits = fits;
    doing = Rests;
    up_is = refl;
    down_is = refl;
    busy = tt;
    does = tt;
  }

-- ---- a payload

taken_is : (after : Standing) (payload : List ℕ) (m n : ToClient) → read_answer payload ≡ Some m → answer_unless_halted after (input.Payload payload) ≡ Some n → m ≡ n
taken_is after payload m n read takes =
    elim (is_none after.halted) as (λ b. (if b then read_answer payload else None) ≡ Some n → m ≡ n) [
      | true ↦ λ e. let f = sym read ∙ e in cc
      | false ↦ λ e. absurd cc
    ] takes

within_more : (n k : ℕ) (own : List Own) → n ≤ k → AllByRecursion (IsWithin n) own → AllByRecursion (IsWithin k) own
within_more n k own more h = all_weaker (IsWithin n) (IsWithin k) (λ o w. omega (arith, w)) own h

-- a seal whose text on the log was made holds on a path that is a front of the log
seal_made : (g : Group) (made : List (List ℕ)) (newer front_of : List Ordered) (p : List Entry) (x : Seal) → p ≡ entries front_of → x.position ≤ length p → SealFits g made (newer ++ front_of) x
    → AreMade made (seal_texts g p (Some x))
seal_made g made newer front_of p x path within fits text i =
    elim (nat_eq x.position 0) as (λ b. nat_eq x.position 0 ≡ b → IsIn (if b then [] else seal_text_on g p x.position x.root.bytes ∷ []) text → IsIn made text) [
      | true ↦ λ e j. absurd j
      | false ↦ λ e j. elim j [
        | inl is ↦
            let apart : x.position ≡ 0 → ⊥ = eqb-false x.position 0 e in
            let inside : x.position ≤ length front_of = omega (arith, ap length path, length-entries front_of) in
            let same : seal_text_on g (entries (newer ++ front_of)) x.position x.root.bytes ≡ seal_text_on g p x.position x.root.bytes =
            seal_text-joined g newer front_of x.position x.root.bytes inside ∙ ap (λ q. seal_text_on g q x.position x.root.bytes) (sym path) in
            subst (IsIn made) (same ∙ is) (fits.text (omega arith))
        | inr none ↦ absurd none
      ]
    ] refl i

module _ (g : Group) (made : List (List ℕ)) (me : ℕ) (log seen newer : List Ordered) (t : Standing)
    (is : log ≡ newer ++ seen) (path : t.path ≡ entries seen) (fits : StandingFits t) (payload : List ℕ) (m : ToClient) (read : read_answer payload ≡ Some m)
    (comes : AnswerComes g made log seen newer m) where
  -- what is shown of a move
  pub record Takes (v : Move) : Type 0 where
    pub client : Moved g made me log v.next v.sends
    pub texts : AreMade made (checked_texts g v.next.path (answer_unless_halted v.next (input.Payload payload)))

  quiet_takes : (v : Move) → Loud v → Holds v → Quiet g me t (input.Payload payload) v → Takes v
  quiet_takes v loud holds q =
      let long : length v.next.path ≡ length t.path = ap length q.path in
      let next_fits : StandingFits v.next = record {
        sealed = omega (arith, q.sealed, long, fits.sealed);
        own = subst (AllByRecursion (IsWithin (length v.next.path))) (sym q.own) (within_more (length t.path) (length v.next.path) t.own (omega (arith, long)) fits.own);
        root = ap length q.root ∙ fits.root;
        root_bytes = subst AreBytes (sym q.root) fits.root_bytes;
        calls = omega (arith, q.calls, fits.calls);
        phase = holds;
      } in
      record {
        client = elim (silent g me v loud q.sends_nothing) [
          | inl none ↦ subst (λ z. Moved g made me log v.next z) (sym none) (now_rests g made me log v.next seen newer is (q.path ∙ path) next_fits)
          | inr f ↦ subst (λ z. Moved g made me log v.next z) (sym f.2) (now_sends g made me log v.next (Fetches f.0.bytes) seen newer is (q.path ∙ path) next_fits (ap awaits_nothing f.4) f.3 tt)
        ];
        texts = subst (AreMade made) (sym (q.checks_nothing v.next.path)) (λ text i. absurd i);
      }

  -- a content is kept, and its reference is put
  called_takes : length t.path < 2 ^ 32 → (v : Move) → Holds v → Called g me t (input.Payload payload) v → Takes v
  called_takes room v holds c =
      let few : t.calls + 1 < 2 ^ 32 = c.few (fits_of t.calls t.phase fits.phase) in
      let fit = c.fits (fits_of t.calls t.phase fits.phase) in
      let next : Standing = (move_to_call t c.turned c.op c.load).next in
      let next_fits : StandingFits next = record {
        sealed = fits.sealed;
        own = fits.own;
        root = fits.root;
        root_bytes = fits.root_bytes;
        calls = few;
        phase = subst (λ w. Holds w) c.moved holds;
      } in
      record {
        client = subst (λ w. Moved g made me log w.next w.sends) (sym c.moved)
            (now_sends g made me log next (Invokes (t.calls + 1) c.op) seen newer is path next_fits refl (room, ((omega arith, few), (fit, length-tag _ _))) tt);
        texts = by_kept (answer_unless_halted v.next (input.Payload payload)) c.takes;
      }
    where
      by_kept : (o : Option ToClient) → ((n : ToClient) → o ≡ Some n → n ≡ say.Kept) → AreMade made (checked_texts g v.next.path o)
      by_kept None each = λ text i. absurd i
      by_kept (Some n) each = subst (λ x. AreMade made (checked_texts g v.next.path (Some x))) (sym (each n refl)) (λ text i. absurd i)

  -- the log, where the newer entries are split
  log_split : (later between : List Ordered) → newer ≡ later ++ between → log ≡ later ++ (between ++ seen)
  log_split later between split = is ∙ ap (λ n. n ++ seen) split ∙ append_assoc later between seen

  -- the path with the entries of an answer put onto it
  path_grown : (ts : List Tagged) (news : List Entry) (between : List Ordered) → newest_first ts ≡ news → ts ≡ told between → news ++ t.path ≡ entries (between ++ seen)
  path_grown ts news between e listed =
      ap (λ p. p ++ t.path) (sym e ∙ ap newest_first listed ∙ newest-told between) ∙ ap (λ p. entries between ++ p) path ∙ sym (entries-joined between seen)

  made_texts : (later between : List Ordered) (p : List Entry) (x : Seal) (ts : List Tagged) → newer ≡ later ++ between → p ≡ entries (between ++ seen) → x.position ≤ length p
      → SealFits g made log x → AreMade made (map (λ u. invoke_text u.entry) ts) → AreMade made (seal_texts g p (Some x) ++ map (λ u. invoke_text u.entry) ts)
  made_texts later between p x ts split grown within sealed made_entries text i =
      elim (in_either (seal_texts g p (Some x)) (map (λ u. invoke_text u.entry) ts) text i) [
        | inl a ↦ seal_made g made later (between ++ seen) p x grown within (subst (λ l. SealFits g made l x) (log_split later between split) sealed) text a
        | inr b ↦ made_entries text b
      ]

  -- the texts that were checked where the client took an answer
  checked_made : (v : Move) (p : List Entry) (n : ToClient) → v.next.path ≡ p → answer_unless_halted v.next (input.Payload payload) ≡ Some n → AreMade made (checked_texts g p (Some n))
      → AreMade made (checked_texts g v.next.path (answer_unless_halted v.next (input.Payload payload)))
  checked_made v p n at takes h =
      subst (λ q. AreMade made (checked_texts g q (answer_unless_halted v.next (input.Payload payload)))) (sym at) (subst (λ o. AreMade made (checked_texts g p o)) (sym takes) h)

  replied_takes : (v : Move) → Replied g me t (input.Payload payload) v → Takes v
  replied_takes v r =
      let answer : ToClient = say.Reply r.seal r.entries r.bytes in
      let c : AnswerComes g made log seen newer answer = subst (AnswerComes g made log seen newer) (taken_is v.next payload m answer read r.takes) comes in
      let p : List Entry = call_of me r.seq r.op ∷ (r.others ++ t.path) in
      let grown : p ≡ entries (c.between ++ seen) = path_grown r.entries (call_of me r.seq r.op ∷ r.others) c.between r.news c.listed in
      let own : List Own = t.own ++ record { position = length p; op = r.op; done = is_done (decision me t (r.others ++ t.path) r.seal.position r.part r.op) } ∷ [] in
      let ends : Outcome = decision me t (r.others ++ t.path) r.seal.position r.part r.op in
      let next : Standing = record t { path = p; sealed = r.seal.position; root = r.seal.root.bytes; awaiting = awaits.Turn; own = own; phase = after_decision t.phase ends } in
      let next_fits : StandingFits next = record {
        sealed = omega (arith, r.below);
        own = all_append (IsWithin (length p)) t.own _ (within_more (length t.path) (length p) t.own (omega (arith, length-append r.others t.path)) fits.own) (omega arith, tt);
        root = r.sealing.spelled.root;
        root_bytes = c.seal.root_bytes;
        calls = fits.calls;
        phase = decided_holds t.calls t.phase ends fits.phase;
      } in
      record {
        client = subst (λ w. Moved g made me log w.next w.sends) (sym r.moved)
            (now_sends g made me log next (Commits (is_done (decision me t (r.others ++ t.path) r.seal.position r.part r.op))) (c.between ++ seen) c.later
            (log_split c.later c.between c.split) grown next_fits refl ((omega arith, omega (arith, r.few)), length-tag _ _) tt);
        texts = checked_made v p answer (ap (λ w. w.next.path) r.moved) r.takes (made_texts c.later c.between p r.seal r.entries c.split grown (omega (arith, r.below)) c.seal c.texts);
      }

  updated_takes : (v : Move) → Updated g me t (input.Payload payload) v → Takes v
  updated_takes v u =
      let answer : ToClient = say.Update u.seal u.bytes in
      let c : AnswerComes g made log seen newer answer = subst (AnswerComes g made log seen newer) (taken_is v.next payload m answer read u.takes) comes in
      let root : List ℕ = new_root u.first u.part u.seal.root.bytes in
      let root_fits = new_root_fits u.first u.bytes u.part u.seal.root.bytes u.are_bytes u.is_part u.sealing.spelled.root c.seal.root_bytes in
      let own = subst (AllByRecursion (IsWithin (length t.path))) u.own_is fits.own in
      let next : Standing = record t { sealed = u.seal.position + 1; root = root; own = u.rest; awaiting = awaits.Turn } in
      let within : u.seal.position + 1 ≤ length t.path = omega (arith, own.0, u.next_is) in
      let next_fits : StandingFits next = record {
        sealed = within;
        own = own.1;
        root = root_fits.0;
        root_bytes = root_fits.1;
        calls = fits.calls;
        phase = fits.phase;
      } in
      record {
        client = subst (λ w. Moved g made me log w.next w.sends) (sym u.moved)
            (now_sends g made me log next Seals seen newer is path next_fits refl ((omega arith, omega (arith, u.few)), (root_fits.0, length-tag _ _)) tt);
        texts = checked_made v t.path answer (ap (λ w. w.next.path) u.moved) u.takes (made_texts newer [] t.path u.seal [] (sym (append-nil newer)) path u.sealing.within c.seal (λ text i. absurd i));
      }

  listed_takes : (v : Move) → Listed g me t (input.Payload payload) v → Takes v
  listed_takes v l =
      let answer : ToClient = say.Entries l.seal l.entries in
      let c : AnswerComes g made log seen newer answer = subst (AnswerComes g made log seen newer) (taken_is v.next payload m answer read l.takes) comes in
      let p : List Entry = l.others ++ t.path in
      let grown : p ≡ entries (c.between ++ seen) = path_grown l.entries l.others c.between l.news c.listed in
      let next : Standing = record t { path = p; sealed = l.seal.position; root = l.seal.root.bytes; awaiting = awaits.Nothing } in
      let next_fits : StandingFits next = record {
        sealed = l.sealing.within;
        own = within_more (length t.path) (length p) t.own (omega (arith, length-append l.others t.path)) fits.own;
        root = l.sealing.spelled.root;
        root_bytes = c.seal.root_bytes;
        calls = fits.calls;
        phase = fits.phase;
      } in
      record {
        client = subst (λ w. Moved g made me log w.next w.sends) (sym l.moved) (now_rests g made me log next (c.between ++ seen) c.later (log_split c.later c.between c.split) grown next_fits);
        texts = checked_made v p answer (ap (λ w. w.next.path) l.moved) l.takes (made_texts c.later c.between p l.seal l.entries c.split grown l.sealing.within c.seal c.texts);
      }

  kind_takes : length t.path < 2 ^ 32 → (v : Move) → Loud v → Holds v → Kind g me t (input.Payload payload) v → Takes v
  kind_takes room v loud holds (is_quiet q) = quiet_takes v loud holds q
  kind_takes room v loud holds (is_called c) = called_takes room v holds c
  kind_takes room v loud holds (is_replied r) = replied_takes v r
  kind_takes room v loud holds (is_updated u) = updated_takes v u
  kind_takes room v loud holds (is_listed l) = listed_takes v l

  pub payload_taken : length t.path < 2 ^ 32 → AreBytes payload → Takes (step g me t (input.Payload payload))
  payload_taken room bytes =
      kind_takes room (step g me t (input.Payload payload)) (payload_loud g me t payload fits.phase) (payload_holds g me t payload fits.phase) (step_kind g me t (input.Payload payload) bytes)
