-- What a client sends of contents: one within the limits, or the hash in a reference that it found.
use Rattle.std.specs.Prelude.{◌≡◌, ℕ, ◌+◌, ◌≤◌, Bool, true, false, List, [], ◌∷◌, ◌++◌, length, Option, Some, None, nat_lt, if◌then◌else◌}
use Rattle.std.specs.List.{AllByRecursion, filter, fold}
use Rattle.std.specs.FinMap as map
use Rattle.std.proofs.Common.{refl, ap, subst, sym, ◌∙◌, inl, inr, arith}
use Rattle.std.proofs.lemmas.Bool.{eqb-true}
use Rattle.std.proofs.lemmas.List.{length-take-le}
use Rattle.vic_dict.specs.declared.op.Op.{Op}
use Rattle.vic_dict.specs.declared.op.Op.TheVariants as op
use Rattle.vic_dict.specs.declared.op.Answer.{Answer}
use Rattle.vic_dict.specs.declared.op.Answer.TheVariants as answer
use Rattle.vic_dict.specs.declared.op.Outcome.TheVariants as outcome
use Rattle.vic_dict.specs.declared.op.Entry.{Entry}
use Rattle.vic_dict.specs.Lists.{AreBytes}
use Rattle.vic_dict.specs.Dictionary.{Dictionary, Fits, AreBytesIn, IsKey, IsProper, nothing, answer_of_get, answer_of_del, reply, after}
use Rattle.vic_dict.proofs.ByteLists.{AreBytes-take}
use Rattle.vic_wire.specs.declared.message.Digest32.{Digest32}
use Rattle.vic_wire.specs.declared.message.Seal.{Seal}
use Rattle.vic_wire.specs.declared.message.ToClient.{ToClient}
use Rattle.vic_wire.specs.declared.message.ToClient.TheVariants as say
use Rattle.vic_wire.specs.Bits.{key_bit}
use Rattle.vic_wire.specs.Hashes.{Group}
use Rattle.vic_wire.specs.Trees.{Tree, Empty, Leaf, Inner, Stub, Pair, pairs_of}
use Rattle.vic_wire.specs.Walks.{end_at, dictionary_with_pairs}
use Rattle.vic_wire.specs.Parts.{Part, IsPart, IsNodeFrom, read_part, walked}
use Rattle.vic_wire.specs.Reading.{read_answer}
use Rattle.vic_rules.specs.declared.object.ObjectCall.{ObjectCall}
use Rattle.vic_rules.specs.declared.object.ObjectCall.TheVariants as object
use Rattle.vic_rules.specs.declared.object.Phase.{Phase}
use Rattle.vic_rules.specs.declared.object.Phase.TheVariants as phase
use Rattle.vic_rules.specs.declared.state.Own.{Own}
use Rattle.vic_rules.specs.declared.state.Awaiting.{Awaiting}
use Rattle.vic_rules.specs.declared.state.Awaiting.TheVariants as awaits
use Rattle.vic_rules.specs.declared.trace.Input.{Input}
use Rattle.vic_rules.specs.declared.trace.Input.TheVariants as input
use Rattle.vic_rules.specs.declared.trace.TraceStep.{TraceStep}
use Rattle.vic_rules.specs.Client.{Standing, Move, Sending, Invokes, Commits, Polls, Seals, Syncs, Keeps, Fetches, MayStep, at_start, step, decision, decided_outcome, in_the_way, own_calls_over, done_op, move_on_reply, move_on_update, move_on_wait, move_on_refusal, move_by_object_step, is_load, move_on_answer, move_on_verdict, move_on_payload, verdict, path_with_entries}
use Rattle.vic_rules.specs.Objects.{is_reference, hash_in, first_step, step_on_kept}
use Rattle.vic_rules.specs.History.{standing, AreSteps, completion}
use Rattle.vic_spellings.specs.Spellings.{PartHoldsBytes}
use Rattle.vic_spellings.proofs.SpelledParts.{part_takes, parts_are_spelled}
use Rattle.vic_roots.proofs.Proper.{proper-nothing, proper-insert, proper-after}
use Rattle.vic_laws.proofs.Words.{some_same, none_is_some, all_append}
use Rattle.vic_laws.proofs.Steps.{Kind, is_quiet, is_called, is_replied, is_updated, is_listed}
use Rattle.vic_laws.proofs.StepKinds.{step_kind}
use Rattle.vic_laws.proofs.Paths.{at_each_standing}
use Rattle.vic_laws.proofs.Phases.{Together, Phased, phased}

-- bytes of a digest's length
abbrev pub IsDigestText : List ℕ → Type 0
IsDigestText bytes = (length bytes ≡ 32) × AreBytes bytes

-- ---- what a look-up finds

-- the end of a walk, and of a leaf there its key and value are within the limits
abbrev FitsEnd : Tree → Type 0
FitsEnd Empty = Unit {0}
FitsEnd (Leaf k v) = (IsKey k × AreBytes k) × ((length v ≤ 64) × AreBytes v)
FitsEnd (Inner i l r) = ⊥
FitsEnd (Stub root) = Unit {0}

node_end : (k : List ℕ) (low : ℕ) (t : Tree) → IsNodeFrom low t → PartHoldsBytes t → FitsEnd (end_at k t)
node_end k low Empty is holds = absurd is
node_end k low (Leaf q v) is holds = ((is.0, holds.0), (is.1, holds.1))
node_end k low (Stub root) is holds = tt
node_end k low (Inner i l r) is holds = side (key_bit k i) (node_end k (i + 1) l is.2 holds.0) (node_end k (i + 1) r is.3 holds.1)
  where
    side : (b : Bool) → FitsEnd (end_at k l) → FitsEnd (end_at k r) → FitsEnd (if b then end_at k r else end_at k l)
    side true x y = y
    side false x y = x

part_end : (k : List ℕ) (part : Part) → IsPart part → PartHoldsBytes part → FitsEnd (end_at k part)
part_end k Empty is holds = tt
part_end k (Leaf q v) is holds = node_end k 0 (Leaf q v) is holds
part_end k (Inner i l r) is holds = node_end k 0 (Inner i l r) is holds
part_end k (Stub root) is holds = tt

abbrev FitsPair : Pair → Type 0
FitsPair p = (IsKey p.0 × AreBytes p.0) × ((length p.1 ≤ 64) × AreBytes p.1)

gathered_proper : (ps : List Pair) (d : Dictionary) → AllByRecursion FitsPair ps → IsProper d → IsProper (dictionary_with_pairs d ps)
gathered_proper [] d all proper = proper
gathered_proper (p ∷ ps) d all proper = gathered_proper ps (map.insert d p.0 p.1) all.1 (proper-insert d p.0 p.1 proper all.0)

-- what a look-up walks over is proper
walk_proper : (k : List ℕ) (part : Part) → IsPart part → PartHoldsBytes part → IsProper (walked part (op.Get k))
walk_proper k part is holds = at_end (end_at k part) (part_end k part is holds)
  where
    at_end : (t : Tree) → FitsEnd t → IsProper (dictionary_with_pairs nothing (pairs_of t))
    at_end Empty fits = proper-nothing
    at_end (Leaf q v) fits = gathered_proper ((q, v) ∷ []) nothing (fits, tt) proper-nothing
    at_end (Inner i l r) fits = absurd fits
    at_end (Stub root) fits = proper-nothing

-- the operation of an own call is within the limits
abbrev FitsOwn : Own → Type 0
FitsOwn o = Fits o.op × AreBytesIn o.op

done_proper : (d : Dictionary) (o : Own) → FitsOwn o → IsProper d → IsProper (done_op d o)
done_proper d o fits proper = now o.done
  where
    now : (b : Bool) → IsProper (if b then after d o.op else d)
    now true = proper-after d o.op proper fits.0 fits.1
    now false = proper

laid_more : (b : Bool) (d : Dictionary) (o : Own) (own : List Own) → ((e : Dictionary) → IsProper e → IsProper (fold done_op e own)) → FitsOwn o → IsProper d
    → IsProper (fold done_op d (if b then o ∷ own else own))
laid_more true d o own rest fits proper = rest (done_op d o) (done_proper d o fits proper)
laid_more false d o own rest fits proper = rest d proper

laid_proper : (own : List Own) (base : ℕ) (d : Dictionary) → AllByRecursion FitsOwn own → IsProper d → IsProper (own_calls_over own base d)
laid_proper [] base d all proper = proper
laid_proper (o ∷ own) base d all proper =
    laid_more (nat_lt base o.position) d o (filter (λ x. nat_lt base x.position) own) (λ e. laid_proper own base e all.1) all.0 proper

same_value : (v w : List ℕ) → answer.Found v ≡ answer.Found w → v ≡ w
same_value v w e = cc

found_value : (o : Option (List ℕ)) (v : List ℕ) → answer_of_get o ≡ answer.Found v → o ≡ Some v
found_value None v e = absurd cc
found_value (Some w) v e = ap Some (same_value w v e)

same_answer : (a b : Answer) → outcome.Done a ≡ outcome.Done b → a ≡ b
same_answer a b e = cc

-- a value that a client decided to have found is bytes
found_bytes : (me : ℕ) (s : Standing) (below : List Entry) (base : ℕ) (part : Part) (o : Op) (v : List ℕ) → AllByRecursion FitsOwn s.own → IsPart part → PartHoldsBytes part
    → decision me s below base part o ≡ outcome.Done (answer.Found v) → AreBytes v
unfolding decision
found_bytes me s below base part o v own is holds e = now (in_the_way me o base below) e
  where
    looked : (o : Op) → reply (own_calls_over s.own base (walked part o)) o ≡ answer.Found v → AreBytes v
    looked (op.Put k w) f = absurd cc
    looked (op.Get k) f = (laid_proper s.own base (walked part (op.Get k)) own (walk_proper k part is holds) k v (found_value (map.get (own_calls_over s.own base (walked part (op.Get k))) k) v f)).1.1
    looked (op.Del k) f = absurd (not_gone (map.get (own_calls_over s.own base (walked part (op.Del k))) k) f)
      where
        not_gone : (x : Option (List ℕ)) → answer_of_del x ≡ answer.Found v → ⊥
        not_gone None f = cc
        not_gone (Some w) f = cc
    looked (op.List p) f = absurd cc

    now : (u : Option ℕ) → decided_outcome u (own_calls_over s.own base (walked part o)) o ≡ outcome.Done (answer.Found v) → AreBytes v
    now None f = looked o (same_answer _ _ f)
    now (Some u) f = absurd cc

-- ---- references that were found

hash_before : (v : List ℕ) → is_reference v ≡ true → AreBytes v → IsDigestText (hash_in v)
hash_before v size bytes = (length-take-le 32 v (let l = eqb-true (length v) 36 size in omega arith), AreBytes-take 32 v bytes)

-- the hash that a client is to fetch
abbrev pub FetchFits : Phase → Type 0
FetchFits p = (h : Digest32) (len : ℕ) → p ≡ phase.Fetching h len → IsDigestText h.bytes

-- what a standing holds of contents
pub record Holds (s : Standing) : Type 0 where
  pub together : Together s.phase s.awaiting
  pub own : AllByRecursion FitsOwn s.own
  pub fetch : FetchFits s.phase

-- what was found at a step is bytes
step_found : (g : Group) (me : ℕ) (s : Standing) (i : Input) (v : Move) → Kind g me s i v → AllByRecursion FitsOwn s.own
    → (value : List ℕ) → v.returns ≡ Some (outcome.Done (answer.Found value)) → AreBytes value
step_found g me s i v (is_quiet k) own value e =
    absurd (let w : completion me [] (Some (outcome.Done (answer.Found value))) ≡ [] = ap (completion me []) (sym e) ∙ k.completes_nothing me [] in cc)
step_found g me s i v (is_called k) own value e = absurd (none_is_some (sym (ap (λ (m : Move). m.returns) k.moved) ∙ e))
step_found g me s i v (is_replied k) own value e =
    let t = part_takes k.bytes k.part k.are_bytes k.is_part in
    found_bytes me s (k.others ++ s.path) k.seal.position k.part k.op value own t.0 ((parts_are_spelled.in_bytes k.part t.0).0 (subst AreBytes t.1 k.are_bytes))
    (some_same (sym (ap (λ (m : Move). m.returns) k.moved) ∙ e))
step_found g me s i v (is_updated k) own value e = absurd (none_is_some (sym (ap (λ (m : Move). m.returns) k.moved) ∙ e))
step_found g me s i v (is_listed k) own value e = absurd (none_is_some (sym (ap (λ (m : Move). m.returns) k.moved) ∙ e))

own_kept : (g : Group) (me : ℕ) (s : Standing) (i : Input) (v : Move) → Kind g me s i v → AllByRecursion FitsOwn s.own → AllByRecursion FitsOwn v.next.own
own_kept g me s i v (is_quiet k) own = subst (AllByRecursion FitsOwn) (sym k.own) own
own_kept g me s i v (is_called k) own = subst (λ (m : Move). AllByRecursion FitsOwn m.next.own) (sym k.moved) own
own_kept g me s i v (is_replied k) own = subst (λ (m : Move). AllByRecursion FitsOwn m.next.own) (sym k.moved) (all_append FitsOwn s.own _ own (k.arrived.spelled.0.op, tt))
own_kept g me s i v (is_updated k) own = subst (λ (m : Move). AllByRecursion FitsOwn m.next.own) (sym k.moved) (subst (AllByRecursion FitsOwn) k.own_is own).1
own_kept g me s i v (is_listed k) own = subst (λ (m : Move). AllByRecursion FitsOwn m.next.own) (sym k.moved) own

holds_on : (g : Group) (me : ℕ) (s : Standing) (i : Input) → MayStep g s i → Holds s → Holds (step g me s i).next
holds_on g me s i may h = record { together = p.together; own = own_kept g me s i v kind h.own; fetch = fetch }
  where
    v : Move
    v = step g me s i

    kind : Kind g me s i v
    kind = step_kind g me s i may

    p : Phased s i v
    p = phased g me s i may h.together

    fetch : FetchFits v.next.phase
    fetch d len e = elim (p.fetching d len e) [
      | inl before ↦ h.fetch d len before
      | inr finds ↦ subst IsDigestText (sym finds.hash_is) (hash_before finds.value finds.size (step_found g me s i v kind h.own finds.value finds.is))
    ]

holds_first : Holds at_start
holds_first = record { together = ((λ h len e. cc), (λ e. cc)); own = tt; fetch = λ h len e. absurd cc }

-- so each client stands
pub holds_at : (g : Group) (h : List TraceStep) → AreSteps g h → (me : ℕ) → Holds (standing g me h)
holds_at g h steps me = at_each_standing g (λ j s. Holds s) (λ j. holds_first) (λ j s i may held. holds_on g j s i may held) h steps me

-- ---- what is sent

-- a content that is sent is within the limits, and a hash that is sent is one
abbrev pub ContentFits : Option Sending → Type 0
ContentFits None = Unit {0}
ContentFits (Some (Invokes n o)) = Unit {0}
ContentFits (Some (Commits done)) = Unit {0}
ContentFits (Some Polls) = Unit {0}
ContentFits (Some Seals) = Unit {0}
ContentFits (Some Syncs) = Unit {0}
ContentFits (Some (Keeps content)) = (length content ≤ 8388608) × AreBytes content
ContentFits (Some (Fetches h)) = IsDigestText h

fits_reply : (me : ℕ) (s : Standing) (seal : Seal) (path : List Entry) (part : Option Part) (a : Awaiting) → ContentFits (move_on_reply me s seal path part a).sends
fits_reply me s seal (e ∷ below) (Some part) (awaits.Reply n o load) = tt
fits_reply me s seal [] part a = tt
fits_reply me s seal (e ∷ below) None a = tt
fits_reply me s seal (e ∷ below) (Some part) awaits.Nothing = tt
fits_reply me s seal (e ∷ below) (Some part) awaits.Turn = tt
fits_reply me s seal (e ∷ below) (Some part) awaits.Entries = tt
fits_reply me s seal (e ∷ below) (Some part) awaits.Kept = tt
fits_reply me s seal (e ∷ below) (Some part) (awaits.Content h len) = tt

fits_update : (s : Standing) (seal : Seal) (part : Option Part) (own : List Own) → ContentFits (move_on_update s seal part own).sends
fits_update s seal (Some part) (o ∷ others) = tt
fits_update s seal None own = tt
fits_update s seal (Some part) [] = tt

fits_wait : (s : Standing) (p : Phase) → FetchFits p → ContentFits (move_on_wait s p).sends
fits_wait s phase.Closed fits = tt
fits_wait s (phase.Keeping k h len) fits = tt
fits_wait s phase.Calling fits = tt
fits_wait s (phase.Fetching h len) fits = fits h len refl

fits_refused : (s : Standing) (r : ℕ) (a : Awaiting) → ContentFits (move_on_refusal s r a).sends
fits_refused s r awaits.Kept = tt
fits_refused s r (awaits.Reply n o load) = tt
fits_refused s r awaits.Nothing = tt
fits_refused s r awaits.Turn = tt
fits_refused s r awaits.Entries = tt
fits_refused s r (awaits.Content h len) = tt

fits_kept : (s : Standing) (p : Phase) → ContentFits (move_by_object_step s false (step_on_kept p)).sends
fits_kept s (phase.Keeping k h len) = tt
fits_kept s phase.Closed = tt
fits_kept s phase.Calling = tt
fits_kept s (phase.Fetching h len) = tt

fits_taken : (me : ℕ) (s : Standing) (m : ToClient) → FetchFits s.phase → ContentFits (move_on_answer me s m).sends
fits_taken me s say.Hi fits = tt
fits_taken me s (say.Reply seal entries part) fits = fits_reply me s seal (path_with_entries s entries) (read_part part) s.awaiting
fits_taken me s say.Wait fits = fits_wait s s.phase fits
fits_taken me s (say.Update seal part) fits = fits_update s seal (read_part part) s.own
fits_taken me s (say.Entries seal entries) fits = tt
fits_taken me s (say.Refused r) fits = fits_refused s r s.awaiting
fits_taken me s say.Kept fits = fits_kept s s.phase
fits_taken me s (say.Content c) fits = tt
fits_taken me s say.Gone fits = tt
fits_taken me s say.Absent fits = tt

fits_read : (me : ℕ) (s : Standing) (m : Option ToClient) (k : Option ℕ) → FetchFits s.phase → ContentFits (move_on_verdict me s m k).sends
fits_read me s m (Some k) fits = tt
fits_read me s (Some m) None fits = fits_taken me s m fits
fits_read me s None None fits = tt

fits_payload : (g : Group) (me : ℕ) (s : Standing) (halted : Option ℕ) (payload : List ℕ) → FetchFits s.phase → ContentFits (move_on_payload g me s halted payload).sends
fits_payload g me s (Some k) payload fits = tt
fits_payload g me s None payload fits = fits_read me s (read_answer payload) (verdict g me s payload) fits

fits_object : (g : Group) (s : Standing) (c : ObjectCall) → MayStep g s (input.Object c) → ContentFits (move_by_object_step s (is_load c) (first_step c)).sends
fits_object g s (object.Store k c) may = (may.1.1.0.1, may.1.1.1.0.1)
fits_object g s (object.Load k) may = tt
fits_object g s (object.Erase k) may = tt
fits_object g s (object.Names p) may = tt

-- what a step sends of contents
pub step_fits : (g : Group) (me : ℕ) (s : Standing) (i : Input) → MayStep g s i → Holds s → ContentFits (step g me s i).sends
unfolding step
step_fits g me s (input.Call o) may h = tt
step_fits g me s (input.Object c) may h = fits_object g s c may
step_fits g me s input.Poll may h = tt
step_fits g me s input.Sync may h = tt
step_fits g me s (input.Payload payload) may h = fits_payload g me s s.halted payload h.fetch
