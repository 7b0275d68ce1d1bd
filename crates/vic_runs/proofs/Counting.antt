-- How many calls a client was asked for, step by step.
use Rattle.std.proofs.Common.{◌≡◌, ℕ, ◌+◌, ◌≤◌, Bool, true, false, List, [], ◌∷◌, Option, Some, None, inl, inr, sym, ap, subst, refl, arith}
use Rattle.std.specs.Prelude.{if◌then◌else◌}
use Rattle.std.proofs.lemmas.Bool.{cases_eq}
use Rattle.vic_dict.specs.declared.op.Answer.{Answer}
use Rattle.vic_dict.specs.declared.op.Answer.TheVariants as answer
use Rattle.vic_dict.specs.declared.op.Entry.{Entry}
use Rattle.vic_dict.specs.declared.op.Outcome.{Outcome}
use Rattle.vic_dict.specs.declared.op.Outcome.TheVariants as outcome
use Rattle.vic_wire.specs.declared.message.Seal.{Seal}
use Rattle.vic_wire.specs.declared.message.ToClient.{ToClient}
use Rattle.vic_wire.specs.declared.message.ToClient.TheVariants as say
use Rattle.vic_wire.specs.Hashes.{Group}
use Rattle.vic_wire.specs.Parts.{Part, read_part}
use Rattle.vic_wire.specs.Reading.{read_answer}
use Rattle.vic_rules.specs.declared.object.ObjectCall.TheVariants as object
use Rattle.vic_rules.specs.declared.object.Phase.{Phase}
use Rattle.vic_rules.specs.declared.object.Phase.TheVariants as phase
use Rattle.vic_rules.specs.declared.object.Next.TheVariants as next
use Rattle.vic_rules.specs.declared.state.Own.{Own}
use Rattle.vic_rules.specs.declared.state.Awaiting.{Awaiting}
use Rattle.vic_rules.specs.declared.state.Awaiting.TheVariants as awaits
use Rattle.vic_rules.specs.declared.trace.Input.{Input}
use Rattle.vic_rules.specs.declared.trace.Input.TheVariants as input
use Rattle.vic_rules.specs.declared.trace.TraceStep.{TraceStep}
use Rattle.vic_rules.specs.Objects.{ObjectStep, step_on_answer, step_on_kept, after_decision, is_reference, hash_in, length_in}
use Rattle.vic_rules.specs.Client.{Standing, Move, move_on_wait, move_by_object_step, move_on_refusal, step, path_with_entries, decision, move_on_reply, move_on_update, move_on_answer, move_on_verdict, move_on_payload, verdict}
use Rattle.vic_rules.specs.History.{standing, move_of}
use Rattle.vic_laws.proofs.Standings.{standing_moved, standing_kept}
use Rattle.vic_runs.specs.Reached.{to_call, calls_in}

-- ---- a payload asks for no call

answered_calls : (a : Answer) → to_call (step_on_answer a).0 ≤ 0
answered_calls answer.Stored = omega arith
answered_calls (answer.Found v) = by_test (is_reference v)
  where
    by_test : (b : Bool) → to_call (if◌then◌else◌ {A = ObjectStep} b (phase.Fetching (record { bytes = hash_in v }) (length_in v), next.Fetch (record { bytes = hash_in v }) (length_in v)) (phase.Closed, next.Bad)).0 ≤ 0
    by_test true = omega arith
    by_test false = omega arith
answered_calls answer.NotFound = omega arith
answered_calls answer.Removed = omega arith
answered_calls answer.Absent = omega arith
answered_calls (answer.Names names) = omega arith

decided_calls : (p : Phase) (o : Outcome) → to_call (after_decision p o) ≤ to_call p
decided_calls phase.Closed o = omega arith
decided_calls (phase.Keeping k h len) o = omega arith
decided_calls (phase.Fetching h len) o = omega arith
decided_calls phase.Calling (outcome.Done a) = answered_calls a
decided_calls phase.Calling (outcome.Aborted u) = omega arith
decided_calls phase.Calling (outcome.Refused r) = omega arith
decided_calls phase.Calling (outcome.Halted k) = omega arith

-- a move asks for no call
abbrev Same : Standing → Move → Type 0
Same t v = calls_in v.next ≤ calls_in t

replied_calls : (me : ℕ) (t : Standing) (seal : Seal) (path : List Entry) (part : Option Part) (a : Awaiting) → Same t (move_on_reply me t seal path part a)
replied_calls me t seal [] part a = omega arith
replied_calls me t seal (e ∷ below) None a = omega arith
replied_calls me t seal (e ∷ below) (Some part) (awaits.Reply n o load) = omega (arith, decided_calls t.phase (decision me t below seal.position part o))
replied_calls me t seal (e ∷ below) (Some part) awaits.Nothing = omega arith
replied_calls me t seal (e ∷ below) (Some part) awaits.Turn = omega arith
replied_calls me t seal (e ∷ below) (Some part) awaits.Entries = omega arith
replied_calls me t seal (e ∷ below) (Some part) awaits.Kept = omega arith
replied_calls me t seal (e ∷ below) (Some part) (awaits.Content h len) = omega arith

updated_calls : (t : Standing) (seal : Seal) (part : Option Part) (own : List Own) → Same t (move_on_update t seal part own)
updated_calls t seal None own = omega arith
updated_calls t seal (Some part) [] = omega arith
updated_calls t seal (Some part) (o ∷ others) = omega arith

waited_calls : (t : Standing) (p : Phase) → Same t (move_on_wait t p)
waited_calls t phase.Closed = omega arith
waited_calls t (phase.Keeping k h len) = omega arith
waited_calls t phase.Calling = omega arith
waited_calls t (phase.Fetching h len) = omega arith

-- a store whose content is kept calls what it was asked for
kept_calls : (t : Standing) (p : Phase) → t.phase ≡ p → Same t (move_by_object_step t false (step_on_kept p))
kept_calls t phase.Closed e = omega arith
kept_calls t (phase.Keeping k h len) e = omega (arith, ap to_call e)
kept_calls t phase.Calling e = omega arith
kept_calls t (phase.Fetching h len) e = omega arith

refused_calls : (t : Standing) (r : ℕ) (a : Awaiting) → Same t (move_on_refusal t r a)
refused_calls t r awaits.Kept = omega arith
refused_calls t r awaits.Nothing = omega (arith, decided_calls t.phase (outcome.Refused r))
refused_calls t r (awaits.Reply n o load) = omega (arith, decided_calls t.phase (outcome.Refused r))
refused_calls t r awaits.Turn = omega (arith, decided_calls t.phase (outcome.Refused r))
refused_calls t r awaits.Entries = omega (arith, decided_calls t.phase (outcome.Refused r))
refused_calls t r (awaits.Content h len) = omega (arith, decided_calls t.phase (outcome.Refused r))

taken_calls : (me : ℕ) (t : Standing) (m : ToClient) → Same t (move_on_answer me t m)
taken_calls me t say.Hi = omega arith
taken_calls me t (say.Reply seal ts part) = replied_calls me t seal (path_with_entries t ts) (read_part part) t.awaiting
taken_calls me t say.Wait = waited_calls t t.phase
taken_calls me t (say.Update seal part) = updated_calls t seal (read_part part) t.own
taken_calls me t (say.Entries seal ts) = omega arith
taken_calls me t (say.Refused r) = refused_calls t r t.awaiting
taken_calls me t say.Kept = kept_calls t t.phase refl
taken_calls me t (say.Content c) = omega arith
taken_calls me t say.Gone = omega arith
taken_calls me t say.Absent = omega arith

or_halts_calls : (me : ℕ) (t : Standing) (m : Option ToClient) (k : Option ℕ) → Same t (move_on_verdict me t m k)
or_halts_calls me t m (Some k) = omega arith
or_halts_calls me t (Some m) None = taken_calls me t m
or_halts_calls me t None None = omega arith

payload_calls : (g : Group) (me : ℕ) (t : Standing) (k : Option ℕ) (payload : List ℕ) → Same t (move_on_payload g me t k payload)
payload_calls g me t (Some k) payload = omega arith
payload_calls g me t None payload = or_halts_calls me t (read_answer payload) (verdict g me t payload)

taking_calls : (g : Group) (me : ℕ) (t : Standing) (payload : List ℕ) → Same t (step g me t (input.Payload payload))
unfolding step
taking_calls g me t payload = payload_calls g me t t.halted payload

-- any other step asks for one at most
step_calls : (g : Group) (me : ℕ) (t : Standing) (i : Input) → calls_in (step g me t i).next ≤ calls_in t + 1
unfolding step
step_calls g me t (input.Call o) = omega arith
step_calls g me t (input.Object (object.Store k c)) = omega arith
step_calls g me t (input.Object (object.Load k)) = omega arith
step_calls g me t (input.Object (object.Erase k)) = omega arith
step_calls g me t (input.Object (object.Names p)) = omega arith
step_calls g me t input.Poll = omega arith
step_calls g me t input.Sync = omega arith
step_calls g me t (input.Payload payload) = omega (arith, payload_calls g me t t.halted payload)

-- ---- along a history

-- what holds of the client that steps, and of those that stay, holds of each
by_client : (P : Standing → Standing → Type 0) (g : Group) (past : List TraceStep) (x : TraceStep) → P (standing g x.client past) (move_of g past x).next → ((j : ℕ) → P (standing g j past) (standing g j past))
    → (j : ℕ) → P (standing g j past) (standing g j (x ∷ past))
by_client P g past x moves stays j =
    elim (cases_eq x.client j) [
      | inl e ↦ subst (λ t. P (standing g j past) t) (sym (standing_moved g j x past e)) (subst (λ k. P (standing g k past) (move_of g past x).next) e moves)
      | inr apart ↦ subst (λ t. P (standing g j past) t) (sym (standing_kept g j x past apart)) (stays j)
    ]

-- a step asks for at most one call
pub calls-step : (g : Group) (past : List TraceStep) (x : TraceStep) (j : ℕ) → calls_in (standing g j (x ∷ past)) ≤ calls_in (standing g j past) + 1
calls-step g past x j = by_client (λ s t. calls_in t ≤ calls_in s + 1) g past x (step_calls g x.client (standing g x.client past) x.input) (λ k. omega arith) j

-- a step that takes a payload asks for none
pub calls-payload : (g : Group) (past : List TraceStep) (x : TraceStep) (payload : List ℕ) → x.input ≡ input.Payload payload → (j : ℕ) → calls_in (standing g j (x ∷ past)) ≤ calls_in (standing g j past)
calls-payload g past x payload e j =
    by_client (λ s t. calls_in t ≤ calls_in s) g past x
    (subst (λ i. calls_in (step g x.client (standing g x.client past) i).next ≤ calls_in (standing g x.client past)) (sym e) (taking_calls g x.client (standing g x.client past) payload)) (λ k. omega arith) j
