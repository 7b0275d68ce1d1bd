-- What a caller is told of a refusal is what the server answered to its call.
use Rattle.vic_order.specs.Fates.{entries}
use Rattle.std.proofs.Common.{◌≡◌, ℕ, ◌<◌, ◌≤◌, ◌⊎◌, Bool, true, false, List, [], ◌∷◌, ◌++◌, Option, Some, None, inl, inr, refl, sym, ap, subst, ◌∙◌, arith}
use Rattle.std.proofs.lemmas.Bool.{cases_eq}
use Rattle.vic_dict.specs.declared.op.Op.{Op}
use Rattle.vic_dict.specs.declared.op.Entry.{Entry}
use Rattle.vic_dict.specs.declared.op.Outcome.TheVariants as outcome
use Rattle.vic_dict.specs.declared.op.Answer.{Answer}
use Rattle.vic_dict.specs.declared.op.Answer.TheVariants as answer
use Rattle.vic_dict.specs.Dictionary.{Dictionary, reply}
use Rattle.std.specs.Prelude.{if◌then◌else◌}
use Rattle.vic_wire.specs.declared.message.Seal.{Seal}
use Rattle.vic_wire.specs.declared.message.ToClient.{ToClient}
use Rattle.vic_wire.specs.declared.message.ToClient.TheVariants as say
use Rattle.vic_wire.specs.Hashes.{Group, IsGroup}
use Rattle.vic_wire.specs.Messages.{answer_text}
use Rattle.vic_wire.specs.Parts.{Part, read_part}
use Rattle.vic_wire.specs.Reading.{read_answer}
use Rattle.vic_rules.specs.declared.state.Awaiting.{Awaiting}
use Rattle.vic_rules.specs.declared.state.Awaiting.TheVariants as awaits
use Rattle.vic_rules.specs.declared.state.Own.{Own}
use Rattle.vic_rules.specs.declared.trace.Input.{Input}
use Rattle.vic_rules.specs.declared.trace.Input.TheVariants as input
use Rattle.vic_rules.specs.declared.trace.TraceStep.{TraceStep}
use Rattle.vic_rules.specs.Client.{Standing, Move, step, path_with_entries, decision, decided_outcome, move_on_reply, move_on_update, move_on_answer, move_on_verdict, move_on_payload, verdict, move_on_wait, move_by_object_step, move_on_refusal}
use Rattle.vic_rules.specs.declared.object.Phase.{Phase}
use Rattle.vic_rules.specs.declared.object.Phase.TheVariants as phase
use Rattle.vic_rules.specs.declared.object.ObjectCall.TheVariants as object
use Rattle.vic_rules.specs.declared.object.ObjectOutcome.TheVariants as ended
use Rattle.vic_rules.specs.declared.object.Next.TheVariants as next
use Rattle.vic_rules.specs.Objects.{ObjectStep, step_on_kept, step_on_answer, final_outcome, outcome_after_decision, is_reference, hash_in, length_in}
use Rattle.vic_honest.proofs.Sent.{IsApart, apart_front, ask_idle}
use Rattle.vic_rules.specs.History.{standing}
use Rattle.vic_order.specs.Order.{Server, serve}
use Rattle.vic_order.specs.Serving.{by_rule}
use Rattle.vic_order.specs.Scenes.{Queue, Scene, queue_of, set_queue, server_at, after_step, after_serving_from, after_serving, after_taking_from, after_taking, payload_as_is, Event, Asks, Serves, Takes, Flips, Hears, Resends, Copies, Joins, after_event, MayAsk}
use Rattle.vic_order.specs.Honest.{MayHonestly, scene_after, AreHonest}
use Rattle.vic_spellings.proofs.SpelledAnswers.{answer_again}
use Rattle.vic_laws.proofs.Words.{some_same}
use Rattle.vic_laws.proofs.Standings.{standing_kept}
use Rattle.vic_honest.specs.SafeRuns.{IsSafeRun}
use Rattle.vic_honest.specs.Claims.{WasRefused, StoreWasRefused}
use Rattle.vic_honest.proofs.Queues.{queue-set_same, queue-set_other, queue-fresh}
use Rattle.vic_honest.proofs.Events.{scene-group}
use Rattle.vic_honest.proofs.Standing.{world_of, SceneFits, Doing, Rests, Sends, Gets, up_by, down_by}
use Rattle.vic_honest.proofs.Worlds.{step_of, server_is, server_after, all_fit}
use Rattle.vic_honest.proofs.Known.{SceneKnows, nothing_under_way, answer_spelled, all_known}
use Rattle.vic_honest.proofs.Refusals.{world_refuses, world_awaits, world_keeps}

-- ---- a client returns a refusal only where it takes one

decided_not : (u : Option ℕ) (d : Dictionary) (o : Op) (r : ℕ) → Some (decided_outcome u d o) ≡ Some (outcome.Refused r) → ⊥
decided_not None d o r e = absurd cc
decided_not (Some u) d o r e = absurd cc

replied_not : (me : ℕ) (t : Standing) (seal : Seal) (p : List Entry) (part : Option Part) (a : Awaiting) (r : ℕ) → (move_on_reply me t seal p part a).returns ≡ Some (outcome.Refused r) → ⊥
unfolding decision
replied_not me t seal [] part a r e = absurd cc
replied_not me t seal (x ∷ below) None a r e = absurd cc
replied_not me t seal (x ∷ below) (Some part) (awaits.Reply n o load) r e = decided_not _ _ _ r e
replied_not me t seal (x ∷ below) (Some part) awaits.Nothing r e = absurd cc
replied_not me t seal (x ∷ below) (Some part) awaits.Turn r e = absurd cc
replied_not me t seal (x ∷ below) (Some part) awaits.Entries r e = absurd cc
replied_not me t seal (x ∷ below) (Some part) awaits.Kept r e = absurd cc
replied_not me t seal (x ∷ below) (Some part) (awaits.Content hash len) r e = absurd cc

updated_not : (t : Standing) (seal : Seal) (part : Option Part) (own : List Own) (r : ℕ) → (move_on_update t seal part own).returns ≡ Some (outcome.Refused r) → ⊥
updated_not t seal None own r e = absurd cc
updated_not t seal (Some part) [] r e = absurd cc
updated_not t seal (Some part) (o ∷ others) r e = absurd cc

waited_not : (t : Standing) (p : Phase) (r : ℕ) → (move_on_wait t p).returns ≡ Some (outcome.Refused r) → ⊥
waited_not t phase.Closed r e = absurd cc
waited_not t (phase.Keeping k h len) r e = absurd cc
waited_not t phase.Calling r e = absurd cc
waited_not t (phase.Fetching h len) r e = absurd cc

kept_not : (t : Standing) (p : Phase) (r : ℕ) → (move_by_object_step t false (step_on_kept p)).returns ≡ Some (outcome.Refused r) → ⊥
kept_not t phase.Closed r e = absurd cc
kept_not t (phase.Keeping k h len) r e = absurd cc
kept_not t phase.Calling r e = absurd cc
kept_not t (phase.Fetching h len) r e = absurd cc

-- a refusal, and not of a content
abbrev Tells : Standing → Option ToClient → ℕ → Type 0
Tells t m r = (m ≡ Some (say.Refused r)) × (t.awaiting ≡ awaits.Kept → ⊥)

refused_tells : (t : Standing) (k r : ℕ) (a : Awaiting) → t.awaiting ≡ a → (move_on_refusal t k a).returns ≡ Some (outcome.Refused r) → Tells t (Some (say.Refused k)) r
refused_tells t k r awaits.Kept at e = absurd cc
refused_tells t k r awaits.Nothing at e = let same : k ≡ r = cc in (ap (λ n. Some (say.Refused n)) same, λ x. let other = sym at ∙ x in absurd cc)
refused_tells t k r (awaits.Reply n o load) at e = let same : k ≡ r = cc in (ap (λ n. Some (say.Refused n)) same, λ x. let other = sym at ∙ x in absurd cc)
refused_tells t k r awaits.Turn at e = let same : k ≡ r = cc in (ap (λ n. Some (say.Refused n)) same, λ x. let other = sym at ∙ x in absurd cc)
refused_tells t k r awaits.Entries at e = let same : k ≡ r = cc in (ap (λ n. Some (say.Refused n)) same, λ x. let other = sym at ∙ x in absurd cc)
refused_tells t k r (awaits.Content h len) at e = let same : k ≡ r = cc in (ap (λ n. Some (say.Refused n)) same, λ x. let other = sym at ∙ x in absurd cc)

taken_refused : (me : ℕ) (t : Standing) (m : ToClient) (r : ℕ) → (move_on_answer me t m).returns ≡ Some (outcome.Refused r) → Tells t (Some m) r
taken_refused me t say.Hi r e = absurd cc
taken_refused me t (say.Reply seal entries part) r e = absurd (replied_not me t seal (path_with_entries t entries) (read_part part) t.awaiting r e)
taken_refused me t say.Wait r e = absurd (waited_not t t.phase r e)
taken_refused me t (say.Update seal part) r e = absurd (updated_not t seal (read_part part) t.own r e)
taken_refused me t (say.Entries seal entries) r e = absurd cc
taken_refused me t (say.Refused k) r e = refused_tells t k r t.awaiting refl e
taken_refused me t say.Kept r e = absurd (kept_not t t.phase r e)
taken_refused me t (say.Content c) r e = absurd cc
taken_refused me t say.Gone r e = absurd cc
taken_refused me t say.Absent r e = absurd cc

taken_or_refused : (me : ℕ) (t : Standing) (m : Option ToClient) (k : Option ℕ) (r : ℕ) → (move_on_verdict me t m k).returns ≡ Some (outcome.Refused r) → Tells t m r
taken_or_refused me t m (Some k) r e = absurd cc
taken_or_refused me t (Some m) None r e = taken_refused me t m r e
taken_or_refused me t None None r e = absurd cc

payload_refused : (g : Group) (me : ℕ) (t : Standing) (halted : Option ℕ) (payload : List ℕ) (r : ℕ) → (move_on_payload g me t halted payload).returns ≡ Some (outcome.Refused r) → Tells t (read_answer payload) r
payload_refused g me t (Some k) payload r e = absurd cc
payload_refused g me t None payload r e = taken_or_refused me t (read_answer payload) (verdict g me t payload) r e

take_refused : (g : Group) (me : ℕ) (t : Standing) (payload : List ℕ) (r : ℕ) → (step g me t (input.Payload payload)).returns ≡ Some (outcome.Refused r) → Tells t (read_answer payload) r
unfolding step
take_refused g me t payload r e = payload_refused g me t t.halted payload r e

-- ---- a call on objects ends refused with its call, or where its content is refused

answered_ends : (a : Answer) (r : ℕ) → final_outcome (step_on_answer a).1 ≡ Some (ended.Refused r) → ⊥
answered_ends answer.Stored r e = absurd cc
answered_ends (answer.Found v) r e = by_test (is_reference v) e
  where
    by_test : (b : Bool)
        → final_outcome (if◌then◌else◌ {A = ObjectStep} b (phase.Fetching (record { bytes = hash_in v }) (length_in v), next.Fetch (record { bytes = hash_in v }) (length_in v)) (phase.Closed, next.Bad)).1 ≡ Some (ended.Refused r) → ⊥
    by_test true e = absurd cc
    by_test false e = absurd cc
answered_ends answer.NotFound r e = absurd cc
answered_ends answer.Removed r e = absurd cc
answered_ends answer.Absent r e = absurd cc
answered_ends (answer.Names names) r e = absurd cc

decided_ends : (p : Phase) (u : Option ℕ) (d : Dictionary) (o : Op) (r : ℕ) → outcome_after_decision p (decided_outcome u d o) ≡ Some (ended.Refused r) → ⊥
decided_ends phase.Closed u d o r e = absurd cc
decided_ends (phase.Keeping k h len) u d o r e = absurd cc
decided_ends (phase.Fetching h len) u d o r e = absurd cc
decided_ends phase.Calling None d o r e = answered_ends (reply d o) r e
decided_ends phase.Calling (Some u) d o r e = absurd cc

-- a refusal ends a call on objects with its call
refused_ends : (p : Phase) (k r : ℕ) → outcome_after_decision p (outcome.Refused k) ≡ Some (ended.Refused r) → k ≡ r
refused_ends phase.Closed k r e = absurd cc
refused_ends (phase.Keeping q h len) k r e = absurd cc
refused_ends (phase.Fetching h len) k r e = absurd cc
refused_ends phase.Calling k r e = cc

replied_ends : (me : ℕ) (t : Standing) (seal : Seal) (p : List Entry) (part : Option Part) (a : Awaiting) (r : ℕ) → (move_on_reply me t seal p part a).object ≡ Some (ended.Refused r) → ⊥
unfolding decision
replied_ends me t seal [] part a r e = absurd cc
replied_ends me t seal (x ∷ below) None a r e = absurd cc
replied_ends me t seal (x ∷ below) (Some part) (awaits.Reply n o load) r e = decided_ends t.phase _ _ o r e
replied_ends me t seal (x ∷ below) (Some part) awaits.Nothing r e = absurd cc
replied_ends me t seal (x ∷ below) (Some part) awaits.Turn r e = absurd cc
replied_ends me t seal (x ∷ below) (Some part) awaits.Entries r e = absurd cc
replied_ends me t seal (x ∷ below) (Some part) awaits.Kept r e = absurd cc
replied_ends me t seal (x ∷ below) (Some part) (awaits.Content hash len) r e = absurd cc

updated_ends : (t : Standing) (seal : Seal) (part : Option Part) (own : List Own) (r : ℕ) → (move_on_update t seal part own).object ≡ Some (ended.Refused r) → ⊥
updated_ends t seal None own r e = absurd cc
updated_ends t seal (Some part) [] r e = absurd cc
updated_ends t seal (Some part) (o ∷ others) r e = absurd cc

waited_ends : (t : Standing) (p : Phase) (r : ℕ) → (move_on_wait t p).object ≡ Some (ended.Refused r) → ⊥
waited_ends t phase.Closed r e = absurd cc
waited_ends t (phase.Keeping k h len) r e = absurd cc
waited_ends t phase.Calling r e = absurd cc
waited_ends t (phase.Fetching h len) r e = absurd cc

kept_ends : (t : Standing) (p : Phase) (r : ℕ) → (move_by_object_step t false (step_on_kept p)).object ≡ Some (ended.Refused r) → ⊥
kept_ends t phase.Closed r e = absurd cc
kept_ends t (phase.Keeping k h len) r e = absurd cc
kept_ends t phase.Calling r e = absurd cc
kept_ends t (phase.Fetching h len) r e = absurd cc

-- what it returned of its call, or the refusal of a content
abbrev Ends : Standing → Option ToClient → Move → ℕ → Type 0
Ends t m v r = (v.returns ≡ Some (outcome.Refused r)) ⊎ ((m ≡ Some (say.Refused r)) × (t.awaiting ≡ awaits.Kept))

with_call : (t : Standing) (k r : ℕ) (v : Move) → v.returns ≡ Some (outcome.Refused k) → v.object ≡ outcome_after_decision t.phase (outcome.Refused k) → v.object ≡ Some (ended.Refused r) → Ends t (Some (say.Refused k)) v r
with_call t k r v returns object e = inl (returns ∙ ap (λ n. Some (outcome.Refused n)) (refused_ends t.phase k r (sym object ∙ e)))

refused_object : (t : Standing) (k r : ℕ) (a : Awaiting) → t.awaiting ≡ a → (move_on_refusal t k a).object ≡ Some (ended.Refused r) → Ends t (Some (say.Refused k)) (move_on_refusal t k a) r
refused_object t k r awaits.Kept at e = let same : k ≡ r = cc in inr (ap (λ n. Some (say.Refused n)) same, at)
refused_object t k r awaits.Nothing at e = with_call t k r (move_on_refusal t k awaits.Nothing) refl refl e
refused_object t k r (awaits.Reply n o load) at e = with_call t k r (move_on_refusal t k (awaits.Reply n o load)) refl refl e
refused_object t k r awaits.Turn at e = with_call t k r (move_on_refusal t k awaits.Turn) refl refl e
refused_object t k r awaits.Entries at e = with_call t k r (move_on_refusal t k awaits.Entries) refl refl e
refused_object t k r (awaits.Content h len) at e = with_call t k r (move_on_refusal t k (awaits.Content h len)) refl refl e

taken_object : (me : ℕ) (t : Standing) (m : ToClient) (r : ℕ) → (move_on_answer me t m).object ≡ Some (ended.Refused r) → Ends t (Some m) (move_on_answer me t m) r
taken_object me t say.Hi r e = absurd cc
taken_object me t (say.Reply seal entries part) r e = absurd (replied_ends me t seal (path_with_entries t entries) (read_part part) t.awaiting r e)
taken_object me t say.Wait r e = absurd (waited_ends t t.phase r e)
taken_object me t (say.Update seal part) r e = absurd (updated_ends t seal (read_part part) t.own r e)
taken_object me t (say.Entries seal entries) r e = absurd cc
taken_object me t (say.Refused k) r e = refused_object t k r t.awaiting refl e
taken_object me t say.Kept r e = absurd (kept_ends t t.phase r e)
taken_object me t (say.Content c) r e = absurd cc
taken_object me t say.Gone r e = absurd cc
taken_object me t say.Absent r e = absurd cc

taken_or_object : (me : ℕ) (t : Standing) (m : Option ToClient) (k : Option ℕ) (r : ℕ) → (move_on_verdict me t m k).object ≡ Some (ended.Refused r) → Ends t m (move_on_verdict me t m k) r
taken_or_object me t m (Some k) r e = absurd cc
taken_or_object me t (Some m) None r e = taken_object me t m r e
taken_or_object me t None None r e = absurd cc

payload_object : (g : Group) (me : ℕ) (t : Standing) (halted : Option ℕ) (payload : List ℕ) (r : ℕ) → (move_on_payload g me t halted payload).object ≡ Some (ended.Refused r) → Ends t (read_answer payload) (move_on_payload g me t halted payload) r
payload_object g me t (Some k) payload r e = absurd cc
payload_object g me t None payload r e = taken_or_object me t (read_answer payload) (verdict g me t payload) r e

take_object : (g : Group) (me : ℕ) (t : Standing) (payload : List ℕ) (r : ℕ) → (step g me t (input.Payload payload)).object ≡ Some (ended.Refused r) → Ends t (read_answer payload) (step g me t (input.Payload payload)) r
unfolding step
take_object g me t payload r e = payload_object g me t t.halted payload r e

ask_object : (s : Scene) (me : ℕ) (i : Input) → MayAsk s me i → (r : ℕ) → (step s.group me (standing s.group me s.history) i).object ≡ Some (ended.Refused r) → ⊥
unfolding step
ask_object s me (input.Call o) may r e = absurd cc
ask_object s me (input.Object (object.Store k c)) may r e = absurd cc
ask_object s me (input.Object (object.Load k)) may r e = absurd cc
ask_object s me (input.Object (object.Erase k)) may r e = absurd cc
ask_object s me (input.Object (object.Names p)) may r e = absurd cc
ask_object s me input.Poll may r e = absurd cc
ask_object s me input.Sync may r e = absurd cc
ask_object s me (input.Payload payload) may r e = may

-- what is asked of a client is no refusal
ask_refused : (s : Scene) (me : ℕ) (i : Input) → MayAsk s me i → (r : ℕ) → (step s.group me (standing s.group me s.history) i).returns ≡ Some (outcome.Refused r) → ⊥
unfolding step
ask_refused s me (input.Call o) may r e = absurd cc
ask_refused s me (input.Object (object.Store k c)) may r e = absurd cc
ask_refused s me (input.Object (object.Load k)) may r e = absurd cc
ask_refused s me (input.Object (object.Erase k)) may r e = absurd cc
ask_refused s me (input.Object (object.Names p)) may r e = absurd cc
ask_refused s me input.Poll may r e = absurd cc
ask_refused s me input.Sync may r e = absurd cc
ask_refused s me (input.Payload payload) may r e = may

-- ---- what is told

-- each step that returned a refusal was told of one that the server made
abbrev AreTold : Group → List Event → List TraceStep → Type 0
AreTold g events [] = Unit {0}
AreTold g events (x ∷ past) =
    AreTold g events past × (((r : ℕ) → x.returned ≡ Some (outcome.Refused r) → WasRefused g events x.client (standing g x.client past) r)
    × ((r : ℕ) → x.object ≡ Some (ended.Refused r) → (x.returned ≡ Some (outcome.Refused r)) ⊎ StoreWasRefused g events x.client (standing g x.client past) r))

-- of a content where its client awaits that it is kept, and else of a call
abbrev Refuses : Group → List Event → ℕ → Standing → ℕ → Type 0
Refuses g events me t r = ((t.awaiting ≡ awaits.Kept → ⊥) → WasRefused g events me t r) × (t.awaiting ≡ awaits.Kept → StoreWasRefused g events me t r)

-- so is a client for which a refusal waits
abbrev Waits : List Event → Scene → ℕ → Type 0
Waits events s me = (payload : List ℕ) (rest : List (List ℕ)) → queue_of s.down me ≡ payload ∷ rest → (r : ℕ) → read_answer payload ≡ Some (say.Refused r) → Refuses s.group events me (standing s.group me s.history) r

record IsTold (events : List Event) (s : Scene) : Type 0 where
  steps : AreTold s.group events s.history
  waits : (me : ℕ) → 0 < me → me ≤ s.group.count → Waits events s me

refused_still : (g : Group) (m : Event) (events : List Event) (me : ℕ) (t : Standing) (r : ℕ) → WasRefused g events me t r → WasRefused g (m ∷ events) me t r
refused_still g m events me t r h = record {
  later = m ∷ h.later;
  before = h.before;
  payload = h.payload;
  rest = h.rest;
  server = h.server;
  is = ap (λ l. m ∷ l) h.is;
  waited = h.waited;
  one = h.one;
  answer = h.answer;
  refused = h.refused;
  load = h.load;
  awaited = h.awaited;
}

store_still : (g : Group) (m : Event) (events : List Event) (me : ℕ) (t : Standing) (r : ℕ) → StoreWasRefused g events me t r → StoreWasRefused g (m ∷ events) me t r
store_still g m events me t r h = record {
  later = m ∷ h.later;
  before = h.before;
  payload = h.payload;
  rest = h.rest;
  server = h.server;
  is = ap (λ l. m ∷ l) h.is;
  waited = h.waited;
  one = h.one;
  answer = h.answer;
  refused = h.refused;
  awaited = h.awaited;
  key = h.key;
  keeping = h.keeping;
}

refuses_still : (g : Group) (m : Event) (events : List Event) (me : ℕ) (t : Standing) (r : ℕ) → Refuses g events me t r → Refuses g (m ∷ events) me t r
refuses_still g m events me t r h = ((λ other. refused_still g m events me t r (h.0 other)), (λ kept. store_still g m events me t r (h.1 kept)))

either_still : (g : Group) (m : Event) (events : List Event) (me : ℕ) (t : Standing) (r : ℕ) (A : Type 0) → A ⊎ StoreWasRefused g events me t r → A ⊎ StoreWasRefused g (m ∷ events) me t r
either_still g m events me t r A (inl a) = inl a
either_still g m events me t r A (inr h) = inr (store_still g m events me t r h)

told_still : (g : Group) (m : Event) (events : List Event) (h : List TraceStep) → AreTold g events h → AreTold g (m ∷ events) h
told_still g m events [] a = tt
told_still g m events (x ∷ past) a = (
  told_still g m events past a.0,
  ((λ r f. refused_still g m events x.client (standing g x.client past) r (a.1.0 r f)), (λ r f. either_still g m events x.client (standing g x.client past) r (x.returned ≡ Some (outcome.Refused r)) (a.1.1 r f))),
)

told_at : (g : Group) (events : List Event) (newer : List TraceStep) (x : TraceStep) (past : List TraceStep) → AreTold g events (newer ++ x ∷ past)
    → (r : ℕ) → x.returned ≡ Some (outcome.Refused r) → WasRefused g events x.client (standing g x.client past) r
told_at g events [] x past a = a.1.0
told_at g events (y ∷ newer) x past a = told_at g events newer x past a.0

store_told_at : (g : Group) (events : List Event) (newer : List TraceStep) (x : TraceStep) (past : List TraceStep) → AreTold g events (newer ++ x ∷ past)
    → (r : ℕ) → x.object ≡ Some (ended.Refused r) → (x.returned ≡ Some (outcome.Refused r)) ⊎ StoreWasRefused g events x.client (standing g x.client past) r
store_told_at g events [] x past a = a.1.1
store_told_at g events (y ∷ newer) x past a = store_told_at g events newer x past a.0

-- an answer waits alone
alone : (q : List (List ℕ)) (payload : List ℕ) (rest : List (List ℕ)) (doing : Doing) → q ≡ down_by doing → q ≡ payload ∷ rest → rest ≡ []
alone q payload rest Rests e f = absurd cc
alone q payload rest (Sends sending) e f = absurd cc
alone q payload rest (Gets m) e f = cc

-- a request waits alone, and then no answer waits
request_alone : (g : Group) (me : ℕ) (t : Standing) (up down : List (List ℕ)) (payload : List ℕ) (rest : List (List ℕ)) (doing : Doing) → up ≡ up_by g me t doing → down ≡ down_by doing → up ≡ payload ∷ rest
    → (up ≡ payload ∷ []) × (down ≡ [])
request_alone g me t up down payload rest Rests e f at = absurd cc
request_alone g me t up down payload rest (Sends sending) e f at = let none : rest ≡ [] = cc in (at ∙ ap (λ l. payload ∷ l) none, f)
request_alone g me t up down payload rest (Gets m) e f at = absurd cc

module _ (events : List Event) (s : Scene) (server : Server) (at_events : scene_after s.group events ≡ s) (fit : SceneFits s server) (know : SceneKnows s server) (told : IsTold events s)
    (me : ℕ) (above : 0 < me) (upto : me ≤ s.group.count) where
  -- a client's step, after which no answer waits for it
  step_told : (m : Event) (i : Input) (down : List Queue) → ((j : ℕ) → (j ≡ me → ⊥) → 0 < j → queue_of down j ≡ queue_of s.down j) → queue_of down me ≡ []
      → ((r : ℕ) → (step s.group me (standing s.group me s.history) i).returns ≡ Some (outcome.Refused r) → WasRefused s.group events me (standing s.group me s.history) r)
      → ((r : ℕ) → (step s.group me (standing s.group me s.history) i).object ≡ Some (ended.Refused r)
      → ((step s.group me (standing s.group me s.history) i).returns ≡ Some (outcome.Refused r)) ⊎ StoreWasRefused s.group events me (standing s.group me s.history) r) → IsTold (m ∷ events) (after_step (record s { down = down }) me i)
  unfolding after_step
  step_told m i down same none new new_store = record {
    steps = (
      told_still s.group m events s.history told.steps,
      ((λ r f. refused_still s.group m events me (standing s.group me s.history) r (new r f)), (λ r f. either_still s.group m events me (standing s.group me s.history) r _ (new_store r f))),
    );
    waits = λ j low high payload rest at r read. elim (cases_eq j me) [
      | inl mine ↦ let there : queue_of down j ≡ queue_of down me = ap (queue_of down) mine in absurd cc
      | inr apart ↦
          subst (λ t. Refuses s.group (m ∷ events) j t r) (sym (standing_kept s.group j (step_of s.group (world_of s server) me i) s.history (λ x. apart (sym x))))
          (refuses_still s.group m events j (standing s.group j s.history) r (told.waits j low high payload rest (sym (same j apart low) ∙ at) r read))
    ];
  }

  asks_told : (i : Input) → MayAsk s me i → IsTold (Asks me i ∷ events) (after_step s me i)
  asks_told i may =
      let none = nothing_under_way s server fit know me above upto (ask_idle s me i may) in
      step_told (Asks me i) i s.down (λ j apart low. refl) none.1 (λ r e. absurd (ask_refused s me i may r e)) (λ r e. absurd (ask_object s me i may r e))

  taken_told : (q : Queue) → queue_of s.down me ≡ q → (q ≡ [] → ⊥) → IsTold (Takes me ∷ events) (after_taking_from payload_as_is s me q)
  taken_told [] at some = absurd (some refl)
  taken_told (payload ∷ rest) at some =
      let c = know.clients me above upto in
      step_told (Takes me) (input.Payload payload) (set_queue s.down me rest) (λ j apart low. queue-set_other s.down me j rest above low apart)
      (queue-set_same s.down me rest above (omega (arith, upto, fit.one.down_count)) ∙ alone (queue_of s.down me) payload rest c.doing c.down_is at)
      (λ r e. let tells = take_refused s.group me (standing s.group me s.history) payload r e in (told.waits me above upto payload rest at r tells.0).0 tells.1)
      (λ r e. elim (take_object s.group me (standing s.group me s.history) payload r e) [
        | inl call ↦ inl call
        | inr kept ↦ inr ((told.waits me above upto payload rest at r kept.0).1 kept.1)
      ])

  takes_told : (queue_of s.down me ≡ [] → ⊥) → IsTold (Takes me ∷ events) (after_taking payload_as_is s me)
  unfolding after_taking
  takes_told some = taken_told (queue_of s.down me) refl some

  -- the server answers a request
  answered_so : (payload : List ℕ) (rest : List (List ℕ)) → queue_of s.up me ≡ payload ∷ rest → (r : ℕ) → (serve server me payload).answer ≡ say.Refused r
      → Refuses s.group (Serves me ∷ events) me (standing s.group me s.history) r
  answered_so payload rest at r answer = elim (world_refuses s.group (world_of s server) fit.fits know me above upto payload rest at r answer) [
    | inl refused ↦
        let reply = world_awaits s.group (world_of s server) fit.fits know me above upto payload rest at refused.known refused.seq refused.op refused.tag refused.is in (
          (λ other. record {
            later = [];
            before = events;
            payload = payload;
            rest = rest;
            server = server;
            is = refl;
            waited = waited_then payload rest at;
            one = one_then;
            answer = answer;
            refused = refused;
            load = reply.0;
            awaited = reply.1;
          }),
          (λ kept. let wrong = sym reply.1 ∙ kept in absurd cc),
        )
    | inr c ↦
        let store = world_keeps s.group (world_of s server) fit.fits know me above upto payload rest at c.content c.is in (
          (λ other. absurd (other store.awaiting)),
          (λ kept. record {
            later = [];
            before = events;
            payload = payload;
            rest = rest;
            server = server;
            is = refl;
            waited = waited_then payload rest at;
            one = one_then;
            answer = answer;
            refused = c;
            awaited = store.awaiting;
            key = store.key;
            keeping = store.at;
          }),
        )
  ]
    where
      waited_then : (payload : List ℕ) (rest : List (List ℕ)) → queue_of s.up me ≡ payload ∷ rest → queue_of (scene_after s.group events).up me ≡ payload ∷ rest
      waited_then payload rest at = ap (λ (t : Scene). queue_of t.up me) at_events ∙ at

      one_then : server_at (scene_after s.group events).servers 1 ≡ Some server
      one_then = ap (λ (t : Scene). server_at t.servers 1) at_events ∙ ap (λ l. server_at l 1) fit.one.only

  served_told : (q : Queue) → queue_of s.up me ≡ q → (q ≡ [] → ⊥) → IsTold (Serves me ∷ events) (after_serving_from by_rule s me q (Some server))
  served_told [] at some = absurd (some refl)
  served_told (payload ∷ rest) at some =
      let c = know.clients me above upto in
      let a = serve server me payload in
      let text : List ℕ = answer_text a.answer in
      let joined : Queue = queue_of s.down me ++ text ∷ [] in
      let down : List Queue = set_queue s.down me joined in
      let only = request_alone s.group me (standing s.group me s.history) (queue_of s.up me) (queue_of s.down me) payload rest c.doing c.up_is c.down_is at in
      let read_back : read_answer text ≡ Some a.answer = answer_again a.answer (answer_spelled s server fit know me above upto payload only.0) in
      let waits_here : queue_of down me ≡ text ∷ [] = queue-set_same s.down me joined above (omega (arith, upto, fit.one.down_count)) ∙ ap (λ l. l ++ text ∷ []) only.1 in
      record {
        steps = told_still s.group (Serves me) events s.history told.steps;
        waits = λ j low high payload2 rest2 at2 r read. elim (cases_eq j me) [
          | inl mine ↦
              let there : queue_of down j ≡ queue_of down me = ap (queue_of down) mine in
              let same : text ≡ payload2 = cc in
              subst (λ k. Refuses s.group (Serves me ∷ events) k (standing s.group k s.history) r) (sym mine)
              (answered_so payload rest at r (some_same (sym read_back ∙ ap read_answer same ∙ read)))
          | inr apart ↦
              refuses_still s.group (Serves me) events j (standing s.group j s.history) r
              (told.waits j low high payload2 rest2 (sym (queue-set_other s.down me j joined above low apart) ∙ at2) r read)
        ];
      }

  serves_told : (queue_of s.up me ≡ [] → ⊥) → IsTold (Serves me ∷ events) (after_serving by_rule s me)
  unfolding after_serving
  serves_told some =
      subst (λ o. IsTold (Serves me ∷ events) (after_serving_from by_rule s me (queue_of s.up me) o)) (sym (server_is s server fit.one me above upto)) (served_told (queue_of s.up me) refl some)

happens_told : (events : List Event) (s : Scene) (server : Server) → scene_after s.group events ≡ s → SceneFits s server → SceneKnows s server → IsTold events s → (m : Event) → MayHonestly s m
    → IsTold (m ∷ events) (after_event by_rule s m)
happens_told events s server at fit know told (Asks me i) may = asks_told events s server at fit know told me may.1.0 may.1.1 i may.1.2
happens_told events s server at fit know told (Serves me) may = serves_told events s server at fit know told me may.1.0 may.1.1 may.1.2
happens_told events s server at fit know told (Takes me) may = takes_told events s server at fit know told me may.1.0 may.1.1 may.1.2
happens_told events s server at fit know told (Flips me n) may = absurd may.0
happens_told events s server at fit know told (Hears me payload) may = absurd may.0
happens_told events s server at fit know told (Resends me) may = absurd may.0
happens_told events s server at fit know told (Copies n t) may = absurd may.0
happens_told events s server at fit know told (Joins me n) may = absurd may.0

all_told : (g : Group) → IsGroup g → (events : List Event) → AreHonest g events → IsApart (scene_after g events) → IsTold events (scene_after g events)
all_told g group [] h apart = record { steps = tt; waits = λ me low high payload rest at r read. let none = sym (queue-fresh g.count me) ∙ at in absurd cc }
all_told g group (m ∷ before) h apart =
    let s : Scene = scene_after g before in
    let apart_before : IsApart s = apart_front s m h.1 apart in
    happens_told before s (server_after g before) (ap (λ k. scene_after k before) (scene-group g before)) (all_fit g group before h.0) (all_known g group before h.0 apart_before) (all_told g group before h.0 apart_before) m h.1

all_steps_told : (s : Scene) (events : List Event) → s ≡ scene_after s.group events → IsGroup s.group → AreHonest s.group events → IsApart s → AreTold s.group events s.history
all_steps_told s events is group may apart = (subst (IsTold events) (sym is) (all_told s.group group events may (subst IsApart is apart))).steps

pub refusals_are_told : (s : Scene) (server : Server) (events : List Event) → IsSafeRun s server events → (newer : List TraceStep) (x : TraceStep) (past : List TraceStep) → s.history ≡ newer ++ x ∷ past
    → (r : ℕ) → x.returned ≡ Some (outcome.Refused r) → WasRefused s.group events x.client (standing s.group x.client past) r
refusals_are_told s server events run newer x past is =
    told_at s.group events newer x past (subst (AreTold s.group events) is (all_steps_told s events run.honest.is run.honest.group run.honest.may run.apart))

pub stores_are_told : (s : Scene) (server : Server) (events : List Event) → IsSafeRun s server events → (newer : List TraceStep) (x : TraceStep) (past : List TraceStep) → s.history ≡ newer ++ x ∷ past
    → (r : ℕ) → x.object ≡ Some (ended.Refused r) → (x.returned ≡ Some (outcome.Refused r)) ⊎ StoreWasRefused s.group events x.client (standing s.group x.client past) r
stores_are_told s server events run newer x past is =
    store_told_at s.group events newer x past (subst (AreTold s.group events) is (all_steps_told s events run.honest.is run.honest.group run.honest.may run.apart))
