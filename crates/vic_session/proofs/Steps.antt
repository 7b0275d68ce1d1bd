-- What a step of a client leaves: where it stands, and what it has sent.
use Rattle.std.proofs.Common.{◌≡◌, ℕ, ◌≤◌, Bool, true, false, List, [], ◌∷◌, ◌++◌, reverse, Option, Some, None, if◌then◌else◌, refl, sym, ap, ◌∙◌, append-nil, arith}
use Rattle.std.specs.List.{flat_map}
use Rattle.std.proofs.lemmas.Grind.{flat_map-append}
use Rattle.std.proofs.lemmas.List.{reverse-append}
use Rattle.vic_dict.specs.declared.op.Entry.{Entry}
use Rattle.vic_dict.specs.declared.op.Answer.{Answer}
use Rattle.vic_dict.specs.declared.op.Answer.TheVariants as answer
use Rattle.vic_dict.specs.declared.op.Outcome.{Outcome}
use Rattle.vic_dict.specs.declared.op.Outcome.TheVariants as outcome
use Rattle.vic_wire.specs.Hashes.{Group}
use Rattle.vic_wire.specs.declared.message.Seal.{Seal}
use Rattle.vic_wire.specs.declared.message.ToClient.{ToClient}
use Rattle.vic_wire.specs.declared.message.ToClient.TheVariants as say
use Rattle.vic_wire.specs.Parts.{Part, read_part}
use Rattle.vic_wire.specs.Reading.{read_answer}
use Rattle.vic_rules.specs.declared.state.Own.{Own}
use Rattle.vic_rules.specs.declared.state.Awaiting.{Awaiting}
use Rattle.vic_rules.specs.declared.state.Awaiting.TheVariants as awaits
use Rattle.vic_rules.specs.declared.object.Phase.{Phase}
use Rattle.vic_rules.specs.declared.object.Phase.TheVariants as phase
use Rattle.vic_rules.specs.Objects.{ObjectStep, is_reference, step_on_kept, step_on_answer, step_on_outcome, after_decision}
use Rattle.vic_rules.specs.declared.trace.Input.{Input}
use Rattle.vic_rules.specs.declared.trace.Input.TheVariants as input
use Rattle.vic_rules.specs.declared.trace.TraceStep.{TraceStep}
use Rattle.vic_rules.specs.Client.{Standing, Move, Sending, step, payload_of, awaits_nothing, move_to_halt, decision, path_with_entries, move_on_reply, move_on_wait, move_by_object_step, move_on_refusal, move_on_update, move_on_answer, move_on_verdict, move_on_payload, verdict}
use Rattle.vic_session.specs.Talks.{Talk, Talker, talk_after_step, one_of, sent_in}
use Rattle.vic_session.specs.Talking.{will_call, calls_of}

-- where the client stands after a step
pub standing_step : (w : Talker) (t : Talk) (given : Input) → (talk_after_step w t given).now ≡ (step w.group w.me t.now given).next
unfolding talk_after_step
standing_step w t given = refl

-- the move of a step
abbrev pub moved : Talker → Talk → Input → Move
moved w t given = step w.group w.me t.now given

-- what was sent, with a step more
pub sent_more : (x : TraceStep) (h : List TraceStep) → sent_in (x ∷ h) ≡ sent_in h ++ one_of x.sent
sent_more x h =
    ap (flat_map (λ (y : TraceStep). one_of y.sent)) (reverse-append (x ∷ []) h)
    ∙ flat_map-append (λ (y : TraceStep). one_of y.sent) (reverse h) (x ∷ [])
    ∙ ap (λ (l : List (List ℕ)). sent_in h ++ l) (append-nil (one_of x.sent))

pub sent_step : (w : Talker) (t : Talk) (given : Input) → sent_in (talk_after_step w t given).history ≡ sent_in t.history ++ one_of (payload_of w.group w.me (moved w t given).next (moved w t given).sends)
unfolding talk_after_step
sent_step w t given = sent_more (record { client = w.me; input = given; sent = payload_of w.group w.me (moved w t given).next (moved w t given).sends; returned = (moved w t given).returns; object = (moved w t given).object }) t.history

-- ---- a payload

-- it calls nothing but what was to be called; and where the client sends something, it is not idle
pub record Heard (s : Standing) (v : Move) : Type 0 where
  pub calls : calls_of v.next ≤ calls_of s
  pub busy : (x : Sending) → v.sends ≡ Some x → awaits_nothing v.next.awaiting ≡ false
  pub quiet : (x : Sending) → v.sends ≡ Some x → v.next.halted ≡ s.halted

heard_halts : (s : Standing) (k : ℕ) → Heard s (move_to_halt s k)
heard_halts s k = record { calls = omega arith; busy = λ x e. absurd cc; quiet = λ x e. absurd cc }

-- a call that is decided has nothing more to call
none_either : (b : Bool) (x y : ObjectStep) (n : ℕ) → will_call x.0 ≤ n → will_call y.0 ≤ n → will_call (if◌then◌else◌ {A = ObjectStep} b x y).0 ≤ n
none_either true x y n h k = h
none_either false x y n h k = k

none_answered : (a : Answer) (n : ℕ) → will_call (step_on_answer a).0 ≤ n
none_answered answer.Stored n = omega arith
none_answered (answer.Found v) n = none_either (is_reference v) _ _ n (omega arith) (omega arith)
none_answered answer.NotFound n = omega arith
none_answered answer.Removed n = omega arith
none_answered answer.Absent n = omega arith
none_answered (answer.Names names) n = omega arith

none_decided : (o : Outcome) (n : ℕ) → will_call (step_on_outcome o).0 ≤ n
none_decided (outcome.Done a) n = none_answered a n
none_decided (outcome.Aborted u) n = omega arith
none_decided (outcome.Refused r) n = omega arith
none_decided (outcome.Halted k) n = omega arith

none_more : (p : Phase) (o : Outcome) → will_call (after_decision p o) ≤ will_call p
none_more phase.Closed o = omega arith
none_more (phase.Keeping k h len) o = omega arith
none_more phase.Calling o = none_decided o 0
none_more (phase.Fetching h len) o = omega arith

heard_replied : (me : ℕ) (s : Standing) (seal : Seal) (path : List Entry) (part : Option Part) (a : Awaiting) → Heard s (move_on_reply me s seal path part a)
heard_replied me s seal [] part a = heard_halts s 1
heard_replied me s seal (e ∷ below) None a = heard_halts s 1
heard_replied me s seal (e ∷ below) (Some part) (awaits.Reply n o load) =
    let less = none_more s.phase (decision me s below seal.position part o) in
    record { calls = omega (arith, less); busy = λ x e. refl; quiet = λ x e. refl }
heard_replied me s seal (e ∷ below) (Some part) awaits.Nothing = heard_halts s 1
heard_replied me s seal (e ∷ below) (Some part) awaits.Turn = heard_halts s 1
heard_replied me s seal (e ∷ below) (Some part) awaits.Entries = heard_halts s 1
heard_replied me s seal (e ∷ below) (Some part) awaits.Kept = heard_halts s 1
heard_replied me s seal (e ∷ below) (Some part) (awaits.Content h n) = heard_halts s 1

heard_updated : (s : Standing) (seal : Seal) (part : Option Part) (own : List Own) → Heard s (move_on_update s seal part own)
heard_updated s seal None own = heard_halts s 1
heard_updated s seal (Some part) [] = heard_halts s 1
heard_updated s seal (Some part) (o ∷ others) = record { calls = omega arith; busy = λ x e. refl; quiet = λ x e. refl }

heard_waited : (s : Standing) (p : Phase) → Heard s (move_on_wait s p)
heard_waited s phase.Closed = record { calls = omega arith; busy = λ x e. absurd cc; quiet = λ x e. absurd cc }
heard_waited s (phase.Keeping k h len) = record { calls = omega arith; busy = λ x e. absurd cc; quiet = λ x e. absurd cc }
heard_waited s phase.Calling = record { calls = omega arith; busy = λ x e. absurd cc; quiet = λ x e. absurd cc }
heard_waited s (phase.Fetching h len) = record { calls = omega arith; busy = λ x e. refl; quiet = λ x e. refl }

-- the put of a store whose content is kept is the call that was to come
heard_kept : (s : Standing) (p : Phase) → s.phase ≡ p → Heard s (move_by_object_step s false (step_on_kept p))
heard_kept s phase.Closed is = heard_halts s 1
heard_kept s (phase.Keeping k h len) is =
    let one : will_call s.phase ≡ 1 = ap will_call is in
    record { calls = omega (arith, one); busy = λ x e. refl; quiet = λ x e. refl }
heard_kept s phase.Calling is = heard_halts s 1
heard_kept s (phase.Fetching h len) is = heard_halts s 1

heard_refused : (s : Standing) (r : ℕ) (a : Awaiting) → Heard s (move_on_refusal s r a)
heard_refused s r awaits.Kept = record { calls = omega arith; busy = λ x e. absurd cc; quiet = λ x e. absurd cc }
heard_refused s r awaits.Nothing = let less = none_more s.phase (outcome.Refused r) in record { calls = omega (arith, less); busy = λ x e. absurd cc; quiet = λ x e. absurd cc }
heard_refused s r (awaits.Reply n o load) = let less = none_more s.phase (outcome.Refused r) in record { calls = omega (arith, less); busy = λ x e. absurd cc; quiet = λ x e. absurd cc }
heard_refused s r awaits.Turn = let less = none_more s.phase (outcome.Refused r) in record { calls = omega (arith, less); busy = λ x e. absurd cc; quiet = λ x e. absurd cc }
heard_refused s r awaits.Entries = let less = none_more s.phase (outcome.Refused r) in record { calls = omega (arith, less); busy = λ x e. absurd cc; quiet = λ x e. absurd cc }
heard_refused s r (awaits.Content h n) = let less = none_more s.phase (outcome.Refused r) in record { calls = omega (arith, less); busy = λ x e. absurd cc; quiet = λ x e. absurd cc }

heard_taken : (me : ℕ) (s : Standing) (m : ToClient) → Heard s (move_on_answer me s m)
heard_taken me s (say.Reply seal entries part) = heard_replied me s seal (path_with_entries s entries) (read_part part) s.awaiting
heard_taken me s say.Wait = heard_waited s s.phase
heard_taken me s (say.Update seal part) = heard_updated s seal (read_part part) s.own
heard_taken me s (say.Entries seal entries) = record { calls = omega arith; busy = λ x e. absurd cc; quiet = λ x e. absurd cc }
heard_taken me s (say.Refused r) = heard_refused s r s.awaiting
heard_taken me s say.Hi = heard_halts s 1
heard_taken me s say.Kept = heard_kept s s.phase refl
heard_taken me s (say.Content c) = record { calls = omega arith; busy = λ x e. absurd cc; quiet = λ x e. absurd cc }
heard_taken me s say.Gone = heard_halts s 1
heard_taken me s say.Absent = heard_halts s 1

heard_by : (me : ℕ) (s : Standing) (m : Option ToClient) (k : Option ℕ) → Heard s (move_on_verdict me s m k)
heard_by me s m (Some k) = heard_halts s k
heard_by me s (Some m) None = heard_taken me s m
heard_by me s None None = heard_halts s 1

heard_on : (g : Group) (me : ℕ) (s : Standing) (k : Option ℕ) (payload : List ℕ) → Heard s (move_on_payload g me s k payload)
heard_on g me s (Some k) payload = heard_halts s k
heard_on g me s None payload = heard_by me s (read_answer payload) (verdict g me s payload)

pub heard : (g : Group) (me : ℕ) (s : Standing) (payload : List ℕ) → Heard s (step g me s (input.Payload payload))
unfolding step
heard g me s payload = heard_on g me s s.halted payload

live_on : (g : Group) (me : ℕ) (s : Standing) (k : Option ℕ) (payload : List ℕ) → s.halted ≡ k → (x : Sending) → (move_on_payload g me s k payload).sends ≡ Some x → (move_on_payload g me s k payload).next.halted ≡ None
live_on g me s (Some k) payload e x sends = absurd cc
live_on g me s None payload e x sends = (heard_on g me s None payload).quiet x sends ∙ e

-- a client that sends something on a payload has not halted
pub live : (g : Group) (me : ℕ) (s : Standing) (payload : List ℕ) (x : Sending) → (step g me s (input.Payload payload)).sends ≡ Some x → (step g me s (input.Payload payload)).next.halted ≡ None
unfolding step
live g me s payload x sends = live_on g me s s.halted payload refl x sends

none_or : (o : Option Sending) (h : Option ℕ) (k : ℕ) → ((x : Sending) → o ≡ Some x → h ≡ None) → h ≡ Some k → o ≡ None
none_or None h k f e = refl
none_or (Some x) h k f e = let no = sym (f x refl) ∙ e in absurd cc

-- one that halts sends nothing
pub halted_none : (g : Group) (me : ℕ) (s : Standing) (payload : List ℕ) (k : ℕ) → (step g me s (input.Payload payload)).next.halted ≡ Some k → (step g me s (input.Payload payload)).sends ≡ None
halted_none g me s payload k e = let v = step g me s (input.Payload payload) in none_or v.sends v.next.halted k (live g me s payload) e

sending_of : (g : Group) (me : ℕ) (s : Standing) (o : Option Sending) (p : List ℕ) → Some p ≡ payload_of g me s o → (x : Sending) × (o ≡ Some x)
sending_of g me s None p e = absurd cc
sending_of g me s (Some x) p e = (x, refl)

-- one that sends is not idle
pub sends_busy : (g : Group) (me : ℕ) (s : Standing) (payload p : List ℕ) → let v = step g me s (input.Payload payload) in Some p ≡ payload_of g me v.next v.sends → awaits_nothing v.next.awaiting ≡ false
sends_busy g me s payload p e =
    let v = step g me s (input.Payload payload) in
    let x = sending_of g me v.next v.sends p e in
    (heard g me s payload).busy x.0 x.1
