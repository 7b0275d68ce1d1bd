-- What a member does, from what its client shows.
use Rattle.std.proofs.Common.{◌≡◌, ℕ, ◌&&◌, List, ◌∷◌, Option, is_none, IsTrue, Result, Ok, Err, OnOk, sym, ap, subst, ◌∙◌, arith}
use Rattle.vic_dict.specs.declared.bytes.NoMemory.{NoMemory}
use Rattle.vic_wire.specs.Hashes.{Group}
use Rattle.vic_rules.specs.declared.state.Awaiting.{Awaiting}
use Rattle.vic_rules.specs.declared.trace.Input.{Input}
use Rattle.vic_rules.specs.declared.trace.Input.TheVariants as input
use Rattle.vic_rules.specs.declared.trace.TraceStep.{TraceStep}
use Rattle.vic_rules.specs.Client.{Standing, awaits_nothing, IsIdle, MayStep}
use Rattle.vic_rules.specs.History.{standing}
use Rattle.vic_client.specs.declared.pending.Pending.{Pending}
use Rattle.vic_client.specs.Kept.{KeptClient, StandsFor, kept_group, is_idle}
use Rattle.vic_client.specs.Pending.{after_keeping, IsPendingOf}
use Rattle.vic_order.specs.Scenes.{queue_with, or_before, payload_in}
use Rattle.vic_group.specs.declared.member.Member.{Member}
use Rattle.vic_group.specs.World.{MemberStands, Acts, CanAsk, step_at}
use Rattle.vic_group.proofs.Members.{taken_now, sent_now, stands_next}

-- what a member became that kept its client's pending step, with what goes with it
pub record Becomes (given : Input) (sends : Option (List ℕ)) (next : KeptClient) (old new : Member) : Type 0 where
  pub client : new.client ≡ next
  pub server : new.server ≡ old.server
  pub up : new.up ≡ queue_with old.up sends
  pub down : new.down ≡ old.down
  pub taken : new.taken ≡ or_before (payload_in given) old.taken
  pub sent : new.sent ≡ or_before sends old.sent

-- it made its step
pub acts : (g : Group) (h : List TraceStep) (i : ℕ) (given : Input) (old new : Member) (p : Pending) (mid : KeptClient) (sent : Option (List ℕ)) → MemberStands g h old i → IsPendingOf old.client p mid given
    → sent ≡ p.step.send → MayStep g (standing g i h) given → Becomes given sent (after_keeping p.effect mid) old new → Acts g h i given old new
acts g h i given old new p mid sent at pends sends may so =
    subst (λ (k : Group). MemberStands k h old i → MayStep k (standing k i h) given → Acts k h i given old new) at.group
    (subst (λ (n : ℕ). MemberStands (kept_group old.client) h old n → MayStep (kept_group old.client) (standing (kept_group old.client) n h) given → Acts (kept_group old.client) h n given old new) at.id own) at may
  where
    own : MemberStands (kept_group old.client) h old old.client.id → MayStep (kept_group old.client) (standing (kept_group old.client) old.client.id h) given → Acts (kept_group old.client) h old.client.id given old new
    own here able =
        let k : Group = kept_group old.client in
        let n : ℕ = old.client.id in
        let x : TraceStep = step_at k h n given in
        let shown = pends.shows (standing k n h) here.stands in
        let sent_is : sent ≡ x.sent = sends ∙ shown.send in
        record {
          may = able;
          up = so.up ∙ ap (λ (o : Option (List ℕ)). queue_with old.up o) sent_is;
          down = so.down;
          server = so.server;
          stands = record {
            id = ap (λ (c : KeptClient). c.id) so.client ∙ pends.same.id;
            group = ap (λ (c : KeptClient). kept_group c) so.client ∙ pends.same.group;
            stands = subst (λ (c : KeptClient). StandsFor c (standing k n (x ∷ h))) (sym so.client) (subst (λ (s : Standing). StandsFor (after_keeping p.effect mid) s) (sym (stands_next k h n given)) shown.stands);
            taken = so.taken ∙ ap (λ (o : Option (List ℕ)). or_before (payload_in given) o) here.taken ∙ sym (taken_now h x);
            sent = so.sent ∙ ap (λ (o : Option (List ℕ)). or_before o old.sent) sent_is ∙ ap (λ (o : Option (List ℕ)). or_before x.sent o) here.sent ∙ sym (sent_now h x);
          };
        }

-- the same of what may have found no memory
pub acts_if : {T : Type 0} (r : Result T NoMemory) (g : Group) (h : List TraceStep) (i : ℕ) (given : Input) (old new : Member) → Acts g h i given old new → OnOk r (Acts g h i given old new)
acts_if (Err e) g h i given old new does = tt
acts_if (Ok done) g h i given old new does = does

-- an idle client that can be asked may make its step
pub may_ask : (g : Group) (h : List TraceStep) (i : ℕ) (m : Member) (given : Input) → MemberStands g h m i → IsTrue (is_idle m.client) → CanAsk m given → MayStep g (standing g i h) given
may_ask g h i m given at idle can = by_input given can
  where
    rests : IsIdle (standing g i h)
    rests = subst (λ (a : Awaiting). IsTrue (awaits_nothing a && is_none (standing g i h).halted)) (sym at.stands.awaiting)
        (subst (λ (o : Option ℕ). IsTrue (awaits_nothing m.client.awaiting && is_none o)) (sym at.stands.halted) idle)

    by_input : (given : Input) → CanAsk m given → MayStep g (standing g i h) given
    by_input (input.Call op) able = (rests, (sym (ap (λ (k : Group). k.mode) at.group) ∙ able.0.0, (able.1.0, (able.1.1, omega (arith, able.0.1, at.stands.calls)))))
    by_input (input.Object call) able = (rests, (sym (ap (λ (k : Group). k.mode) at.group) ∙ able.0.0, (able.1.0, (able.1.1, omega (arith, able.0.1, at.stands.calls)))))
    by_input input.Poll able = rests
    by_input input.Sync able = rests
    by_input (input.Payload payload) able = absurd able
