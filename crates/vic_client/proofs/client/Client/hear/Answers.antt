use Rattle.std.proofs.Common.{◌≡◌, Some, sym, ap, ◌∙◌, subst}
use Rattle.vic_rules.specs.declared.trace.Input.TheVariants as input
use Rattle.vic_checks.specs.State.{state_group}
use Rattle.vic_client.specs.declared.pending.Pending.{Pending}
use Rattle.vic_client.specs.Kept.{KeptClient}
use Rattle.vic_client.specs.Pending.{IsSoundKept, IsPendingOf}
use Rattle.vic_client.specs.Hearing.{heard_move}
use Rattle.vic_client.proofs.Moved.{payload_heard}
use Rattle.vic_client.proofs.Pendings.{pending_halted, made_pending}
use Rattle.vic_client.proofs.client.Client.hear.Goals as goal

pub returns-in-Some-clause-heard : goal.returns-in-Some-clause-heard
returns-in-Some-clause-heard c =
    let now = c.args.self.now in
    let k = c.in-Some.check in
    let halted : now.halted ≡ Some k = sym (ap (λ (x : KeptClient). x.halted) c.self.view_is) ∙ c.in-Some.is in
    let sound : IsSoundKept now = subst (λ (x : KeptClient). IsSoundKept x) c.self.view_is c.self.invariant in
    subst (λ (p : Pending). IsPendingOf now p now (input.Payload c.args.payload.now)) (sym c.stays.ensures) (pending_halted now k c.args.payload.now halted sound)

pub returns-in-None-clause-heard : goal.returns-in-None-clause-heard
returns-in-None-clause-heard c =
    let inside = c.self.inside in
    let g = state_group inside.state in
    let payload = c.args.payload.now in
    made_pending c.hear.result inside.state c.hear.new.state inside.calls inside.proxy inside.halted c.args.self.now (input.Payload payload)
    (λ s. heard_move g inside.state.id s payload) c.self.view_is c.in-None.is c.hear.ensures.pending c.hear.ensures.taken
    (λ s going. payload_heard g inside.state.id s payload going)
