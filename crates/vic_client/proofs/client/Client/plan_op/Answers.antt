use Rattle.std.proofs.Common.{◌≡◌, ◌+◌, None, IfOk, sym, ap, ◌∙◌, subst}
use Rattle.vic_rules.specs.Client.{Standing, move_to_call}
use Rattle.vic_client.specs.Kept.{KeptClient, kept_move}
use Rattle.vic_client.specs.Pending.{IsPendingOf}
use Rattle.vic_client.proofs.Pendings.{made_pending, idle_goes}
use Rattle.vic_client.proofs.client.Client.plan_op.Goals as goal

pub call_op-requires-clause-going : goal.call_op-requires-clause-going
call_op-requires-clause-going c = c.requires.going (c.self.inside.calls + 1)

pub returns-clause-planned : goal.returns-clause-planned
returns-clause-planned c = λ given is.
    let inside = c.self.inside in
    let view = c.self.view_is in
    let now = c.args.self.now in
    let v = λ (s : Standing). move_to_call s c.args.proxy c.args.op c.args.load in
    let none : inside.halted ≡ None = ap (λ (k : KeptClient). k.halted) view ∙ idle_goes now c.requires.idle in
    subst (λ (k : KeptClient). IfOk c.call_op.result (λ p. IsPendingOf now p k given)) view
    (made_pending c.call_op.result inside.state inside.state inside.calls inside.proxy inside.halted now given v view none
    (c.call_op.ensures.pending inside.proxy c.self.invariant.1) (λ s st. c.call_op.ensures.taken s st.state st.calls)
    (λ s going. subst (λ (k : KeptClient). kept_move k s given ≡ v s) (sym view) (is s)))
