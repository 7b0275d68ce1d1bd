use Rattle.std.proofs.Common.{IfOk, refl, sym, subst}
use Rattle.vic_rules.specs.Client.{Move, verdict_on}
use Rattle.vic_checks.specs.State.{state_group}
use Rattle.vic_client.specs.Hearing.{Hears}
use Rattle.vic_client.proofs.Moved.{heard_is}
use Rattle.vic_client.proofs.hearing.hear.Goals as goal

pub returns-clause-taken : goal.returns-clause-taken
returns-clause-taken c = λ s st.
    let old = c.args.state.now in
    let g = state_group old in
    let m = c.in_ok-message.message in
    let is = heard_is g old.id s c.args.payload.now m (verdict_on g old.id s m) (sym c.in_ok-message.ensures.exact) refl in
    subst (λ (v : Move). IfOk c.hear_read.result (λ p. Hears old p c.hear_read.new.state s v)) (sym is) (c.hear_read.ensures.taken s st)
