use Rattle.std.proofs.Common.{sym, ap, ◌∙◌}
use Rattle.vic_rules.specs.Client.{own_calls_over}
use Rattle.vic_wire.specs.Parts.{walked}
use Rattle.vic_prune.specs.Parts.{part}
use Rattle.vic_checks.specs.State.{state_group, below_last}
use Rattle.vic_checks.proofs.Decisions.{aborts, ends_done}
use Rattle.vic_checks.proofs.deciding.decide.Goals as goal

pub returns-in-Some : goal.returns-in-Some
returns-in-Some c = λ s h.
    aborts c.args.state.now.id s (below_last s c.args.entries.now) c.args.base (part c.args.part.now) c.args.op.now c.in-Some.position
    (c.in-Some.ensures (state_group c.args.state.now) s.path h.path)

pub returns : goal.returns
returns c = λ s h.
    ends_done c.args.state.now.id s (below_last s c.args.entries.now) c.args.base (part c.args.part.now) c.args.op.now c.args.state.now.own c.lay_all.new.dict c.in_ok-do_op.field-0
    (sym c.in_default.is ∙ c.first_in_the_way.ensures (state_group c.args.state.now) s.path h.path) h.own (c.in_ok-lay_all.ensures ∙ ap (own_calls_over c.args.state.now.own c.args.base) c.in_ok-laid_over.ensures) c.in_ok-do_op.ensures.ok.0

pub returns-then-are_below : goal.returns-then-are_below
returns-then-are_below c = λ s h.
    let shown = walked (part c.args.part.now) c.args.op.now in
    ends_done c.args.state.now.id s (below_last s c.args.entries.now) c.args.base (part c.args.part.now) c.args.op.now c.args.state.now.own shown c.in_ok-answer_at.field-0
    (sym c.in_default.is ∙ c.first_in_the_way.ensures (state_group c.args.state.now) s.path h.path) h.own (sym (c.are_below.ensures c.if-are_below.true shown)) c.in_ok-answer_at.ensures
