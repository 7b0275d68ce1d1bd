use Rattle.std.proofs.Common.{◌≡◌, None, sym, ◌∙◌}
use Rattle.vic_session.proofs.Extends.{after_step}
use Rattle.vic_session.proofs.Hears.{went_halted, went_sends, went_waits, went_end, at_end, front_heard}
use Rattle.vic_session.proofs.lines.hear_step.Goals as goal

pub returns-in-Some-clause-went : goal.returns-in-Some-clause-went
returns-in-Some-clause-went c = λ w t start h.
    went_halted w t start c.args.payload.now c.args.step c.args.client.now c.args.place.now c.args.out.now h c.in-Some.check c.content.result (sym c.halted.ensures ∙ c.in-Some.is) c.content.ensures

pub returns-in-Err-clause-went : goal.returns-in-Err-clause-went
returns-in-Err-clause-went c = λ w t start h.
    front_heard w t start c.args.payload.now c.args.step c.args.client.now c.args.place.now c.args.out.now h c.tell_outcomes.new.out c.in-Err.ensures.err

pub returns-in-Some-send-clause-went : goal.returns-in-Some-send-clause-went
returns-in-Some-send-clause-went c = λ w t start h.
    let none : c.args.client.now.halted ≡ None = sym c.halted.ensures ∙ c.in_default.is in
    went_sends w t start c.args.payload.now c.args.step c.args.client.now c.args.place.now c.args.out.now h c.tell_outcomes.new.out c.in-Some-send.sent none c.in-Ok.ensures.ok c.in-Some-send.is

pub returns-then-idle-clause-went : goal.returns-then-idle-clause-went
returns-then-idle-clause-went c = λ w t start h.
    let none : c.args.client.now.halted ≡ None = sym c.halted.ensures ∙ c.in_default.is in
    let there = at_end w t start c.args.payload.now c.args.step c.args.client.now c.args.place.now c.args.out.now h c.tell_outcomes.new.out none c.in-Ok.ensures.ok in
    went_end w t start c.args.payload.now c.args.step c.args.client.now c.args.place.now c.args.out.now h none c.in-None.is (sym c.idle.ensures ∙ c.if-idle.true) c.end_line.new.client c.end_line.new.place c.end_line.new.out c.end_line.result
    (c.end_line.ensures.went w (after_step w t c.args.payload.now) start there.0 there.1)

pub returns-clause-went : goal.returns-clause-went
returns-clause-went c = λ w t start h.
    let none : c.args.client.now.halted ≡ None = sym c.halted.ensures ∙ c.in_default.is in
    went_waits w t start c.args.payload.now c.args.step c.args.client.now c.args.place.now c.args.out.now h c.tell_outcomes.new.out none c.in-Ok.ensures.ok c.in-None.is (sym c.idle.ensures ∙ c.if-idle.false)
