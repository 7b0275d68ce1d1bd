use Rattle.std.proofs.Common.{◌∙◌, ap, subst}
use Rattle.std.specs.Prelude.{IfOk, OnErr}
use Rattle.vic_turn.specs.Passes.{pass_view, Answers, Refuses}
use Rattle.vic_turn.proofs.Turn as turn
use Rattle.vic_turn.proofs.lock.TurnLock.step_as.Goals as goal

pub hand_on-requires-clause-out : goal.hand_on-requires-clause-out
hand_on-requires-clause-out g c =
    let R = g.V.Recorded in
    let fixed = c.args.self.now.fixed in
    let old = c.pass.inside.seat.me in
    let a = c.apply-reply in
    let ticket = c.draw-ticket.ensures.ticket in
    let of = ap (λ p. p.fixed) c.pass.view_is ∙ c.requires.1 in
    let p = turn.played R.fixed R.changes R.replies R.records fixed c.pass.inside.number c.args.who c.args.payload.now old c.draw-ticket.new.seat.me c.wait.new.seat.me a.new.seat.me ticket.0 a.result of ticket.1 c.wait.ensures.turn a.ensures.own.2 a.ensures.step in
    turn.may_hand_on R.fixed R.changes R.replies R.records fixed c.pass.inside.number c.args.who c.args.payload.now old a.new.seat.me a.result c.pass.invariant p

pub invariant_of-pass : goal.invariant_of-pass
invariant_of-pass g c =
    let R = g.V.Recorded in
    let fixed = c.args.self.now.fixed in
    let old = c.pass.inside.seat.me in
    let a = c.apply-reply in
    let ticket = c.draw-ticket.ensures.ticket in
    let of = ap (λ p. p.fixed) c.pass.view_is ∙ c.requires.1 in
    let p = turn.played R.fixed R.changes R.replies R.records fixed c.pass.inside.number c.args.who c.args.payload.now old c.draw-ticket.new.seat.me c.wait.new.seat.me a.new.seat.me ticket.0 a.result of ticket.1 c.wait.ensures.turn a.ensures.own.2 a.ensures.step in
    turn.idle_again R.fixed R.changes R.replies R.records fixed c.pass.inside.number c.args.who c.args.payload.now old a.new.seat.me a.result c.pass.invariant p c.hand_on.new.seat.me c.hand_on.ensures.over

pub returns-clause-own : goal.returns-clause-own
returns-clause-own g c =
    let R = g.V.Recorded in
    let fixed = c.args.self.now.fixed in
    let old = c.pass.inside.seat.me in
    let a = c.apply-reply in
    let ticket = c.draw-ticket.ensures.ticket in
    let of = ap (λ p. p.fixed) c.pass.view_is ∙ c.requires.1 in
    let p = turn.played R.fixed R.changes R.replies R.records fixed c.pass.inside.number c.args.who c.args.payload.now old c.draw-ticket.new.seat.me c.wait.new.seat.me a.new.seat.me ticket.0 a.result of ticket.1 c.wait.ensures.turn a.ensures.own.2 a.ensures.step in
    ((c.hand_on.ensures.own.0 ∙ a.ensures.own.0 ∙ c.wait.ensures.own.0 ∙ c.draw-ticket.ensures.own.0 ∙ ap (λ q. q.lock) c.pass.view_is ∙ c.requires.0, turn.same_fixed R.fixed R.changes R.replies R.records fixed c.pass.inside.number c.args.who c.args.payload.now old a.new.seat.me a.result c.pass.invariant p c.hand_on.new.seat.me c.hand_on.ensures.over of), ap (λ q. q.number) c.pass.view_is)

pub returns-clause-done : goal.returns-clause-done
returns-clause-done g c =
    let R = g.V.Recorded in
    let fixed = c.args.self.now.fixed in
    let old = c.pass.inside.seat.me in
    let a = c.apply-reply in
    let ticket = c.draw-ticket.ensures.ticket in
    let of = ap (λ p. p.fixed) c.pass.view_is ∙ c.requires.1 in
    let p = turn.played R.fixed R.changes R.replies R.records fixed c.pass.inside.number c.args.who c.args.payload.now old c.draw-ticket.new.seat.me c.wait.new.seat.me a.new.seat.me ticket.0 a.result of ticket.1 c.wait.ensures.turn a.ensures.own.2 a.ensures.step in
    subst (λ q. IfOk a.result (Answers R.replies R.records fixed q c.args.who c.args.payload.now (pass_view c.hand_on.new.seat.table_id c.pass.inside.number c.hand_on.new.seat.me))) c.pass.view_is (turn.answers R.fixed R.changes R.replies R.records fixed c.pass.inside.number c.args.who c.args.payload.now old a.new.seat.me a.result c.pass.invariant p c.hand_on.new.seat.me c.hand_on.ensures.over c.pass.inside.seat.table_id c.hand_on.new.seat.table_id)

pub returns-clause-refused : goal.returns-clause-refused
returns-clause-refused g c =
    let R = g.V.Recorded in
    let fixed = c.args.self.now.fixed in
    let old = c.pass.inside.seat.me in
    let a = c.apply-reply in
    let ticket = c.draw-ticket.ensures.ticket in
    let of = ap (λ p. p.fixed) c.pass.view_is ∙ c.requires.1 in
    let p = turn.played R.fixed R.changes R.replies R.records fixed c.pass.inside.number c.args.who c.args.payload.now old c.draw-ticket.new.seat.me c.wait.new.seat.me a.new.seat.me ticket.0 a.result of ticket.1 c.wait.ensures.turn a.ensures.own.2 a.ensures.step in
    subst (λ q. OnErr a.result (Refuses q (pass_view c.hand_on.new.seat.table_id c.pass.inside.number c.hand_on.new.seat.me))) c.pass.view_is (turn.refuses R.fixed R.changes R.replies R.records fixed c.pass.inside.number c.args.who c.args.payload.now old a.new.seat.me a.result c.pass.invariant p c.hand_on.new.seat.me c.hand_on.ensures.over c.pass.inside.seat.table_id c.hand_on.new.seat.table_id)
