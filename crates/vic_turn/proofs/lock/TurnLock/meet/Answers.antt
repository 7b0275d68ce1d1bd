use Rattle.std.proofs.Common.{rules, ap, sym, subst, ◌∙◌}
use Rattle.vic_turn.specs.Told.{IsLonger}
use Rattle.vic_turn.proofs.Looks.{meets}
use Rattle.vic_turn.proofs.Parts.{gathers}
use Rattle.vic_turn.proofs.Meeting as meeting
use Rattle.vic_turn.proofs.lock.TurnLock.meet.Goals as goal

pub join_seat-requires : goal.join_seat-requires
join_seat-requires g c =
    let shared = c.self.inside.table.shared in
    let pass = c.pass.inside.seat in
    let note = c.note.inside.seat in
    let id = ap (λ l. l.id) c.self.view_is in
    (ap (λ p. p.lock) c.pass.view_is ∙ c.requires.pass.0 ∙ sym id, ap (λ p. p.lock) c.note.view_is ∙ c.requires.note.0 ∙ sym id, c.note.invariant.0, search rules, gathers g.V.Recorded.fixed g.V.Recorded.changes (g.V.Recorded.fixed shared.key.value.value) shared.key.count pass.id pass.me.0 note.id note.me.0 c.note.invariant.1 c.note.invariant.2)

pub load-requires : goal.load-requires
load-requires g c =
    let shared = c.self.inside.table.shared in
    let seat = c.join_seat.new.seat in
    let id = ap (λ l. l.id) c.self.view_is in
    (c.join_seat.ensures.0 ∙ ap (λ p. p.lock) c.pass.view_is ∙ c.requires.pass.0 ∙ sym id, search rules, meets g.V.Recorded.fixed g.V.Recorded.changes (g.V.Recorded.fixed shared.key.value.value) shared.key.count shared.table_id.slots seat.id seat.me)

pub invariant_of-pass : goal.invariant_of-pass
invariant_of-pass g c =
    meeting.idle_still c.pass.inside.number c.pass.inside.seat.me c.note.inside.seat.me c.join_seat.new.seat.me c.load.new.seat.me c.pass.invariant c.note.invariant c.join_seat.ensures.2 c.load.ensures.2

pub returns-clause-own : goal.returns-clause-own
returns-clause-own g c =
    ((c.load.ensures.0 ∙ c.join_seat.ensures.0 ∙ ap (λ p. p.lock) c.pass.view_is ∙ c.requires.pass.0, meeting.same_fixed c.pass.inside.number c.pass.inside.seat.me c.note.inside.seat.me c.join_seat.new.seat.me c.load.new.seat.me c.pass.invariant c.note.invariant c.join_seat.ensures.2 c.load.ensures.2 _ (ap (λ p. p.fixed) c.pass.view_is ∙ c.requires.pass.1)), ap (λ p. p.number) c.pass.view_is)

pub returns-clause-mine : goal.returns-clause-mine
returns-clause-mine g c =
    meeting.same_mine c.pass.inside.number c.pass.inside.seat.me c.note.inside.seat.me c.join_seat.new.seat.me c.load.new.seat.me c.pass.invariant c.note.invariant c.join_seat.ensures.2 c.load.ensures.2 ∙ ap (λ p. p.mine) c.pass.view_is

pub returns-clause-met : goal.returns-clause-met
returns-clause-met g c =
    subst (λ l. IsLonger l c.args.note.seen c.load.new.seat.me.0.seen) (ap (λ p. p.seen) c.pass.view_is) (subst (λ l. IsLonger c.pass.inside.seat.me.0.seen l c.load.new.seat.me.0.seen) (ap (λ p. p.seen) c.note.view_is) (meeting.longer_seen c.pass.inside.number c.pass.inside.seat.me c.note.inside.seat.me c.join_seat.new.seat.me c.load.new.seat.me c.pass.invariant c.note.invariant c.join_seat.ensures.2 c.load.ensures.2))
