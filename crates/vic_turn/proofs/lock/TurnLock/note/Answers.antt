use Rattle.std.proofs.Common.{rules, ap, sym, ◌∙◌}
use Rattle.vic_turn.proofs.Parts.{notes}
use Rattle.vic_turn.proofs.lock.TurnLock.note.Goals as goal

pub split_seat-seat-requires : goal.split_seat-seat-requires
split_seat-seat-requires g c =
    let shared = c.self.inside.table.shared in
    let seat = c.pass.inside.seat in
    (ap (λ p. p.lock) c.pass.view_is ∙ c.requires.0 ∙ sym (ap (λ l. l.id) c.self.view_is), search rules, notes g.V.Recorded.fixed g.V.Recorded.changes (g.V.Recorded.fixed shared.key.value.value) shared.key.count seat.id seat.me.0)
