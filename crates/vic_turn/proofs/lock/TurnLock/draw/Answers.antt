use Rattle.std.proofs.Common.{◌∙◌, sym, ap, rules}
use Rattle.vic_turn.proofs.Tickets.{draws}
use Rattle.vic_turn.proofs.lock.TurnLock.draw.Goals as goal

pub fetch_add-requires : goal.fetch_add-requires
fetch_add-requires g c =
    let shared = c.self.inside.table.shared in
    (c.requires.own ∙ sym (ap (λ v. v.id) c.self.view_is), search rules, draws g.V.Recorded.fixed g.V.Recorded.changes (g.V.Recorded.fixed shared.key.value.value) shared.key.count shared.table_id.slots c.args.seat.now.id c.args.seat.now.me c.requires.idle.0 c.requires.idle.1 c.requires.idle.2)
