use Rattle.std.proofs.Common.{◌∙◌, sym, ap, rules}
use Rattle.vic_turn.proofs.Looks.{looks}
use Rattle.vic_turn.proofs.lock.TurnLock.look.Goals as goal

pub load-requires : goal.load-requires
load-requires g c =
    let shared = c.self.inside.table.shared in
    let w = c.requires.waits in
    (c.requires.own ∙ sym (ap (λ v. v.id) c.self.view_is), search rules, looks g.V.Recorded.fixed g.V.Recorded.changes (g.V.Recorded.fixed shared.key.value.value) shared.key.count shared.table_id.slots c.args.seat.now.id c.args.seat.now.me w.0 w.1.1 w.1.2 w.1.0)
