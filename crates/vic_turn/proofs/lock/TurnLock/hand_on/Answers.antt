use Rattle.std.proofs.Common.{◌∙◌, sym, ap, rules}
use Rattle.vic_turn.proofs.Ends.{hands_on}
use Rattle.vic_turn.proofs.lock.TurnLock.hand_on.Goals as goal

pub fetch_add-served-requires : goal.fetch_add-served-requires
fetch_add-served-requires g c =
    let shared = c.self.inside.table.shared in
    let o = c.requires.out in
    (c.requires.own ∙ sym (ap (λ v. v.id) c.self.view_is), search rules, hands_on g.V.Recorded.fixed g.V.Recorded.changes (g.V.Recorded.fixed shared.key.value.value) shared.key.count shared.table_id.slots c.args.seat.now.id c.args.seat.now.me o.0 o.1 o.2 o.3 o.4 o.5 o.6 o.7 (o.8 ∙ sym (ap (λ v. v.fixed) c.self.view_is)) o.9 o.10)
