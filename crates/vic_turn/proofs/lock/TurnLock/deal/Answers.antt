use Rattle.std.proofs.Common.{◌∙◌, sym, ap, rules, arith}
use Rattle.vic_turn.proofs.Parts.{deals}
use Rattle.vic_turn.proofs.lock.TurnLock.deal.Goals as goal

pub split_seat-seat-requires : goal.split_seat-seat-requires
split_seat-seat-requires g c =
    let shared = c.self.inside.table.shared in
    let seat = c.args.maker.now in
    let fixed = g.V.Recorded.fixed shared.key.value.value in
    let is = ap (λ m. m.0) c.requires.maker in
    (c.requires.own ∙ sym (ap (λ v. v.id) c.self.view_is), search rules, deals g.V.Recorded.fixed g.V.Recorded.changes fixed shared.key.count seat.id seat.me.0 (ap (λ v. v.makes) is) (let m = ap (λ v. v.made) is in let n = ap (λ l. l.count) c.self.view_is in omega (arith, m, n, c.requires.room.0)))
