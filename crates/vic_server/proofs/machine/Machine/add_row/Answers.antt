use Rattle.std.proofs.Common.{◌+◌, [], ◌∷◌, ◌++◌, sym, ap, subst, ◌∙◌, arith}
use Rattle.vic_order.specs.Order.{op_weight}
use Rattle.vic_server.specs.Keeping.{IsSound}
use Rattle.vic_server.proofs.Seen.{size-rows, weight-rows}
use Rattle.vic_server.proofs.Sound.{sound_row}
use Rattle.vic_server.proofs.machine.Machine.add_row.Goals as goal

pub invariant_of-self-2 : goal.invariant_of-self-2
invariant_of-self-2 c =
    let a = c.self.inside in
    let s = c.args.self.now in
    let log = ap (λ v. v.log) c.self.view_is in
    let len = size-rows a.rows.items s log in
    let counted = weight-rows a.rows.items a.seals.items a.dictionary s log (ap (λ v. v.seals) c.self.view_is) (ap (λ v. v.dictionary) c.self.view_is) in
    let weighs = c.op_weight-weight.ensures.is ∙ ap op_weight c.op.ensures.is in
    subst (λ l. IsSound l a.commits.items c.index_more.new.statuses.items a.seals.items a.dictionary a.members.items (a.weight + c.op_weight-weight.result)) (sym c.in_ok-push.ensures.items)
    (subst (λ n. IsSound (a.rows.items ++ c.args.row ∷ []) a.commits.items c.index_more.new.statuses.items a.seals.items a.dictionary a.members.items (a.weight + n)) (sym weighs)
    (sound_row _ _ _ _ _ _ _ c.args.row c.index_more.new.statuses.items c.self.invariant (omega (arith, len, c.requires.room)) (omega (arith, counted, c.self.invariant.weight, c.requires.light))
    c.in_ok-index_more.ensures.same (omega (arith, c.in_ok-index_more.ensures.room, c.len.ensures, a.rows.ok, c.index_more.new.statuses.ok))))
