use Rattle.std.proofs.Common.{[], ◌∷◌, ◌++◌, ap, ◌∙◌, sym, subst}
use Rattle.atomic_table.specs.Table.{opening}
use Rattle.vic_turn.specs.Turns.{Kept}
use Rattle.vic_turn.specs.Told.{opening_view}
use Rattle.vic_turn.proofs.Closing.{begins}
use Rattle.vic_turn.proofs.lock.TurnLock.new.Goals as goal

pub new-requires : goal.new-requires
new-requires g c =
    let R = g.V.Recorded in
    let n = c.args.count in
    let value = c.args.value in
    let shot = c.of.result.value in
    let items = c.push_reserved.ensures.items ∙ ap (λ xs. xs ++ value ∷ []) c.in-Ok-with_capacity.ensures.items in
    subst (λ xs. Kept R.fixed R.changes (R.fixed shot) n (opening (0 ∷ 0 ∷ []) xs (opening_view (R.fixed shot)))) (sym items)
    (subst (λ v. Kept R.fixed R.changes (R.fixed v) n (opening (0 ∷ 0 ∷ []) (value ∷ []) (opening_view (R.fixed v)))) (sym c.of.ensures)
    (begins R.fixed R.changes value n c.requires.empty c.requires.count.1))
