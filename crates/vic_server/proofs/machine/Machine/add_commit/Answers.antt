use Rattle.std.proofs.Common.{◌≡◌, ◌-◌, Some, List, [], ◌∷◌, ◌++◌, set, sym, ap, subst, ◌∙◌, arith}
use Rattle.vic_order.specs.Order.{Committed}
use Rattle.vic_server.specs.Keeping.{IsSound}
use Rattle.vic_server.proofs.Seen.{size-rows}
use Rattle.vic_server.proofs.Sound.{sound_commit}
use Rattle.vic_server.proofs.machine.Machine.add_commit.Goals as goal

pub invariant_of-self-2 : goal.invariant_of-self-2
invariant_of-self-2 c =
    let a = c.self.inside in
    let len = size-rows a.rows.items c.args.self.now (ap (λ s. s.log) c.self.view_is) in
    let x : Committed = record { position = c.args.position; done = c.args.done; tag = c.args.tag } in
    let items : c.push.new.self.items ≡ a.commits.items ++ x ∷ [] = ◌∙◌ {A = List Committed} c.in_ok-push.ensures.items (ap (λ y. a.commits.items ++ y ∷ []) c.new.ensures) in
    subst (λ l. IsSound a.rows.items l (set a.statuses.items (c.args.position - 1) (Some c.args.done)) a.seals.items a.dictionary a.members.items a.weight) (sym items)
    (sound_commit _ _ _ _ _ _ _ x (c.args.position - 1) c.self.invariant (omega (arith, c.requires.0)) (omega (arith, len, c.requires.0, c.requires.1)))
