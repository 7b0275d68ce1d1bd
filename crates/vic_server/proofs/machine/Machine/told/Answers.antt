use Rattle.std.proofs.Common.{◌≡◌, ◌-◌, map, take, drop, sym, ap, subst, ◌∙◌}
use Rattle.std.specs.Prelude.{IfOk}
use Rattle.vic_dict.specs.Lists.{front}
use Rattle.vic_order.specs.Order.{entries_above, tagged_entry}
use Rattle.vic_server.proofs.Logs.{entries_above-rows}
use Rattle.vic_server.proofs.machine.Machine.told.Goals as goal

pub returns-clause-is : goal.returns-clause-is
returns-clause-is c =
    let rows = ap (λ l. map tagged_entry (take (c.args.upto - c.args.known) (drop c.args.known l))) c.deref.ensures.value in
    let seen = ap (λ s. entries_above c.args.known (front c.args.upto s.log)) c.self.view_is in
    subst (λ l. IfOk c.copies.result (λ ts. ts ≡ l)) (rows ∙ sym (entries_above-rows c.args.known c.args.upto c.self.inside.rows.items c.requires.order) ∙ seen) c.copies.ensures.is
