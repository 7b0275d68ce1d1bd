use Rattle.std.proofs.Common.{◌≡◌, map, take}
use Rattle.std.specs.List.{AllByRecursion}
use Rattle.vic_wire.specs.Messages.{IsTagged}
use Rattle.vic_order.specs.Order.{tagged_entry}
use Rattle.vic_server.proofs.machine.copies.Given as goal

abbrev pub invariant-loop-row : goal.invariant-loop-row
invariant-loop-row l = (l.items ≡ map tagged_entry (take l.row-index l.rows)) × AllByRecursion IsTagged l.items
