use Rattle.std.proofs.Common.{◌≡◌, List, replicate}
use Rattle.vic_order.specs.Order.{Member}
use Rattle.vic_server.proofs.machine.seats.Given as goal

abbrev pub invariant-loop : goal.invariant-loop
invariant-loop l = ◌≡◌ {A = List Member} l.made.items (replicate l.counter (record { last = 0; stage = l.stage }))
