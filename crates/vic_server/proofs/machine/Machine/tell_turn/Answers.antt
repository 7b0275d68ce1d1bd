use Rattle.std.proofs.Common.{arith}
use Rattle.vic_server.proofs.machine.Machine.tell_turn.Goals as goal

pub turn_of-requires-clause-light : goal.turn_of-requires-clause-light
turn_of-requires-clause-light c = omega (arith, c.self.invariant.weight, c.self.invariant.light)
