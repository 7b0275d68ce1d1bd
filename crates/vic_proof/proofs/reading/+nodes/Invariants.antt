use Rattle.std.proofs.Common.{◌+◌, ◌-◌, ◌*◌}
use Rattle.vic_proof.proofs.reading.+nodes.Given as goal

abbrev pub decreases-take_inner : goal.decreases-take_inner
decreases-take_inner l = 3 * (2297 - l.low)

abbrev pub decreases-take_node : goal.decreases-take_node
decreases-take_node l = 3 * (2297 - l.low) + 2

abbrev pub decreases-take_rest : goal.decreases-take_rest
decreases-take_rest l = 3 * (2297 - l.low) + 1
