use Rattle.std.proofs.Common.{◌<◌, length}
use Rattle.vic_view.proofs.together.nearest.Given as goal

abbrev pub invariant-loop-i : goal.invariant-loop-i
invariant-loop-i l = l.best < length l.rows
