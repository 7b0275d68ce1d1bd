use Rattle.std.proofs.Common.{◌≡◌, map, take}
use Rattle.vic_view.specs.Together.{row_of}
use Rattle.vic_view.proofs.together.together.Given as goal

abbrev pub invariant-loop-i : goal.invariant-loop-i
invariant-loop-i g l = l.rows ≡ map (row_of g.L.Line.in_common l.lines) (take l.i l.lines)
