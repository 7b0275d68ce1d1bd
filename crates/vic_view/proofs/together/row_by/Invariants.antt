use Rattle.std.proofs.Common.{◌≡◌, take}
use Rattle.vic_view.specs.Together.{row_of}
use Rattle.vic_view.proofs.together.row_by.Given as goal

abbrev pub invariant-loop-i : goal.invariant-loop-i
invariant-loop-i g l = l.row ≡ row_of g.L.Line.in_common (take l.i l.lines) l.line
