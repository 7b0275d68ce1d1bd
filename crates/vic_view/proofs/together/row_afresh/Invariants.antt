use Rattle.std.proofs.Common.{◌≡◌, take}
use Rattle.vic_view.specs.Together.{row_of}
use Rattle.vic_view.proofs.together.row_afresh.Given as goal

abbrev pub invariant-loop-other : goal.invariant-loop-other
invariant-loop-other g l = l.row ≡ row_of g.L.Line.in_common (take l.other-index l.lines) l.line
