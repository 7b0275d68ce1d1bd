use Rattle.std.proofs.Common.{◌≡◌, ◌+◌, drop}
use Rattle.vic_view.specs.Replay.{common_length}
use Rattle.vic_view.proofs.views.common_length.Given as goal

abbrev pub invariant-loop-i : goal.invariant-loop-i
invariant-loop-i l = (l.length ≡ l.i) × (common_length l.a l.b ≡ common_length (drop l.i l.a) (drop l.i l.b) + l.length)
