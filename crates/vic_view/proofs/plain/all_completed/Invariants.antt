use Rattle.std.proofs.Common.{◌≡◌, take, reverse}
use Rattle.vic_view.specs.Plain.{completed_in}
use Rattle.vic_view.proofs.plain.all_completed.Given as goal

abbrev pub invariant-loop-i : goal.invariant-loop-i
invariant-loop-i l = l.all ≡ completed_in (reverse (take l.i l.steps))
