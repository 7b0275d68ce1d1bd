use Rattle.vic_run_drill.specs.Running.{HaveComeIn}
use Rattle.vic_run_drill.proofs.opening.entered_all.Given as goal

abbrev pub invariant-loop-i : goal.invariant-loop-i
invariant-loop-i l = HaveComeIn l.count l.i l.made.items
