use Rattle.std.proofs.Common.{ℕ, ◌+◌}
use Rattle.vic_drill.specs.Drills.{DrillState, drill_after_closing, drill_after_repeats}
use Rattle.vic_run_drill.specs.Running.{Stands}
use Rattle.vic_run_drill.proofs.run.Drill.seal_all.Given as goal

-- so many events happened
abbrev pub invariant-loop-event : goal.invariant-loop-event
invariant-loop-event l = (d : DrillState) (n : ℕ) → Stands l.fn.self d n → Stands l.self (drill_after_repeats l._event drill_after_closing d) (n + l._event)
