use Rattle.vic_drill.specs.Drills.{DrillState, drill_after_turn_below, drill_after_repeats}
use Rattle.vic_run_drill.specs.Running.{Stands}
use Rattle.vic_run_drill.proofs.run.Drill.make_calls.Given as goal

-- so many turns were made
abbrev pub invariant-loop-turn : goal.invariant-loop-turn
invariant-loop-turn l = (d : DrillState) → Stands l.fn.self d 0 → Stands l.self (drill_after_repeats l._turn (drill_after_turn_below l.calls) d) l._turn
