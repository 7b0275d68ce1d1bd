use Rattle.std.proofs.Common.{◌≡◌, ℕ, ◌+◌, ◌-◌}
use Rattle.vic_drill.specs.Drills.{DrillState, first_waiting}
use Rattle.vic_run_drill.specs.Running.{Stands}
use Rattle.vic_run_drill.proofs.run.Drill.first_waiting.Given as goal

-- nothing is under way for the clients so far
abbrev pub invariant-loop-place : goal.invariant-loop-place
invariant-loop-place l =
    (d : DrillState) (n : ℕ) → Stands l.self d n → first_waiting d.scene 1 d.scene.group.count ≡ first_waiting d.scene (1 + l.place) (d.scene.group.count - l.place)
