use Rattle.std.proofs.Common.{◌≡◌, ◌≤◌, ◌+◌, length}
use Rattle.vic_script.specs.Lines.{lines_of}
use Rattle.vic_script.specs.Run.{Stands, run_after_text, run_from}
use Rattle.vic_runs.specs.Reached.{IsReached}
use Rattle.vic_group.specs.Playing.{scene_of, ShowsItsScene}
use Rattle.vic_group.proofs.play.run_on.Given as goal

-- the world shows where the script stands, and what is left leads on from what was printed
abbrev pub invariant-loop-rest : goal.invariant-loop-rest
invariant-loop-rest l = record {
  shows : ShowsItsScene l.world;
  reached : IsReached (scene_of l.world) l.number;
  place : l.before ≤ l.total;
  few : l.number + length l.rest ≤ 16777219;
  run : run_from l.total l.place l.first (Stands (scene_of l.fn.opened)) (lines_of l.lines) ≡ run_after_text l.out (run_from l.total l.before l.number (Stands (scene_of l.world)) (lines_of l.rest));
}

abbrev pub decreases-loop-rest : goal.decreases-loop-rest
decreases-loop-rest l = length l.rest
