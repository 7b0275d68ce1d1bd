use Rattle.std.proofs.Common.{◌≤◌, ◌+◌, length}
use Rattle.vic_script.specs.Lines.{lines_of}
use Rattle.vic_script.specs.Run.{Before, run_from}
use Rattle.vic_group.specs.Playing.{progress_by, HasFew}
use Rattle.vic_group.proofs.Playing.{Heading}
use Rattle.vic_group.proofs.play.run_known.Given as goal

-- what is left leads on behind the header, and nothing was printed
abbrev pub invariant-loop-rest : goal.invariant-loop-rest
invariant-loop-rest l = record {
  header : HasFew l.header;
  place : l.before ≤ length l.known;
  few : l.number + length l.rest ≤ 16777218;
  run : Heading (run_from (length l.known) 0 1 Before (lines_of l.known)) (length l.known) l.before l.number (progress_by l.header) (lines_of l.rest);
}

abbrev pub decreases-loop-rest : goal.decreases-loop-rest
decreases-loop-rest l = length l.rest
