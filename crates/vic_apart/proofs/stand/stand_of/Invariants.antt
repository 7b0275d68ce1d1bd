use Rattle.std.proofs.Common.{take, reverse}
use Rattle.vic_view.specs.Transcripts.{transcript_group, transcript_history}
use Rattle.vic_apart.proofs.Standing.{StandsSoFar}
use Rattle.vic_apart.proofs.stand.stand_of.Given as goal

abbrev pub invariant-loop-step : goal.invariant-loop-step
invariant-loop-step l = StandsSoFar (transcript_group l.t) l.client (transcript_history l.t) (reverse (take l.step-index l.step-items)) l.stand
