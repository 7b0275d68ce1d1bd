use Rattle.vic_view.specs.Replay.{AreReplayed}
use Rattle.vic_view.specs.Transcripts.{transcript_history}
use Rattle.vic_view.proofs.views.all_paths.Given as goal

abbrev pub invariant-loop-k : goal.invariant-loop-k
invariant-loop-k l = AreReplayed l.k (transcript_history l.t) l.all
