use Rattle.vic_view.specs.Transcripts.{transcript_group, transcript_history}
use Rattle.vic_apart.specs.Stands.{AreStands}
use Rattle.vic_apart.proofs.stand.all_stands.Given as goal

abbrev pub invariant-loop-k : goal.invariant-loop-k
invariant-loop-k l = AreStands l.k (transcript_group l.t) (transcript_history l.t) l.all
