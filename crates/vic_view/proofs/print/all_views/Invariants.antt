use Rattle.std.proofs.Common.{◌≡◌}
use Rattle.vic_view.specs.Transcripts.{transcript_group, transcript_history}
use Rattle.vic_view.specs.Printed.{views_up_to}
use Rattle.vic_view.proofs.print.all_views.Given as goal

abbrev pub invariant-loop-k : goal.invariant-loop-k
invariant-loop-k l = l.views ≡ views_up_to (transcript_group l.t) (transcript_history l.t) l.k
