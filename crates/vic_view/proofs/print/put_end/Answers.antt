use Rattle.vic_script.proofs.Forged.{forged_means}
use Rattle.vic_view.specs.Transcripts.{transcript_group, transcript_history}
use Rattle.vic_view.proofs.print.put_end.Goals as goal

pub returns-clause-means : goal.returns-clause-means
returns-clause-means c = forged_means (transcript_group c.args.t.now) (transcript_history c.args.t.now) c.in_ok-forged.forged c.in_ok-forged.ensures
