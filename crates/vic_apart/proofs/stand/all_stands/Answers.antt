use Rattle.vic_view.specs.Transcripts.{transcript_group, transcript_history}
use Rattle.vic_apart.proofs.Standing.{all_start, all_more}
use Rattle.vic_apart.proofs.stand.all_stands.Goals as goal

pub loop-k-init : goal.loop-k-init
loop-k-init c = all_start (transcript_group c.args.t.now) (transcript_history c.args.t.now) c.new-all.result c.new-all.ensures

pub loop-k-preserved : goal.loop-k-preserved
loop-k-preserved c =
    all_more (transcript_group c.args.t.now) (transcript_history c.args.t.now) c.loop-k.k c.loop-k.all c.push.new.self c.in_ok-stand_of.field-0 c.loop-k.invariant c.in_ok-stand_of.ensures c.in_ok-push.ensures.ok
