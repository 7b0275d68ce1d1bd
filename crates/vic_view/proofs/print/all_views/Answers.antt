use Rattle.std.proofs.Common.{refl}
use Rattle.vic_view.specs.Transcripts.{transcript_group, transcript_history}
use Rattle.vic_view.proofs.Prints.{views_next, view_among_all, done_among}
use Rattle.vic_view.proofs.print.all_views.Goals as goal

pub view_among-requires-clause-done : goal.view_among-requires-clause-done
view_among-requires-clause-done c =
    done_among (transcript_group c.args.t.now) (transcript_history c.args.t.now) c.requires.lawful c.args.all.now c.args.all.now refl c.requires.paths
    c.loop-k.k c.index-all-k.result c.loop-k-test.true c.index-all-k.is

pub loop-k-preserved : goal.loop-k-preserved
loop-k-preserved c =
    views_next (transcript_group c.args.t.now) (transcript_history c.args.t.now) c.loop-k.k c.loop-k.views c.push.new.self c.in_ok-view_among.field-0 _
    c.loop-k.invariant c.in_ok-view_among.ensures
    (view_among_all (transcript_group c.args.t.now) (transcript_history c.args.t.now) c.requires.lawful c.args.all.now c.args.all.now refl c.requires.paths
    c.loop-k.k c.index-all-k.result c.loop-k-test.true c.index-all-k.is)
    c.in_ok-push.ensures.ok
