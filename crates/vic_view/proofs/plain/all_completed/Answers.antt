use Rattle.vic_view.proofs.Plainly.{completed_start, completed_next}
use Rattle.vic_view.proofs.plain.all_completed.Goals as goal

pub loop-i-init : goal.loop-i-init
loop-i-init c = completed_start c.new-all.result c.new-all.ensures

pub loop-i-preserved : goal.loop-i-preserved
loop-i-preserved c =
    completed_next c.args.steps.now c.loop-i.i c.index-steps-i.result c.loop-i.all c.note_completed.new.all c.loop-i-test.true c.index-steps-i.is c.loop-i.invariant c.in_ok-note_completed.ensures
