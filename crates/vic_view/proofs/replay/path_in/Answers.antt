use Rattle.std.proofs.Common.{◌+◌, take, reverse, ◌∙◌}
use Rattle.vic_view.proofs.Loops.{newest_step, replay_own, replay_other, replay_start}
use Rattle.vic_view.proofs.replay.path_in.Goals as goal
use Rattle.vic_view.proofs.replay.path_in.Goals.{then-step-client+in_ok-take, else-step-client}

pub loop-step-init : goal.loop-step-init
loop-step-init c = replay_start c.args.client c.new.result c.new.ensures

pub loop-step-preserved : goal.loop-step-preserved
loop-step-preserved c =
    let steps = c.args.steps.now in
    let i = c.loop-step.step-index in
    let newest = newest_step steps i c.step-item.result c.loop-step-test.true c.step-item.is in
    elim c.if-step-client.branch [
      | then-step-client+in_ok-take w ↦ w.path-is ∙ w.in_ok-take.ensures ∙
          replay_own c.args.client c.step-item.result (reverse (take i steps)) (reverse (take (i + 1) steps)) c.loop-step.path w.if-step-client.true newest c.loop-step.invariant
      | else-step-client w ↦ w.path-is ∙
          replay_other c.args.client c.step-item.result (reverse (take i steps)) (reverse (take (i + 1) steps)) c.loop-step.path w.if-step-client.false newest c.loop-step.invariant
    ]
