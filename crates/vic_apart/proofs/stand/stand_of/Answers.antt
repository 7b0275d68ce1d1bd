use Rattle.std.proofs.Common.{◌+◌, take, reverse, refl, ap, sym, subst, ◌∙◌}
use Rattle.vic_rules.specs.declared.trace.TraceStep.{TraceStep}
use Rattle.vic_rules.specs.History.{AreSteps}
use Rattle.vic_view.specs.Transcripts.{transcript_group, transcript_history}
use Rattle.vic_view.specs.declared.replay.ClientPath.{ClientPath}
use Rattle.vic_apart.specs.declared.stand.Stand.{Stand}
use Rattle.vic_apart.proofs.Standing.{StandsSoFar, stands_start, stands_own, stands_other}
use Rattle.vic_apart.proofs.stand.stand_of.Goals as goal
use Rattle.vic_apart.proofs.stand.stand_of.Goals.{then-step-client+in_ok-answer+in_ok-take, else-step-client}

pub loop-step-init : goal.loop-step-init
loop-step-init c =
    stands_start (transcript_group c.args.t.now) c.args.client (transcript_history c.args.t.now) (record { path = c.in_ok-path.path.places; sealed = 0; parts = c.new.result })
    (ap (λ (p : ClientPath). p.places) c.in_ok-path.ensures) refl c.new.ensures

pub loop-step-preserved : goal.loop-step-preserved
loop-step-preserved c =
    let g = transcript_group c.args.t.now in
    let h = transcript_history c.args.t.now in
    let xs = c.as_slice-step-items.result.now in
    let i = c.loop-step.step-index in
    let x = c.step-item.result in
    let steps = subst (AreSteps g) (ap (reverse {A = TraceStep}) (sym c.as_slice-step-items.ensures)) c.requires.steps in
    elim c.if-step-client.branch [
      | then-step-client+in_ok-answer+in_ok-take w ↦
          stands_own g h xs i x c.loop-step-test.true c.step-item.is steps c.args.client w.if-step-client.true c.loop-step.stand c.if-step-client.stand
          w.in_ok-answer.answer c.loop-step.invariant w.in_ok-answer.ensures.value (w.stand-is ∙ w.in_ok-take.ensures)
      | else-step-client w ↦
          subst (λ (s : Stand). StandsSoFar g c.args.client h (reverse (take (i + 1) xs)) s) (sym w.stand-is)
          (stands_other g h xs i x c.loop-step-test.true c.step-item.is c.args.client w.if-step-client.false c.loop-step.stand c.loop-step.invariant)
    ]
