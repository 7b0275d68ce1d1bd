use Rattle.std.proofs.Common.{[], ◌∙◌, ap, refl, List, Bor}
use Rattle.vic_view.specs.declared.replay.Place.{Place}
use Rattle.vic_view.specs.Plain.{prefix_of}
use Rattle.vic_view.proofs.Plainly.{last_start, last_own_path, last_other_path}
use Rattle.vic_view.proofs.plain.last_path.Goals as goal
use Rattle.vic_view.proofs.plain.last_path.Goals.{then-call-client, else-call-client}

pub loop-call-init : goal.loop-call-init
loop-call-init c = last_start c.args.client [] refl

pub loop-call-preserved : goal.loop-call-preserved
loop-call-preserved c =
    elim c.if-call-client.branch [
      | then-call-client w ↦
          last_own_path c.args.client c.args.all.now c.loop-call.call-index c.call-item.result c.if-call-client.last.now c.loop-call-test.true c.call-item.is w.if-call-client.true
          (ap (λ (b : Bor (List Place)). b.now) w.last-is ∙ w.as_slice-last.ensures)
      | else-call-client w ↦ ap (λ (b : Bor (List Place)). prefix_of b.now) w.last-is ∙
          last_other_path c.args.client c.args.all.now c.loop-call.call-index c.call-item.result c.loop-call.last.now c.loop-call-test.true c.call-item.is w.if-call-client.false c.loop-call.invariant
    ]
