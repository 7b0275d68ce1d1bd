use Rattle.std.proofs.Common.{◌≡◌, true, false, refl, ap, subst, sym, ◌∙◌, List, take, reverse}
use Rattle.vic_rules.specs.declared.trace.TraceStep.{TraceStep}
use Rattle.vic_rules.specs.History.{AreSteps}
use Rattle.vic_script.specs.Print.{is_forged, takes_forged}
use Rattle.vic_view.specs.Transcripts.{transcript_group, transcript_history}
use Rattle.vic_view.proofs.Forging.{paths_spelled, is_member, hashes_then, within_hashes, takes_forged_is, forged_at, not_forged_next, made_next, nothing_made}
use Rattle.vic_view.proofs.forgery.forged_along.Goals as goal

pub all_hashes-requires : goal.all_hashes-requires
all_hashes-requires c = paths_spelled (transcript_group c.args.t.now) (transcript_history c.args.t.now) c.requires.lawful c.args.paths.now c.args.paths.now refl c.requires.paths

pub loop-step-init : goal.loop-step-init
loop-step-init c = nothing_made (transcript_group c.args.t.now) c.new-made.result c.new-made.ensures

pub hashes_for-hashes-requires-clause-some : goal.hashes_for-hashes-requires-clause-some
hashes_for-hashes-requires-clause-some c =
    let steps = subst (AreSteps (transcript_group c.args.t.now)) (ap (reverse {A = TraceStep}) (sym c.as_slice-step-items.ensures)) c.requires.lawful.steps in
    (is_member (transcript_group c.args.t.now) c.as_slice-step-items.result.now c.loop-step.step-index c.step-item.result c.loop-step-test.true c.step-item.is steps).0

pub hashes_for-hashes-requires-clause-within : goal.hashes_for-hashes-requires-clause-within
hashes_for-hashes-requires-clause-within c =
    let steps = subst (AreSteps (transcript_group c.args.t.now)) (ap (reverse {A = TraceStep}) (sym c.as_slice-step-items.ensures)) c.requires.lawful.steps in
    within_hashes (transcript_group c.args.t.now) (transcript_history c.args.t.now) c.args.paths.now c.args.paths.now refl c.requires.paths
    c.in_ok-all.all c.as_slice.result.now c.as_slice.ensures c.in_ok-all.ensures c.step-item.result.client
    (is_member (transcript_group c.args.t.now) c.as_slice-step-items.result.now c.loop-step.step-index c.step-item.result c.loop-step-test.true c.step-item.is steps).1

pub returns-then-branch : goal.returns-then-branch
returns-then-branch c =
    let g = transcript_group c.args.t.now in
    let xs = c.as_slice-step-items.result.now in
    let i = c.loop-step.step-index in
    let steps = subst (AreSteps g) (ap (reverse {A = TraceStep}) (sym c.as_slice-step-items.ensures)) c.requires.lawful.steps in
    let member = is_member g xs i c.step-item.result c.loop-step-test.true c.step-item.is steps in
    let hashes = hashes_then g (transcript_history c.args.t.now) xs (ap (reverse {A = TraceStep}) c.as_slice-step-items.ensures) c.args.paths.now c.args.paths.now refl c.requires.paths
    c.in_ok-all.all c.as_slice.result.now c.as_slice.ensures c.in_ok-all.ensures c.step-item.result.client member c.hashes_for-hashes.result.now c.hashes_for-hashes.ensures in
    let found : takes_forged g (reverse (take i xs)) c.step-item.result ≡ true =
    sym (takes_forged_is g xs i c.step-item.result c.loop-step-test.true c.step-item.is steps c.hashes_for-hashes.result.now hashes c.loop-step.made c.loop-step.invariant.1)
    ∙ sym c.in_ok-takes_forged.ensures ∙ c.if-branch.true in
    sym (forged_at g xs i c.step-item.result c.loop-step-test.true c.step-item.is found) ∙ ap (λ (h : List TraceStep). is_forged g h) (ap (reverse {A = TraceStep}) c.as_slice-step-items.ensures)

pub loop-step-preserved : goal.loop-step-preserved
loop-step-preserved c =
    let g = transcript_group c.args.t.now in
    let xs = c.as_slice-step-items.result.now in
    let i = c.loop-step.step-index in
    let steps = subst (AreSteps g) (ap (reverse {A = TraceStep}) (sym c.as_slice-step-items.ensures)) c.requires.lawful.steps in
    let member = is_member g xs i c.step-item.result c.loop-step-test.true c.step-item.is steps in
    let hashes = hashes_then g (transcript_history c.args.t.now) xs (ap (reverse {A = TraceStep}) c.as_slice-step-items.ensures) c.args.paths.now c.args.paths.now refl c.requires.paths
    c.in_ok-all.all c.as_slice.result.now c.as_slice.ensures c.in_ok-all.ensures c.step-item.result.client member c.hashes_for-hashes.result.now c.hashes_for-hashes.ensures in
    let found : takes_forged g (reverse (take i xs)) c.step-item.result ≡ false =
    sym (takes_forged_is g xs i c.step-item.result c.loop-step-test.true c.step-item.is steps c.hashes_for-hashes.result.now hashes c.loop-step.made c.loop-step.invariant.1)
    ∙ sym c.in_ok-takes_forged.ensures ∙ c.if-branch.false in (
      not_forged_next g xs i c.step-item.result c.loop-step-test.true c.step-item.is c.loop-step.invariant.0 found,
      made_next g xs i c.step-item.result c.loop-step-test.true c.step-item.is steps c.hashes_for-hashes.result.now hashes c.loop-step.made c.note_made.new.made c.loop-step.invariant.1 c.in_ok-note_made.ensures,
    )
