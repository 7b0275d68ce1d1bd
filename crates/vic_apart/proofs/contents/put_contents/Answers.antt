use Rattle.std.proofs.Common.{◌≡◌, ◌+◌, ◌-◌, length, reverse, refl, ap, arith}
use Rattle.vic_rules.specs.declared.trace.TraceStep.{TraceStep}
use Rattle.vic_view.specs.Transcripts.{transcript_group, transcript_history}
use Rattle.vic_apart.proofs.ContentsTold.{contents_start, contents_next, contents_end}
use Rattle.vic_apart.proofs.contents.put_contents.Goals as goal

pub loop-left-init : goal.loop-left-init
loop-left-init c = let xs = c.as_slice-steps.result.now in record { within = omega arith; texts = contents_start xs (length xs) c.args.texts.now refl }

pub loop-left-preserved : goal.loop-left-preserved
loop-left-preserved c =
    let n = c.loop-left.left in
    let one : n - 1 + 1 ≡ n = omega (arith, c.loop-left-test.true) in
    record {
      within = omega (arith, c.loop-left.invariant.within);
      texts = contents_next c.as_slice-steps.result.now (n - 1) n c.index-steps-left.result c.args.texts.now c.loop-left.texts c.put_contents_at.new.texts
          one c.loop-left.invariant.within c.index-steps-left.is c.loop-left.invariant.texts c.in_ok-put_contents_at.ensures;
    }

pub returns : goal.returns
returns c =
    contents_end (transcript_group c.args.t.now) (transcript_history c.args.t.now) c.as_slice-steps.result.now (ap (reverse {A = TraceStep}) c.as_slice-steps.ensures) c.requires.steps
    c.loop-left.left c.args.texts.now c.loop-left.texts c.loop-left-test.false c.loop-left.invariant.texts
