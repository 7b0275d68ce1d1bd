use Rattle.std.proofs.Common.{◌∙◌, ap, Some}
use Rattle.std.proofs.lemmas.List.{drop_all}
use Rattle.vic_view.proofs.Plainly.{found_here, not_here, found_nowhere}
use Rattle.vic_view.proofs.plain.outcome_on.Goals as goal

pub returns-then-same_path : goal.returns-then-same_path
returns-then-same_path c =
    ap Some c.in_ok-copy.ensures
    ∙ found_here c.args.all.now c.loop-call.call-index c.call-item.result c.args.path.now c.loop-call-test.true c.call-item.is (cc) c.loop-call.invariant

pub loop-call-preserved : goal.loop-call-preserved
loop-call-preserved c = not_here c.args.all.now c.loop-call.call-index c.call-item.result c.args.path.now c.loop-call-test.true c.call-item.is (cc) c.loop-call.invariant

pub returns : goal.returns
returns c = found_nowhere c.args.all.now c.loop-call.call-index c.args.path.now (drop_all c.loop-call.call-index c.args.all.now c.loop-call-test.false) c.loop-call.invariant
