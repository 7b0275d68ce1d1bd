use Rattle.vic_view.specs.Plain.{completions_of}
use Rattle.vic_view.proofs.Plainly.{shows_none, shows_more}
use Rattle.vic_view.proofs.plain.confirmed_on.Goals as goal

pub loop-i-init : goal.loop-i-init
loop-i-init c = shows_none (completions_of c.args.all.now) c.new-view.result c.new-view.ensures

pub loop-i-preserved : goal.loop-i-preserved
loop-i-preserved c =
    shows_more (completions_of c.args.all.now) c.args.path.now c.loop-i.i c.index-path-i.result c.loop-i.view c.show.new.view c.in_ok-outcome.outcome
    c.loop-i-test.true c.index-path-i.is c.loop-i.invariant c.in_ok-outcome.ensures c.in_ok-show.ensures
