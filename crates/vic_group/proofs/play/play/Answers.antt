use Rattle.std.proofs.Common.{subst}
use Rattle.vic_script.specs.Run.{run_of}
use Rattle.vic_group.specs.declared.play.Ran.{Ran}
use Rattle.vic_group.specs.declared.play.Ran.TheVariants as ran
use Rattle.vic_group.specs.Playing.{ComesTo}
use Rattle.vic_group.proofs.Playing.{prints_whole, prints_stopped, if_ok-map}
use Rattle.vic_group.proofs.play.play.Goals as goal

pub finished-requires : goal.finished-requires
finished-requires c =
    let left : ComesTo (run_of c.args.script.now) (ran.Whole c.in-Whole.world c.in-Whole.text) = subst (λ (r : Ran). ComesTo (run_of c.args.script.now) r) c.in-Whole.is c.in_ok-world.ensures in
    left.1.1.1

pub returns-in-Whole : goal.returns-in-Whole
returns-in-Whole c =
    let left : ComesTo (run_of c.args.script.now) (ran.Whole c.in-Whole.world c.in-Whole.text) = subst (λ (r : Ran). ComesTo (run_of c.args.script.now) r) c.in-Whole.is c.in_ok-world.ensures in
    if_ok-map c.finished.result _ _ (prints_whole (run_of c.args.script.now) c.in-Whole.world c.in-Whole.text left) c.finished.ensures

pub returns : goal.returns
returns c =
    let left : ComesTo (run_of c.args.script.now) (ran.Stopped c.in-Stopped.field-0 c.in-Stopped.text c.in-Stopped.bad) = subst (λ (r : Ran). ComesTo (run_of c.args.script.now) r) c.in-Stopped.is c.in_ok-world.ensures in
    if_ok-map c.stopped.result _ _ (prints_stopped (run_of c.args.script.now) c.in-Stopped.field-0 c.in-Stopped.text c.in-Stopped.bad left) c.stopped.ensures
