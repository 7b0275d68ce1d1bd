use Rattle.std.proofs.Common.{refl, subst}
use Rattle.vic_script.specs.Run.{run_of}
use Rattle.vic_group.specs.declared.play.Ran.{Ran}
use Rattle.vic_group.specs.declared.play.Ran.TheVariants as ran
use Rattle.vic_group.specs.Playing.{ComesTo}
use Rattle.vic_group.proofs.Playing.{tells_group, tells_history}
use Rattle.vic_group.proofs.apart.transcript_of.Goals as goal

pub returns-in-Whole-clause-group : goal.returns-in-Whole-clause-group
returns-in-Whole-clause-group c =
    let left = subst (λ (r : Ran). ComesTo (run_of c.args.script.now) r) c.in-Whole.is c.in_ok-world.ensures in
    tells_group (run_of c.args.script.now) (ran.Whole c.in-Whole.world c.in-Whole.field-1) c.into_transcript.result left c.into_transcript.ensures

pub returns-in-Whole-clause-history : goal.returns-in-Whole-clause-history
returns-in-Whole-clause-history c =
    let left = subst (λ (r : Ran). ComesTo (run_of c.args.script.now) r) c.in-Whole.is c.in_ok-world.ensures in
    tells_history (run_of c.args.script.now) (ran.Whole c.in-Whole.world c.in-Whole.field-1) c.into_transcript.result left c.into_transcript.ensures

pub returns-clause-group : goal.returns-clause-group
returns-clause-group c =
    let left = subst (λ (r : Ran). ComesTo (run_of c.args.script.now) r) c.in-Stopped.is c.in_ok-world.ensures in
    tells_group (run_of c.args.script.now) (ran.Stopped c.in-Stopped.transcript c.in-Stopped.field-1 c.in-Stopped.field-2) c.in-Stopped.transcript left refl

pub returns-clause-history : goal.returns-clause-history
returns-clause-history c =
    let left = subst (λ (r : Ran). ComesTo (run_of c.args.script.now) r) c.in-Stopped.is c.in_ok-world.ensures in
    tells_history (run_of c.args.script.now) (ran.Stopped c.in-Stopped.transcript c.in-Stopped.field-1 c.in-Stopped.field-2) c.in-Stopped.transcript left refl
