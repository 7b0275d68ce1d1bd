use Rattle.std.proofs.Common.{◌+◌, subst}
use Rattle.vic_script.specs.Run.{script_limit, ScriptRun}
use Rattle.vic_runs.proofs.Runs.{length-taken}
use Rattle.vic_group.specs.Playing.{ComesTo}
use Rattle.vic_group.proofs.Playing.{run_known, if_ok-map}
use Rattle.vic_group.proofs.play.run_script.Goals as goal

pub run_known-requires : goal.run_known-requires
run_known-requires c = rw c.known_of.ensures (length-taken (script_limit + 1) c.args.script.now)

pub returns : goal.returns
returns c =
    if_ok-map c.run_known.result _ _ (λ r h. subst (λ (run : ScriptRun). ComesTo run r) (run_known c.args.script.now c.known_of.result.now c.known_of.ensures) h) c.run_known.ensures
