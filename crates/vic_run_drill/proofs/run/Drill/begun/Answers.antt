use Rattle.std.proofs.Common.{refl, ap}
use Rattle.vic_server.specs.Replay.{KeptServer}
use Rattle.vic_run_drill.proofs.Phases.{begins}
use Rattle.vic_run_drill.proofs.run.Drill.begun.Goals as goal

pub returns : goal.returns
returns c =
    begins _ c.args.number c.args.clients c.requires.some c.requires.few c.in_ok-entered_all.ensures (ap (λ (k : KeptServer). k.server) c.in_ok-gathered.ensures) c.in_ok-new.ensures refl refl
