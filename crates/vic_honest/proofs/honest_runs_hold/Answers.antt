use Rattle.vic_honest.proofs.Scenes.{honest_runs_hold}
use Rattle.vic_honest.proofs.honest_runs_hold.Goals as goal

pub returns : goal.returns
returns c = honest_runs_hold
