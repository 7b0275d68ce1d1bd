use Rattle.vic_honest.proofs.Scenes.{honest_runs_are_lawful}
use Rattle.vic_honest.proofs.honest_runs_are_lawful.Goals as goal

pub returns : goal.returns
returns c = honest_runs_are_lawful
