use Rattle.vic_runs.proofs.Runs.{all_lawful}
use Rattle.vic_runs.proofs.runs_are_lawful.Goals as goal

pub returns : goal.returns
returns c = all_lawful
