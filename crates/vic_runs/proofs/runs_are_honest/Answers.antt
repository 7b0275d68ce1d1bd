use Rattle.vic_runs.proofs.Runs.{all_honest}
use Rattle.vic_runs.proofs.runs_are_honest.Goals as goal

pub returns : goal.returns
returns c = all_honest
