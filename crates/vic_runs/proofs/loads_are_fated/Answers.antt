use Rattle.vic_runs.proofs.Outcomes.{all_loads}
use Rattle.vic_runs.proofs.loads_are_fated.Goals as goal

pub returns : goal.returns
returns c = all_loads
