use Rattle.vic_runs.proofs.Outcomes.{all_fates}
use Rattle.vic_runs.proofs.outcomes_are_fates.Goals as goal

pub returns : goal.returns
returns c = all_fates
