use Rattle.vic_runs.proofs.Outcomes.{none_halts}
use Rattle.vic_runs.proofs.nobody_halts.Goals as goal

pub returns : goal.returns
returns c = none_halts
