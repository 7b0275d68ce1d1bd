use Rattle.vic_runs.proofs.Runs.{none_forged}
use Rattle.vic_runs.proofs.nothing_is_forged.Goals as goal

pub returns : goal.returns
returns c = none_forged
