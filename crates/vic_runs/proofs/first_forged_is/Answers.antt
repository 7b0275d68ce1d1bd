use Rattle.vic_runs.proofs.Ending.{first_forged_is}
use Rattle.vic_runs.proofs.first_forged_is.Goals as goal

pub returns : goal.returns
returns c = first_forged_is
