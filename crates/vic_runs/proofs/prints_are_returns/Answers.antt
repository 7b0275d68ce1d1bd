use Rattle.vic_runs.proofs.Prints.{prints_returns}
use Rattle.vic_runs.proofs.prints_are_returns.Goals as goal

pub returns : goal.returns
returns c = prints_returns
