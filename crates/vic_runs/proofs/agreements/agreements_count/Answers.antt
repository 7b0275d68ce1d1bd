use Rattle.vic_runs.proofs.Agreed.{agreements_reach}
use Rattle.vic_runs.proofs.agreements.agreements_count.Goals as goal

pub returns : goal.returns
returns c = agreements_reach
