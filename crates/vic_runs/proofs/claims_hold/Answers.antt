use Rattle.vic_runs.proofs.Runs.{all_hold}
use Rattle.vic_runs.proofs.claims_hold.Goals as goal

pub returns : goal.returns
returns c = all_hold
