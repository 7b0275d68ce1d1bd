use Rattle.vic_runs.proofs.Agreed.{agreement_tells}
use Rattle.vic_runs.proofs.agreements.agreement_is.Goals as goal

pub returns : goal.returns
returns c = agreement_tells
