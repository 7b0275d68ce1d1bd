use Rattle.vic_runs.proofs.Agreed.{same_shown_tells}
use Rattle.vic_runs.proofs.agreements.same_shown_is.Goals as goal

pub returns : goal.returns
returns c = same_shown_tells
