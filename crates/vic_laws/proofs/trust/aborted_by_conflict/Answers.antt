use Rattle.vic_laws.proofs.trust.aborted_by_conflict.Goals as goal
use Rattle.vic_laws.proofs.Blocking.{aborted_by_conflict}

pub returns : goal.returns
returns c = aborted_by_conflict
