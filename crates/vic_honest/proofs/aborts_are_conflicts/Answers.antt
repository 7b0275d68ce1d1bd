use Rattle.vic_honest.proofs.InTheWay.{aborts_are_conflicts}
use Rattle.vic_honest.proofs.aborts_are_conflicts.Goals as goal

pub returns : goal.returns
returns c = aborts_are_conflicts
