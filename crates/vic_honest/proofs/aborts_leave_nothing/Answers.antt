use Rattle.vic_honest.proofs.Runs.{aborts_leave_nothing}
use Rattle.vic_honest.proofs.aborts_leave_nothing.Goals as goal

pub returns : goal.returns
returns c = aborts_leave_nothing
