use Rattle.vic_honest.proofs.Runs.{logs_are_legal}
use Rattle.vic_honest.proofs.logs_are_legal.Goals as goal

pub returns : goal.returns
returns c = logs_are_legal
