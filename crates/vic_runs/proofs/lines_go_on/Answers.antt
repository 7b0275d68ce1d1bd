use Rattle.vic_runs.proofs.Going.{lines_go_on}
use Rattle.vic_runs.proofs.lines_go_on.Goals as goal

pub returns : goal.returns
returns c = lines_go_on
