use Rattle.vic_runs.proofs.Halted.{none_for_halting}
use Rattle.vic_runs.proofs.no_line_is_halted.Goals as goal

pub returns : goal.returns
returns c = none_for_halting
