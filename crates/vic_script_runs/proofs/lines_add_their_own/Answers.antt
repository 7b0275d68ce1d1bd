use Rattle.vic_script_runs.proofs.Adding.{none_add, lines_add}
use Rattle.vic_script_runs.proofs.lines_add_their_own.Goals as goal

pub returns-clause-none : goal.returns-clause-none
returns-clause-none c = none_add

pub returns-clause-adds : goal.returns-clause-adds
returns-clause-adds c = lines_add
