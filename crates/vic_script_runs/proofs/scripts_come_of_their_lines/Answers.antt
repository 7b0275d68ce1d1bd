use Rattle.vic_script_runs.proofs.Leading.{scripts_come}
use Rattle.vic_script_runs.proofs.scripts_come_of_their_lines.Goals as goal

pub returns : goal.returns
returns c = scripts_come
