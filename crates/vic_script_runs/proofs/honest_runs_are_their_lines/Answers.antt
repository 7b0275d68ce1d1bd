use Rattle.vic_script_runs.proofs.Honest.{honest_runs}
use Rattle.vic_script_runs.proofs.honest_runs_are_their_lines.Goals as goal

pub returns : goal.returns
returns c = honest_runs
