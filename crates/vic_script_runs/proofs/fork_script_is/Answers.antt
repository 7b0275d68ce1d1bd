use Rattle.vic_script_runs.proofs.Rows.{fork_script_is, fork_script_forks}
use Rattle.vic_script_runs.proofs.fork_script_is.Goals as goal

pub returns-clause-events : goal.returns-clause-events
returns-clause-events c = fork_script_is

pub returns-clause-server : goal.returns-clause-server
returns-clause-server c = fork_script_forks
