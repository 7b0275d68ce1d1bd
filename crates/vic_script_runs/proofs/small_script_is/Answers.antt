use Rattle.vic_script_runs.proofs.Rows.{small_script_is, small_objects_script_is}
use Rattle.vic_script_runs.proofs.small_script_is.Goals as goal

pub returns-clause-plain : goal.returns-clause-plain
returns-clause-plain c = small_script_is

pub returns-clause-objects : goal.returns-clause-objects
returns-clause-objects c = small_objects_script_is
