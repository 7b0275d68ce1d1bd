use Rattle.vic_script.proofs.Forged.{is_forged-Decides}
use Rattle.vic_runs.proofs.forged_is.Goals as goal

pub returns : goal.returns
returns c = is_forged-Decides
