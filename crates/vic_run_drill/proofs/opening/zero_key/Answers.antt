use Rattle.vic_run_drill.proofs.Entering.{zeros_spell}
use Rattle.vic_run_drill.proofs.opening.zero_key.Goals as goal

pub returns-in-Ok : goal.returns-in-Ok
returns-in-Ok c = zeros_spell c.in-Ok.key c.in-Ok.ensures
