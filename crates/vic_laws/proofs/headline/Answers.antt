use Rattle.vic_laws.proofs.headline.Goals as goal
use Rattle.vic_laws.proofs.EveryHistory.{every_history_holds}

pub returns : goal.returns
returns c = every_history_holds
