use Rattle.vic_made.proofs.Made.{forgeries}
use Rattle.vic_made.proofs.forgeries.Goals as goal

pub returns : goal.returns
returns c = forgeries
