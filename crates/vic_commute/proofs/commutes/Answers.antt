use Rattle.vic_commute.proofs.Commuting.{in_either_order}
use Rattle.vic_commute.proofs.commutes.Goals as goal

pub returns : goal.returns
returns c = in_either_order
