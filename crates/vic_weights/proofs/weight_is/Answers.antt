use Rattle.vic_weights.proofs.Weighing.{weight_is}
use Rattle.vic_weights.proofs.weight_is.Goals as goal

pub returns : goal.returns
returns c = weight_is
