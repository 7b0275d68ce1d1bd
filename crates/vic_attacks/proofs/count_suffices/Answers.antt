use Rattle.vic_attacks.proofs.Counting.{counts}
use Rattle.vic_attacks.proofs.count_suffices.Goals as goal

pub returns : goal.returns
returns c h few = counts h few
