use Rattle.vic_tree.proofs.Least.{cut_for-least}
use Rattle.vic_tree.proofs.parts_are_least.Goals as goal

pub returns : goal.returns
returns c = cut_for-least
