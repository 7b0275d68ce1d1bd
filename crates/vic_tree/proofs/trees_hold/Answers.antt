use Rattle.vic_tree.proofs.Laws.{trees_hold}
use Rattle.vic_tree.proofs.trees_hold.Goals as goal

pub returns : goal.returns
returns c = trees_hold
