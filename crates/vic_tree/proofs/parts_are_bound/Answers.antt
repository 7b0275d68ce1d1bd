use Rattle.vic_tree.proofs.Laws.{parts_are_bound}
use Rattle.vic_tree.proofs.parts_are_bound.Goals as goal

pub returns : goal.returns
returns c = parts_are_bound
