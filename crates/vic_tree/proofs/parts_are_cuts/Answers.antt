use Rattle.vic_tree.proofs.Laws.{parts_are_cuts}
use Rattle.vic_tree.proofs.parts_are_cuts.Goals as goal

pub returns : goal.returns
returns c = parts_are_cuts
