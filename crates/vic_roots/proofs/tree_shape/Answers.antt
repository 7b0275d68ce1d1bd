use Rattle.vic_roots.proofs.tree_shape.Goals as goal
use Rattle.vic_roots.proofs.Shape.{tree_shape_told}

pub returns : goal.returns
returns c = tree_shape_told
