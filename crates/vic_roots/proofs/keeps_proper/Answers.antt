use Rattle.vic_roots.proofs.keeps_proper.Goals as goal
use Rattle.vic_roots.proofs.Proper.{proper_is_kept}

pub returns : goal.returns
returns c = proper_is_kept
