use Rattle.vic_roots.proofs.one_root.Goals as goal
use Rattle.vic_roots.proofs.Roots.{roots_tell}

pub returns : goal.returns
returns c = roots_tell
