use Rattle.vic_tree.proofs.Laws.{cuts_follow}
use Rattle.vic_tree.proofs.cuts_follow.Goals as goal

pub returns : goal.returns
returns c = cuts_follow
