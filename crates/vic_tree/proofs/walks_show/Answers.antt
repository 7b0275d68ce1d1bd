use Rattle.vic_tree.proofs.Laws.{walks_show}
use Rattle.vic_tree.proofs.walks_show.Goals as goal

pub returns : goal.returns
returns c = walks_show
