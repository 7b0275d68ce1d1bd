use Rattle.vic_tree.proofs.Laws.{cuts_answer}
use Rattle.vic_tree.proofs.cuts_answer.Goals as goal

pub returns : goal.returns
returns c = cuts_answer
