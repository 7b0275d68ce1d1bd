use Rattle.vic_spellings.proofs.Laws.{answers_are_spelled}
use Rattle.vic_spellings.proofs.answers.Goals as goal

pub returns : goal.returns
returns c = answers_are_spelled
