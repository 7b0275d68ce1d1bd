use Rattle.vic_spellings.proofs.Laws.{requests_are_spelled}
use Rattle.vic_spellings.proofs.requests.Goals as goal

pub returns : goal.returns
returns c = requests_are_spelled
