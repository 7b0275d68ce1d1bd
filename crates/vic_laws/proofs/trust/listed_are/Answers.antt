use Rattle.vic_laws.proofs.trust.listed_are.Goals as goal
use Rattle.vic_laws.proofs.Meanings.{listed_tells}

pub returns : goal.returns
returns c = listed_tells
