use Rattle.vic_laws.proofs.trust.legal_is.Goals as goal
use Rattle.vic_laws.proofs.Meanings.{legal_tells}

pub returns : goal.returns
returns c = legal_tells
