use Rattle.vic_laws.proofs.trust.apart_is.Goals as goal
use Rattle.vic_laws.proofs.Apart.{apart_tells}

pub returns : goal.returns
returns c = apart_tells
