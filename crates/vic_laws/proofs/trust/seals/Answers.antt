use Rattle.vic_laws.proofs.trust.seals.Goals as goal
use Rattle.vic_laws.proofs.SealsHeld.{seals_hold}

pub returns : goal.returns
returns c = seals_hold
