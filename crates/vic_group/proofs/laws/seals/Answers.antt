use Rattle.vic_laws.proofs.SealsHeld.{seals_hold}
use Rattle.vic_group.proofs.laws.seals.Goals as goal

pub returns : goal.returns
returns c = seals_hold
