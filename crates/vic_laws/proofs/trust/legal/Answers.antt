use Rattle.vic_laws.proofs.trust.legal.Goals as goal
use Rattle.vic_laws.proofs.Legality.{views_legal}

pub returns : goal.returns
returns c = views_legal
