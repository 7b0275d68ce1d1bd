use Rattle.vic_session.proofs.laws.talks_are_lawful.Goals as goal
use Rattle.vic_session.proofs.Lawful.{talks_are_lawful}

pub returns : goal.returns
returns c = talks_are_lawful
