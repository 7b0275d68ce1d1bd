use Rattle.vic_session.proofs.laws.sessions_are_lawful.Goals as goal
use Rattle.vic_session.proofs.Lawful.{sessions_are_lawful}

pub returns : goal.returns
returns c = sessions_are_lawful
