use Rattle.vic_session.proofs.laws.sessions_are_complete.Goals as goal
use Rattle.vic_session.proofs.Complete.{complete}

pub returns : goal.returns
returns c = complete
