use Rattle.vic_conn.proofs.laws.stays_decided.Goals as goal
use Rattle.vic_conn.proofs.Growing.{stays}

pub returns : goal.returns
returns c = stays
