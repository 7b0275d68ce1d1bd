use Rattle.vic_conn.proofs.laws.fronts_are.Goals as goal
use Rattle.vic_conn.proofs.Spelled.{fronts_are}

pub returns : goal.returns
returns c = fronts_are
