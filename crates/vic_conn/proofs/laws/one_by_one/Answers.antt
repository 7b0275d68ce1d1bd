use Rattle.vic_conn.proofs.laws.one_by_one.Goals as goal
use Rattle.vic_conn.proofs.Pieces.{one_by_one}

pub returns : goal.returns
returns c = one_by_one
