use Rattle.vic_conn.proofs.laws.any_pieces.Goals as goal
use Rattle.vic_conn.proofs.Pieces.{any_pieces}

pub returns : goal.returns
returns c = any_pieces
