use Rattle.vic_conn.proofs.laws.reads_back.Goals as goal
use Rattle.vic_conn.proofs.Growing.{read_back}

pub returns : goal.returns
returns c = read_back
