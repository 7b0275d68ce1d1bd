use Rattle.vic_runs.proofs.honest_line_is.Goals as goal
use Rattle.vic_runs.proofs.Tampering.{honest_line_tells}

pub returns : goal.returns
returns c = honest_line_tells
