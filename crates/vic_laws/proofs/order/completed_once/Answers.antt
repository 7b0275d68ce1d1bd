-- It is a lemma of its own.
use Rattle.vic_laws.proofs.Agreement.{completed_once}
use Rattle.vic_laws.proofs.order.completed_once.Goals as goal

pub returns : goal.returns
returns c = completed_once
