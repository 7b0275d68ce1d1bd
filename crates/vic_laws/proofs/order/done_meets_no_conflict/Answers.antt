-- It is a lemma of its own.
use Rattle.vic_laws.proofs.Decisions.{done_meets_no_conflict}
use Rattle.vic_laws.proofs.order.done_meets_no_conflict.Goals as goal

pub returns : goal.returns
returns c = done_meets_no_conflict
