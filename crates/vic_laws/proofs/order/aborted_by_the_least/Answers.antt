-- It is a lemma of its own.
use Rattle.vic_laws.proofs.Decisions.{aborted_by_the_least}
use Rattle.vic_laws.proofs.order.aborted_by_the_least.Goals as goal

pub returns : goal.returns
returns c = aborted_by_the_least
