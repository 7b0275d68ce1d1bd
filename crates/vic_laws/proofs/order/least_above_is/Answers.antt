-- Both are lemmas of their own.
use Rattle.vic_laws.proofs.SameOp.{least_above_tells, none_above_tells}
use Rattle.vic_laws.proofs.order.least_above_is.Goals as goal

pub returns-clause-found : goal.returns-clause-found
returns-clause-found c = least_above_tells

pub returns-clause-none : goal.returns-clause-none
returns-clause-none c = none_above_tells
