-- Both are lemmas of their own.
use Rattle.vic_laws.proofs.SameOp.{same_op_tells, same_entry_tells}
use Rattle.vic_laws.proofs.order.same_op_is.Goals as goal

pub returns-clause-ops : goal.returns-clause-ops
returns-clause-ops c = same_op_tells

pub returns-clause-entries : goal.returns-clause-entries
returns-clause-entries c = same_entry_tells
