-- Both are lemmas of their own.
use Rattle.vic_laws.proofs.Agreement.{confirmed_is, confirmed_by_owner}
use Rattle.vic_laws.proofs.order.confirmed_is.Goals as goal

pub returns-clause-found : goal.returns-clause-found
returns-clause-found c = confirmed_is

pub returns-clause-owner : goal.returns-clause-owner
returns-clause-owner c = confirmed_by_owner
