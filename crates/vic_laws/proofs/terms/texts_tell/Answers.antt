use Rattle.vic_laws.proofs.Fields.{genesis_tells, invoke_tells, commit_tells, seal_tells, kinds_apart}
use Rattle.vic_laws.proofs.terms.texts_tell.Goals as goal

pub returns-clause-genesis : goal.returns-clause-genesis
returns-clause-genesis c = genesis_tells

pub returns-clause-calls : goal.returns-clause-calls
returns-clause-calls c = invoke_tells

pub returns-clause-commits : goal.returns-clause-commits
returns-clause-commits c = commit_tells

pub returns-clause-seals : goal.returns-clause-seals
returns-clause-seals c = seal_tells

pub returns-clause-kinds : goal.returns-clause-kinds
returns-clause-kinds c = kinds_apart
