-- It is a lemma of its own.
use Rattle.vic_laws.proofs.Complete.{completions_are}
use Rattle.vic_laws.proofs.order.completions_are.Goals as goal

pub returns : goal.returns
returns c = completions_are
