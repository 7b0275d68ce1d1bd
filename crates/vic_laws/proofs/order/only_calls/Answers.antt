-- It is a lemma of its own.
use Rattle.vic_laws.proofs.Agreement.{views_show_only_calls}
use Rattle.vic_laws.proofs.order.only_calls.Goals as goal

pub returns : goal.returns
returns c = views_show_only_calls
