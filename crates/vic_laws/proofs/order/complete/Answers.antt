-- It is a lemma of its own.
use Rattle.vic_laws.proofs.Complete.{views_complete}
use Rattle.vic_laws.proofs.order.complete.Goals as goal

pub returns : goal.returns
returns c = views_complete
