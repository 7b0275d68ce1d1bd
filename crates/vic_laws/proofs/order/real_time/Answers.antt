-- It is a lemma of its own.
use Rattle.vic_laws.proofs.RealTime.{views_in_order}
use Rattle.vic_laws.proofs.order.real_time.Goals as goal

pub returns : goal.returns
returns c = views_in_order
