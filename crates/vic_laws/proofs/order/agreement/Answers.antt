-- It is a lemma of its own.
use Rattle.vic_laws.proofs.Agreement.{views_agree}
use Rattle.vic_laws.proofs.order.agreement.Goals as goal

pub returns : goal.returns
returns c = views_agree
