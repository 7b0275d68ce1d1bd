use Rattle.vic_laws.proofs.ByCases.{views_end}
use Rattle.vic_laws.proofs.terms.views_end.Goals as goal

pub returns : goal.returns
returns c = views_end
