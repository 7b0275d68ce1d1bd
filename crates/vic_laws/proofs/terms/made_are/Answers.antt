use Rattle.vic_laws.proofs.ByCases.{texts_made_are}
use Rattle.vic_laws.proofs.terms.made_are.Goals as goal

pub returns : goal.returns
returns c = texts_made_are
