use Rattle.vic_view.proofs.Parting.{views_nested, views_symmetric}
use Rattle.vic_view.proofs.view.agreements.Goals as goal

pub together-requires-clause-nested : goal.together-requires-clause-nested
together-requires-clause-nested c = views_nested

pub together-requires-clause-symmetric : goal.together-requires-clause-symmetric
together-requires-clause-symmetric c = views_symmetric
