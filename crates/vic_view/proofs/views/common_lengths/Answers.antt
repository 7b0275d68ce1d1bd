use Rattle.vic_view.proofs.Parting.{paths_nested, paths_symmetric}
use Rattle.vic_view.proofs.views.common_lengths.Goals as goal

pub together-requires-clause-nested : goal.together-requires-clause-nested
together-requires-clause-nested c = paths_nested

pub together-requires-clause-symmetric : goal.together-requires-clause-symmetric
together-requires-clause-symmetric c = paths_symmetric
