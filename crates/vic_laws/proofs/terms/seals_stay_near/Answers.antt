use Rattle.vic_laws.proofs.Limits.{own_stand_above, paths_stay_near}
use Rattle.vic_laws.proofs.terms.seals_stay_near.Goals as goal

pub returns-clause-own : goal.returns-clause-own
returns-clause-own c = own_stand_above

pub returns-clause-path : goal.returns-clause-path
returns-clause-path c = paths_stay_near
