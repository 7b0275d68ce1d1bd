use Rattle.vic_laws.proofs.Agreement.{views_agree, completed_once}
use Rattle.vic_laws.proofs.RealTime.{views_in_order}
use Rattle.vic_group.proofs.laws.order.Goals as goal

pub returns-clause-real_time : goal.returns-clause-real_time
returns-clause-real_time c = views_in_order

pub returns-clause-agree : goal.returns-clause-agree
returns-clause-agree c = views_agree

pub returns-clause-once : goal.returns-clause-once
returns-clause-once c = completed_once
