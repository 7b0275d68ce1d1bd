use Rattle.vic_laws.proofs.ByCases.{real_time_is}
use Rattle.vic_laws.proofs.terms.real_time_is.Goals as goal

pub returns : goal.returns
returns c = real_time_is
