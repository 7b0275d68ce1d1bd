use Rattle.vic_laws.proofs.Asked.{calls_are_asked}
use Rattle.vic_laws.proofs.order.calls_are_asked.Goals as goal

pub returns : goal.returns
returns c = calls_are_asked
