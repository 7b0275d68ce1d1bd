use Rattle.vic_laws.proofs.Asked.{asked_are_called}
use Rattle.vic_laws.proofs.order.asked_are_called.Goals as goal

pub returns : goal.returns
returns c = asked_are_called
