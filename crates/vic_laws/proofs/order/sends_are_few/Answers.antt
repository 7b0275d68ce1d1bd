use Rattle.vic_laws.proofs.Balances.{sends_are_few}
use Rattle.vic_laws.proofs.order.sends_are_few.Goals as goal

pub returns : goal.returns
returns c = sends_are_few
