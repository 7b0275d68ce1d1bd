use Rattle.vic_laws.proofs.Asked.{nothing_is_open}
use Rattle.vic_laws.proofs.objects.nothing_is_open.Goals as goal

pub returns : goal.returns
returns c = nothing_is_open
