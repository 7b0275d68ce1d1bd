use Rattle.vic_laws.proofs.ObjectSteps.{fetches_so}
use Rattle.vic_laws.proofs.objects.fetches_so.Goals as goal

pub returns : goal.returns
returns c = fetches_so
