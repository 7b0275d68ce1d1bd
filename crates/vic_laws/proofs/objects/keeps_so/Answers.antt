use Rattle.vic_laws.proofs.ObjectSteps.{keeps_so}
use Rattle.vic_laws.proofs.objects.keeps_so.Goals as goal

pub returns : goal.returns
returns c = keeps_so
