use Rattle.vic_laws.proofs.ObjectSteps.{objects_end_so}
use Rattle.vic_laws.proofs.objects.objects_end_so.Goals as goal

pub returns : goal.returns
returns c = objects_end_so
