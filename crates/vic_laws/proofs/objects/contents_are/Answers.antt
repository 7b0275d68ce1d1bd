use Rattle.vic_laws.proofs.ObjectSteps.{contents_are}
use Rattle.vic_laws.proofs.objects.contents_are.Goals as goal

pub returns : goal.returns
returns c = contents_are
