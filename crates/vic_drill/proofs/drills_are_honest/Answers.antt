use Rattle.vic_drill.proofs.Drilled.{drills_are_honest}
use Rattle.vic_drill.proofs.drills_are_honest.Goals as goal

pub returns : goal.returns
returns c = drills_are_honest
