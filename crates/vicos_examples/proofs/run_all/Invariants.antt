use Rattle.std.proofs.Common.{length}
use Rattle.vicos_examples.proofs.run_all.Given as goal

abbrev pub decreases-loop-rest : goal.decreases-loop-rest
decreases-loop-rest l = length l.rest
