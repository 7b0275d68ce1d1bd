use Rattle.vic_prune.specs.Listed.{AreListed}
use Rattle.vic_prune.proofs.pruned.are_listed.Given as goal

abbrev pub invariant-loop-i : goal.invariant-loop-i
invariant-loop-i l = AreListed l.prefix l.names l.i
