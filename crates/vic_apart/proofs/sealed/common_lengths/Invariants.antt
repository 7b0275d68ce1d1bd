use Rattle.std.proofs.Common.{◌≡◌, take}
use Rattle.vic_apart.specs.Sealed.{lengths_with}
use Rattle.vic_apart.proofs.sealed.common_lengths.Given as goal

abbrev pub invariant-loop-stand : goal.invariant-loop-stand
invariant-loop-stand l = l.lengths.items ≡ lengths_with l.mine (take l.stand-index l.all)
