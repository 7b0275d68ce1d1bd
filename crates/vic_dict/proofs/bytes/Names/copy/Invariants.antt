use Rattle.std.proofs.Common.{◌≡◌, take}
use Rattle.vic_dict.proofs.bytes.Names.copy.Given as goal

abbrev pub invariant-loop-text : goal.invariant-loop-text
invariant-loop-text l = l.made ≡ take l.text-index l.text-items
