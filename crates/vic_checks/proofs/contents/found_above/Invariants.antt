use Rattle.std.proofs.Common.{◌≡◌, drop}
use Rattle.std.specs.Prelude.{option_copied}
use Rattle.std.specs.FinMap as map
use Rattle.vic_dict.specs.Dictionary.{Dictionary}
use Rattle.vic_dict.specs.declared.op.Op.TheVariants as op
use Rattle.vic_wire.specs.Parts.{walked}
use Rattle.vic_prune.specs.Parts.{part}
use Rattle.vic_rules.specs.Client.{own_calls_over}
use Rattle.vic_checks.proofs.contents.found_above.Given as goal

abbrev pub invariant-loop-i : goal.invariant-loop-i
invariant-loop-i l = (d : Dictionary) × ((own_calls_over (drop l.i l.own) l.base d ≡ own_calls_over l.own l.base (walked (part l.part) (op.Get l.key))) × (option_copied l.value ≡ map.get d l.key))
