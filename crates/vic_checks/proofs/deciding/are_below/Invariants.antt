use Rattle.std.proofs.Common.{◌≡◌, drop}
use Rattle.vic_dict.specs.Dictionary.{Dictionary}
use Rattle.vic_rules.specs.Client.{own_calls_over}
use Rattle.vic_checks.proofs.deciding.are_below.Given as goal

abbrev pub invariant-loop-i : goal.invariant-loop-i
invariant-loop-i l = (d : Dictionary) → own_calls_over (drop l.i l.own) l.base d ≡ own_calls_over l.own l.base d
