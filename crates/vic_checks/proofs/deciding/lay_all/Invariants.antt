use Rattle.std.proofs.Common.{◌≡◌, drop}
use Rattle.vic_rules.specs.Client.{own_calls_over}
use Rattle.vic_checks.proofs.deciding.lay_all.Given as goal

abbrev pub invariant-loop-i : goal.invariant-loop-i
invariant-loop-i l = own_calls_over (drop l.i l.own) l.base l.dict ≡ own_calls_over l.own l.base l.fn.dict
