use Rattle.std.proofs.Common.{◌≡◌, nat_lt, drop}
use Rattle.std.specs.List.{list_all}
use Rattle.vic_rules.specs.declared.state.Own.{Own}
use Rattle.vic_checks.proofs.state.OwnList.are_above.Given as goal

abbrev pub invariant-loop-i : goal.invariant-loop-i
invariant-loop-i l = list_all (λ (o : Own). nat_lt l.position o.position) (drop l.i l.self) ≡ list_all (λ (o : Own). nat_lt l.position o.position) l.self
