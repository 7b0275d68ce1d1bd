use Rattle.std.proofs.Common.{◌≡◌, ◌++◌, ◌+◌, drop}
use Rattle.vic_view.specs.Printed.{agree_with}
use Rattle.vic_view.proofs.print.put_agreements_with.Given as goal

abbrev pub invariant-loop-k : goal.invariant-loop-k
invariant-loop-k l = l.out ++ agree_with l.client (l.client + 1 + l.k) (drop l.k (drop l.client l.calls)) ≡ l.initial.out ++ agree_with l.client (l.client + 1) (drop l.client l.calls)
