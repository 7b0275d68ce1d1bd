use Rattle.std.proofs.Common.{◌≡◌, ◌++◌, ◌+◌, drop}
use Rattle.vic_view.specs.Printed.{agree_texts}
use Rattle.vic_view.proofs.print.put_agreements.Given as goal

abbrev pub invariant-loop-k : goal.invariant-loop-k
invariant-loop-k l = l.out ++ agree_texts (l.k + 1) (drop l.k l.views) ≡ l.initial.out ++ agree_texts 1 l.views
