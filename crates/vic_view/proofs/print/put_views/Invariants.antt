use Rattle.std.proofs.Common.{◌≡◌, ◌++◌, ◌+◌, drop}
use Rattle.vic_view.specs.Printed.{view_texts}
use Rattle.vic_view.proofs.print.put_views.Given as goal

abbrev pub invariant-loop-k : goal.invariant-loop-k
invariant-loop-k l = l.out ++ view_texts (l.k + 1) (drop l.k l.views) ≡ l.initial.out ++ view_texts 1 l.views
