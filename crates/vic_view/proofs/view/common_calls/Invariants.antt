use Rattle.std.proofs.Common.{◌≡◌, ◌+◌, drop}
use Rattle.vic_script.specs.Print.{agreement}
use Rattle.vic_view.proofs.view.common_calls.Given as goal

abbrev pub invariant-loop-i : goal.invariant-loop-i
invariant-loop-i l = (l.common ≡ l.i) × (agreement l.left l.right ≡ agreement (drop l.i l.left) (drop l.i l.right) + l.common)
