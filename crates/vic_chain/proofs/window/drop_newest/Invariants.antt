use Rattle.std.proofs.Common.{◌≡◌, drop}
use Rattle.vic_chain.proofs.window.drop_newest.Given as goal

abbrev pub invariant-loop-i : goal.invariant-loop-i
invariant-loop-i l = l.links.items ≡ drop l.i l.initial.links.items
