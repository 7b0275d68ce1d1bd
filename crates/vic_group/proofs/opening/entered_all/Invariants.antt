use Rattle.vic_group.proofs.Entering.{HaveEntered}
use Rattle.vic_group.proofs.opening.entered_all.Given as goal

abbrev pub invariant-loop-i : goal.invariant-loop-i
invariant-loop-i l = HaveEntered (record { mode = l.mode; count = l.count; key = l.key }) l.i l.made.items
