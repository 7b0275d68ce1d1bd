use Rattle.std.proofs.Common.{◌≡◌, ◌≤◌, ◌++◌, length}
use Rattle.vic_apart.proofs.ContentsTold.{texts_from}
use Rattle.vic_apart.proofs.contents.put_contents.Given as goal

abbrev pub invariant-loop-left : goal.invariant-loop-left
invariant-loop-left l = record {
  within : l.left ≤ length l.steps;
  texts : l.texts ≡ l.initial.texts ++ texts_from l.left l.steps;
}

abbrev pub decreases-loop-left : goal.decreases-loop-left
decreases-loop-left l = l.left
