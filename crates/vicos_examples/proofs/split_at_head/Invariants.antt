use Rattle.std.proofs.Common.{◌≤◌, length}
use Rattle.vicos_examples.proofs.split_at_head.Given as goal

-- what is left is no longer than the text
abbrev pub invariant-loop-rest : goal.invariant-loop-rest
invariant-loop-rest l = length l.rest ≤ length l.text

abbrev pub decreases-loop-rest : goal.decreases-loop-rest
decreases-loop-rest l = length l.rest
