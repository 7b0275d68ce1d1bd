use Rattle.std.proofs.Common.{◌≡◌}
use Rattle.vic_turn.specs.Passes.{IsPassOf}
use Rattle.vic_turn.proofs.tests.steps.Given as goal

abbrev pub invariant-loop : goal.invariant-loop
invariant-loop g l = IsPassOf l.lock l.pass × (l.pass.number ≡ l.initial.pass.number)
