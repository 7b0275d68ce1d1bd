use Rattle.std.proofs.Common.{◌≡◌, drop}
use Rattle.vic_rules.specs.Views.{confirmation}
use Rattle.vic_view.specs.Plain.{prefix_of, completions_of}
use Rattle.vic_view.proofs.plain.outcome_on.Given as goal

abbrev pub invariant-loop-call : goal.invariant-loop-call
invariant-loop-call l = confirmation (completions_of l.all) (prefix_of l.path) ≡ confirmation (completions_of (drop l.call-index l.all)) (prefix_of l.path)
