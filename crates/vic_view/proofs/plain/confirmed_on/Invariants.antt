use Rattle.std.proofs.Common.{◌≡◌, take, reverse}
use Rattle.vic_rules.specs.Views.{confirmed_calls}
use Rattle.vic_view.specs.Plain.{prefix_of, completions_of}
use Rattle.vic_view.proofs.plain.confirmed_on.Given as goal

abbrev pub invariant-loop-i : goal.invariant-loop-i
invariant-loop-i l = reverse l.view ≡ confirmed_calls (completions_of l.all) (prefix_of (take l.i l.path))
