use Rattle.std.proofs.Common.{◌≡◌, take}
use Rattle.vic_rules.specs.Views.{last_prefix}
use Rattle.vic_view.specs.Plain.{prefix_of, completions_of}
use Rattle.vic_view.proofs.plain.last_path.Given as goal

abbrev pub invariant-loop-call : goal.invariant-loop-call
invariant-loop-call l = prefix_of l.last ≡ last_prefix l.client (completions_of (take l.call-index l.all))
