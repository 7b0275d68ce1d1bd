use Rattle.std.proofs.Common.{◌≡◌, drop}
use Rattle.std.specs.List.{list_all}
use Rattle.vic_rules.specs.Client.{is_tagged}
use Rattle.vic_checks.proofs.members.are_tagged.Given as goal

abbrev pub invariant-loop-item : goal.invariant-loop-item
invariant-loop-item l = list_all (is_tagged l.key) (drop l.item-index l.items) ≡ list_all (is_tagged l.key) l.items
