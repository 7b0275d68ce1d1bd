use Rattle.std.proofs.Common.{◌≡◌, drop, map}
use Rattle.std.specs.List.{AllByRecursion}
use Rattle.vic_wire.specs.Messages.{IsTagged}
use Rattle.vic_wire.specs.Texts.{invoke_text}
use Rattle.vic_view.specs.Making.{has_forged}
use Rattle.vic_view.proofs.forgery.are_entries_forged.Given as goal

abbrev pub invariant-loop-item : goal.invariant-loop-item
invariant-loop-item l = AllByRecursion IsTagged (drop l.item-index l.entries)
    × (has_forged l.made (map (λ t. invoke_text t.entry) l.entries) ≡ has_forged l.made (map (λ t. invoke_text t.entry) (drop l.item-index l.entries)))
