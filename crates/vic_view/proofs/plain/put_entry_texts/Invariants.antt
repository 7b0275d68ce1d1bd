use Rattle.std.proofs.Common.{◌≡◌, ◌++◌, drop, map}
use Rattle.std.specs.List.{AllByRecursion}
use Rattle.vic_wire.specs.Messages.{IsTagged}
use Rattle.vic_wire.specs.Texts.{invoke_text}
use Rattle.vic_view.proofs.plain.put_entry_texts.Given as goal

abbrev pub invariant-loop-item : goal.invariant-loop-item
invariant-loop-item l = AllByRecursion IsTagged (drop l.item-index l.entries)
    × (l.texts ++ map (λ t. invoke_text t.entry) (drop l.item-index l.entries) ≡ l.initial.texts ++ map (λ t. invoke_text t.entry) l.entries)
