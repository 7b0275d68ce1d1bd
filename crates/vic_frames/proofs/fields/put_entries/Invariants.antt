use Rattle.std.proofs.Common.{◌≡◌, ◌++◌, length, take}
use Rattle.std.specs.Int.{w16, to_be_bytes}
use Rattle.std.specs.List.{flat_map}
use Rattle.vic_wire.specs.Messages.{tagged_field}
use Rattle.vic_frames.proofs.fields.put_entries.Given as goal

abbrev pub invariant-loop-item : goal.invariant-loop-item
invariant-loop-item l = l.out ≡ l.fn.out ++ to_be_bytes w16 (length l.items) ++ flat_map tagged_field (take l.item-index l.items)
