use Rattle.std.proofs.Common.{◌≡◌, ◌++◌, take}
use Rattle.vic_wire.specs.Parts.{read_part}
use Rattle.vic_laws.specs.Meanings.{texts_of_each, nodes_of}
use Rattle.vic_apart.proofs.listing.put_parts_of.Given as goal

abbrev pub invariant-loop-part : goal.invariant-loop-part
invariant-loop-part l = l.texts ≡ l.initial.texts ++ texts_of_each (λ bytes. nodes_of (read_part bytes)) (take l.part-index l.parts)
