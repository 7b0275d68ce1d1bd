-- Reading nodes one by one.
use Rattle.std.specs.Prelude.{ℕ, ◌+◌, ◌-◌, List, Ok, Err, ◌==◌, if◌then◌else◌}
use Rattle.vic_wire.specs.Trees.{Tree, Inner}
use Rattle.vic_wire.specs.Parts.{PartRead, BadTag, IndexNotRising, ◌then◌, field, leaf_at, index_at, stub_at, node_at}

-- a node whose indices are at least this, with as many levels as it can have
unfoldable pub node_from : ℕ → ℕ → List ℕ → PartRead Tree
node_from all low left = node_at all (2297 - low) low left

-- what is read after the byte of an inner node
unfoldable pub inner_from : ℕ → ℕ → List ℕ → PartRead Tree
inner_from all low left = field all left IndexNotRising (index_at low left) then (λ i. node_from all (i.0 + 1) i.1 then (λ l. node_from all (i.0 + 1) l.1 then (λ r. Ok (Inner i.0 l.0 r.0, r.1))))

-- what is read after the byte of a node, which stands at this place
unfoldable pub after_byte : ℕ → ℕ → ℕ → ℕ → List ℕ → PartRead Tree
after_byte all low at tag left =
    if tag == 1 then leaf_at all left
    else if tag == 2 then inner_from all low left
    else if tag == 3 then stub_at all left
    else Err (BadTag at)
