-- The tree that a part is.
use Rattle.std.specs.Prelude.{ℕ, List, Option, Some, None, if◌then◌else◌}
use Rattle.std.specs.Str.{bytes_eq}
use Rattle.vic_wire.specs.Trees.{Tree, Empty as empty, Leaf as leaf, Inner as inner, Stub as stub}
use Rattle.vic_tree.specs.Grown.{LeavesFit}
use Rattle.vic_prune.specs.declared.pruned.Pruned.{Pruned}
use Rattle.vic_prune.specs.declared.pruned.Pruned.TheVariants.{Empty, Leaf, Inner', Stub}

abbrev pub part : Pruned → Tree
part Empty = empty
part (Leaf k v) = leaf k v
part (Inner' i p l q r) = inner i (part l) (part r)
part (Stub digest) = stub digest.bytes

-- keys and values are within the limits
abbrev pub KeysFit : Pruned → Type 0
KeysFit p = LeavesFit (part p)

-- what a node at the end of a key's walk has under the key
abbrev pub found_at : List ℕ → Tree → Option (List ℕ)
found_at k empty = None
found_at k (leaf q w) = if bytes_eq k q then Some w else None
found_at k (inner i l r) = None
found_at k (stub root) = None
