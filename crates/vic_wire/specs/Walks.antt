-- The walk of an operation over a tree, what it shows, and the tree after the operation.
use Rattle.std.specs.Prelude.{ℕ, ◌*◌, Bool, true, false, not, ◌&&◌, List, [], ◌∷◌, ◌++◌, length, nat_eq, nat_lt, if◌then◌else◌}
use Rattle.std.specs.List.{starts_with}
use Rattle.std.specs.Str.{bytes_eq}
use Rattle.std.specs.FinMap as map
use Rattle.vic_dict.specs.declared.op.Op.{Op}
use Rattle.vic_dict.specs.declared.op.Op.TheVariants as op
use Rattle.vic_dict.specs.Dictionary.{Dictionary, nothing}
use Rattle.vic_wire.specs.Bits.{key_bit, shared_bits}
use Rattle.vic_wire.specs.Trees.{Tree, Empty, Leaf, Inner, Stub, Pair, pairs_of}

-- ---- the walk of a put, get or del

-- the node at the walk's end, which is no Inner: at each Inner it goes into the side of the key's bit
abbrev pub end_at : List ℕ → Tree → Tree
end_at k Empty = Empty
end_at k (Leaf q w) = Leaf q w
end_at k (Inner i l r) = if key_bit k i then end_at k r else end_at k l
end_at k (Stub root) = Stub root

abbrev pub is_stub : Tree → Bool
is_stub Empty = false
is_stub (Leaf k v) = false
is_stub (Inner i l r) = false
is_stub (Stub root) = true

-- ---- the walk of a list

-- the first node on the way of the prefix's bits that isn't an Inner of an index among them
abbrev pub below : List ℕ → Tree → Tree
below p Empty = Empty
below p (Leaf k v) = Leaf k v
below p (Inner i l r) = if nat_lt i (9 * length p) then (if key_bit p i then below p r else below p l) else Inner i l r
below p (Stub root) = Stub root

-- the node to which it goes left down
abbrev pub least : Tree → Tree
least Empty = Empty
least (Leaf k v) = Leaf k v
least (Inner i l r) = least l
least (Stub root) = Stub root

abbrev pub leaf_has_prefix : List ℕ → Tree → Bool
leaf_has_prefix p Empty = false
leaf_has_prefix p (Leaf k v) = starts_with nat_eq k p
leaf_has_prefix p (Inner i l r) = false
leaf_has_prefix p (Stub root) = false

-- there is no stub in it
abbrev pub is_whole : Tree → Bool
is_whole Empty = true
is_whole (Leaf k v) = true
is_whole (Inner i l r) = is_whole l && is_whole r
is_whole (Stub root) = false

-- ---- every operation

-- the walk meets no stub. That of a list visits the whole subtree where its least leaf has the prefix, and else that leaf alone
abbrev pub reaches : Tree → Op → Bool
reaches t (op.Put k v) = not (is_stub (end_at k t))
reaches t (op.Get k) = not (is_stub (end_at k t))
reaches t (op.Del k) = not (is_stub (end_at k t))
reaches t (op.List p) =
    let b = below p t in
    if leaf_has_prefix p (least b) then is_whole b else not (is_stub (least b))

-- the pairs at the leaves that the walk visits, from the left
abbrev pub pairs_of_walk : Tree → Op → List Pair
pairs_of_walk t (op.Put k v) = pairs_of (end_at k t)
pairs_of_walk t (op.Get k) = pairs_of (end_at k t)
pairs_of_walk t (op.Del k) = pairs_of (end_at k t)
pairs_of_walk t (op.List p) =
    let b = below p t in
    if leaf_has_prefix p (least b) then pairs_of b else pairs_of (least b)

-- a dictionary into which pairs are put, one after the other: of two with one key the later counts
abbrev pub dictionary_with_pairs : Dictionary → List Pair → Dictionary
dictionary_with_pairs d [] = d
dictionary_with_pairs d (p ∷ ps) = dictionary_with_pairs (map.insert d p.0 p.1) ps

-- the dictionary of the pairs that the walk visits
abbrev pub walked : Tree → Op → Dictionary
walked t o = dictionary_with_pairs nothing (pairs_of_walk t o)

-- ---- the tree after an operation

-- the leaf at the walk's end with a new value
abbrev pub tree_with_value : List ℕ → List ℕ → Tree → Tree
tree_with_value k v Empty = Empty
tree_with_value k v (Leaf q w) = Leaf k v
tree_with_value k v (Inner i l r) = if key_bit k i then Inner i l (tree_with_value k v r) else Inner i (tree_with_value k v l) r
tree_with_value k v (Stub root) = Stub root

-- the new leaf on the side of the key's bit, the old node on the other
abbrev pub fork_of : ℕ → List ℕ → List ℕ → Tree → Tree
fork_of i k v t = if key_bit k i then Inner i t (Leaf k v) else Inner i (Leaf k v) t

-- a fork at the first node of the walk that isn't an Inner of an index below i
abbrev pub tree_with_fork : ℕ → List ℕ → List ℕ → Tree → Tree
tree_with_fork i k v Empty = fork_of i k v Empty
tree_with_fork i k v (Leaf q w) = fork_of i k v (Leaf q w)
tree_with_fork i k v (Inner j l r) =
    if nat_lt j i then (if key_bit k j then Inner j l (tree_with_fork i k v r) else Inner j (tree_with_fork i k v l) r)
    else fork_of i k v (Inner j l r)
tree_with_fork i k v (Stub root) = fork_of i k v (Stub root)

abbrev pub put_beside : Tree → List ℕ → List ℕ → Tree → Tree
put_beside Empty k v t = Leaf k v
put_beside (Leaf q w) k v t = if bytes_eq q k then tree_with_value k v t else tree_with_fork (shared_bits k q) k v t
put_beside (Inner i l r) k v t = t
put_beside (Stub root) k v t = t

-- the key has the value
abbrev pub put_in : List ℕ → List ℕ → Tree → Tree
put_in k v t = put_beside (end_at k t) k v t

abbrev pub is_gone : Tree → Bool
is_gone Empty = true
is_gone (Leaf k v) = false
is_gone (Inner i l r) = false
is_gone (Stub root) = false

-- the other side moves up where a side is gone
abbrev pub tree_of_sides : ℕ → Tree → Tree → Tree
tree_of_sides i l r = if is_gone l then r else (if is_gone r then l else Inner i l r)

-- the key is gone
abbrev pub del_in : List ℕ → Tree → Tree
del_in k Empty = Empty
del_in k (Leaf q w) = if bytes_eq q k then Empty else Leaf q w
del_in k (Inner i l r) = if key_bit k i then tree_of_sides i l (del_in k r) else tree_of_sides i (del_in k l) r
del_in k (Stub root) = Stub root

abbrev pub tree_after : Tree → Op → Tree
tree_after t (op.Put k v) = put_in k v t
tree_after t (op.Get k) = t
tree_after t (op.Del k) = del_in k t
tree_after t (op.List p) = t
