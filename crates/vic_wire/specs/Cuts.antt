-- Trees of which subtrees were cut away, and the cut that an operation needs.
use Rattle.std.specs.Prelude.{◌≡◌, ℕ, ◌*◌, List, length, nat_lt, if◌then◌else◌}
use Rattle.vic_dict.specs.declared.op.Op.{Op}
use Rattle.vic_dict.specs.declared.op.Op.TheVariants as op
use Rattle.vic_wire.specs.Bits.{key_bit}
use Rattle.vic_wire.specs.Trees.{Tree, Empty, Leaf, Inner, Stub, root_of}
use Rattle.vic_wire.specs.Walks.{least, leaf_has_prefix}

-- the first is the second with some subtrees replaced by stubs of their roots
unfoldable pub IsCut : Tree → Tree → Type 0
IsCut Empty t = t ≡ Empty
IsCut (Leaf k v) t = t ≡ Leaf k v
IsCut (Stub root) t = root ≡ root_of t
IsCut (Inner i l r) Empty = ⊥
IsCut (Inner i l r) (Leaf k v) = ⊥
IsCut (Inner i l r) (Stub root) = ⊥
IsCut (Inner i l r) (Inner j m s) = (i ≡ j) × IsCut l m × IsCut r s

-- ---- the walk's nodes whole, and every other subtree as a stub

abbrev pub cut_at : List ℕ → Tree → Tree
cut_at k Empty = Empty
cut_at k (Leaf q w) = Leaf q w
cut_at k (Inner i l r) = if key_bit k i then Inner i (Stub (root_of l)) (cut_at k r) else Inner i (cut_at k l) (Stub (root_of r))
cut_at k (Stub root) = Stub root

abbrev pub cut_least : Tree → Tree
cut_least Empty = Empty
cut_least (Leaf k v) = Leaf k v
cut_least (Inner i l r) = Inner i (cut_least l) (Stub (root_of r))
cut_least (Stub root) = Stub root

abbrev pub cut_below : List ℕ → Tree → Tree
cut_below p Empty = Empty
cut_below p (Leaf k v) = Leaf k v
cut_below p (Inner i l r) =
    if nat_lt i (9 * length p)
    then (if key_bit p i then Inner i (Stub (root_of l)) (cut_below p r) else Inner i (cut_below p l) (Stub (root_of r)))
    else (if leaf_has_prefix p (least l) then Inner i l r else cut_least (Inner i l r))
cut_below p (Stub root) = Stub root

-- the part that an operation needs
abbrev pub cut_for : Tree → Op → Tree
cut_for t (op.Put k v) = cut_at k t
cut_for t (op.Get k) = cut_at k t
cut_for t (op.Del k) = cut_at k t
cut_for t (op.List p) = cut_below p t

-- the part that shows the root alone
abbrev pub cut_none : Tree → Tree
cut_none Empty = Empty
cut_none (Leaf k v) = Stub (root_of (Leaf k v))
cut_none (Inner i l r) = Stub (root_of (Inner i l r))
cut_none (Stub root) = Stub root
