-- The roots of a part that was read, and of the part after an operation, are digests.
use Rattle.std.specs.Prelude.{◌≡◌, ℕ, ◌+◌, true, false, List, length, Some, nat_lt, if◌then◌else◌}
use Rattle.std.specs.Str.{bytes_eq}
use Rattle.std.proofs.Common.{subst}
use Rattle.sha2.proofs.Facts256.{length-sha256}
use Rattle.vic_dict.specs.declared.op.Op.{Op}
use Rattle.vic_dict.specs.declared.op.Op.TheVariants as op
use Rattle.vic_dict.specs.Lists.{AreBytes}
use Rattle.vic_wire.specs.Bits.{key_bit, shared_bits}
use Rattle.vic_wire.specs.Trees.{Tree, Empty, Leaf, Inner, Stub, root_of}
use Rattle.vic_wire.specs.Walks.{end_at, tree_with_value, fork_of, tree_with_fork, put_beside, is_gone, tree_of_sides, del_in, tree_after}
use Rattle.vic_wire.specs.Parts.{Part, IsNodeFrom, IsPart, read_part}
use Rattle.vic_spellings.specs.Spellings.{PartHoldsBytes}
use Rattle.vic_spellings.proofs.Bytes.{bytes-sha256}
use Rattle.vic_spellings.proofs.SpelledParts.{part_takes, parts_are_spelled}

-- ---- roots after an operation on any part

-- stubs are digests
abbrev pub StubsFit : Tree → Type 0
StubsFit Empty = Unit {0}
StubsFit (Leaf k v) = Unit {0}
StubsFit (Inner i l r) = StubsFit l × StubsFit r
StubsFit (Stub root) = (length root ≡ 32) × AreBytes root

node_stubs : (low : ℕ) (t : Tree) → IsNodeFrom low t → PartHoldsBytes t → StubsFit t
node_stubs low Empty h b = tt
node_stubs low (Leaf k v) h b = tt
node_stubs low (Inner i l r) h b = (node_stubs (i + 1) l h.2 b.0, node_stubs (i + 1) r h.3 b.1)
node_stubs low (Stub root) h b = (h, b)

pub part_stubs : (t : Part) → IsPart t → PartHoldsBytes t → StubsFit t
part_stubs Empty h b = tt
part_stubs (Leaf k v) h b = tt
part_stubs (Inner i l r) h b = node_stubs 0 (Inner i l r) h b
part_stubs (Stub root) h b = node_stubs 0 (Stub root) h b

-- so it is of a part that was read
pub read_stubs : (bytes : List ℕ) (part : Part) → AreBytes bytes → read_part bytes ≡ Some part → StubsFit part
read_stubs bytes part are read = let t = part_takes bytes part are read in part_stubs part t.0 ((parts_are_spelled.in_bytes part t.0).0 (subst AreBytes t.1 are))

pub root_digest : (t : Tree) → StubsFit t → (length (root_of t) ≡ 32) × AreBytes (root_of t)
root_digest Empty h = (length-sha256 _, bytes-sha256 _)
root_digest (Leaf k v) h = (length-sha256 _, bytes-sha256 _)
root_digest (Inner i l r) h = (length-sha256 _, bytes-sha256 _)
root_digest (Stub root) h = h

forked_stubs : (i : ℕ) (k v : List ℕ) (t : Tree) → StubsFit t → StubsFit (fork_of i k v t)
forked_stubs i k v t h = elim (key_bit k i) as (λ b. StubsFit (if b then Inner i t (Leaf k v) else Inner i (Leaf k v) t)) [ true ↦ (h, tt) | false ↦ (tt, h) ]

planted_stubs : (i : ℕ) (k v : List ℕ) (t : Tree) → StubsFit t → StubsFit (tree_with_fork i k v t)
planted_stubs i k v Empty h = forked_stubs i k v Empty h
planted_stubs i k v (Leaf q w) h = forked_stubs i k v (Leaf q w) h
planted_stubs i k v (Stub root) h = forked_stubs i k v (Stub root) h
planted_stubs i k v (Inner j l r) h =
    elim (nat_lt j i) as (λ b. StubsFit (if b then (if key_bit k j then Inner j l (tree_with_fork i k v r) else Inner j (tree_with_fork i k v l) r) else fork_of i k v (Inner j l r))) [
      | true ↦ elim (key_bit k j) as (λ b. StubsFit (if b then Inner j l (tree_with_fork i k v r) else Inner j (tree_with_fork i k v l) r)) [ true ↦ (h.0, planted_stubs i k v r h.1) | false ↦ (planted_stubs i k v l h.0, h.1) ]
      | false ↦ forked_stubs i k v (Inner j l r) h
    ]

revalued_stubs : (k v : List ℕ) (t : Tree) → StubsFit t → StubsFit (tree_with_value k v t)
revalued_stubs k v Empty h = tt
revalued_stubs k v (Leaf q w) h = tt
revalued_stubs k v (Stub root) h = h
revalued_stubs k v (Inner i l r) h = elim (key_bit k i) as (λ b. StubsFit (if b then Inner i l (tree_with_value k v r) else Inner i (tree_with_value k v l) r)) [ true ↦ (h.0, revalued_stubs k v r h.1) | false ↦ (revalued_stubs k v l h.0, h.1) ]

beside_stubs : (e : Tree) (k v : List ℕ) (t : Tree) → StubsFit t → StubsFit (put_beside e k v t)
beside_stubs Empty k v t h = tt
beside_stubs (Leaf q w) k v t h = elim (bytes_eq q k) as (λ b. StubsFit (if b then tree_with_value k v t else tree_with_fork (shared_bits k q) k v t)) [ true ↦ revalued_stubs k v t h | false ↦ planted_stubs (shared_bits k q) k v t h ]
beside_stubs (Inner i l r) k v t h = h
beside_stubs (Stub root) k v t h = h

joined_stubs : (i : ℕ) (l r : Tree) → StubsFit l → StubsFit r → StubsFit (tree_of_sides i l r)
joined_stubs i l r g h = elim (is_gone l) as (λ b. StubsFit (if b then r else (if is_gone r then l else Inner i l r))) [
  | true ↦ h
  | false ↦ elim (is_gone r) as (λ b. StubsFit (if b then l else Inner i l r)) [ true ↦ g | false ↦ (g, h) ]
]

del_stubs : (k : List ℕ) (t : Tree) → StubsFit t → StubsFit (del_in k t)
del_stubs k Empty h = tt
del_stubs k (Leaf q w) h = elim (bytes_eq q k) as (λ b. StubsFit (if b then Empty else Leaf q w)) [ true ↦ tt | false ↦ tt ]
del_stubs k (Stub root) h = h
del_stubs k (Inner i l r) h = elim (key_bit k i) as (λ b. StubsFit (if b then tree_of_sides i l (del_in k r) else tree_of_sides i (del_in k l) r)) [
  | true ↦ joined_stubs i l (del_in k r) h.0 (del_stubs k r h.1)
  | false ↦ joined_stubs i (del_in k l) r (del_stubs k l h.0) h.1
]

pub after_stubs : (t : Tree) (o : Op) → StubsFit t → StubsFit (tree_after t o)
after_stubs t (op.Put k v) h = beside_stubs (end_at k t) k v t h
after_stubs t (op.Get k) h = h
after_stubs t (op.Del k) h = del_stubs k t h
after_stubs t (op.List p) h = h
