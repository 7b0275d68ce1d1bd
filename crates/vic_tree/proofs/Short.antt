-- How long the bytes of a part of a dictionary are.
use Rattle.std.proofs.Common.{◌≡◌, ℕ, zero, suc, ◌+◌, ◌*◌, ◌<◌, ◌≤◌, Bool, true, false, cond, List, [], ◌∷◌, ◌++◌, length, sum_by, ltb, arith}
use Rattle.std.specs.Int.{w16, to_be_bytes}
use Rattle.std.proofs.lemmas.List.{length-append}
use Rattle.std.proofs.lemmas.List.Sums.{sum_by-cons, sum_by-append}
use Rattle.vic_dict.specs.declared.op.Op.{Op}
use Rattle.vic_dict.specs.declared.op.Op.TheVariants as op
use Rattle.vic_wire.specs.Bits.{key_bit}
use Rattle.vic_wire.specs.Texts.{short_text}
use Rattle.vic_wire.specs.Trees.{Tree, Empty, Leaf, Inner, Stub, Pair, pairs_of, root_of}
use Rattle.vic_wire.specs.Walks.{least, leaf_has_prefix}
use Rattle.vic_wire.specs.Cuts.{cut_at, cut_least, cut_below, cut_for, cut_none}
use Rattle.vic_wire.specs.Parts.{IsNodeFrom, node_field, part_text}
use Rattle.vic_tree.specs.Grown.{IsGrown, IsTree, LeavesFit}
use Rattle.vic_tree.proofs.Found.{grown_left, grown_right}
use Rattle.vic_tree.proofs.Grammar.{no_empty, root_length, tree_is_part}
use Rattle.vic_tree.proofs.Deleted.{no_stub}

-- what a pair and a tree weigh
abbrev weighs_pair : Pair → ℕ
weighs_pair p = length p.0 + length p.1 + 16

abbrev pub weighs : Tree → ℕ
weighs t = sum_by weighs_pair (pairs_of t)

inner_length : (i : ℕ) (l r : Tree) → length (node_field (Inner i l r)) ≡ 3 + length (node_field l) + length (node_field r)
inner_length i l r = omega (arith, length-append (to_be_bytes w16 i ++ node_field l) (node_field r), length-append (to_be_bytes w16 i) (node_field l))

leaf_length : (k v : List ℕ) → length (node_field (Leaf k v)) ≡ length k + length v + 3
leaf_length k v = omega (arith, length-append (short_text k) (short_text v))

leaf_weighs : (k v : List ℕ) → weighs (Leaf k v) ≡ length k + length v + 16
leaf_weighs k v = omega (arith, sum_by-cons weighs_pair (k, v) [])

inner_weighs : (i : ℕ) (l r : Tree) → weighs (Inner i l r) ≡ weighs l + weighs r
inner_weighs i l r = sum_by-append weighs_pair (pairs_of l) (pairs_of r)

-- a whole subtree has no more bytes than it weighs
whole_short : (t : Tree) → IsGrown t → length (node_field t) + 3 ≤ weighs t
whole_short Empty g = absurd (no_empty g)
whole_short (Leaf k v) g = omega (arith, leaf_length k v, leaf_weighs k v)
whole_short (Inner i l r) g = omega (arith, inner_length i l r, inner_weighs i l r, whole_short l (grown_left i l r g), whole_short r (grown_right i l r g))
whole_short (Stub root) g = absurd (no_stub root g)

-- on a walk an inner node and the stub beside it have 36 bytes: those of one side are short, and so are those of both
left_short : (i m n : ℕ) (l r c : Tree) → IsNodeFrom n (Inner i l r) → length (node_field c) ≤ weighs l + 36 * m → length (node_field (Inner i c (Stub (root_of r)))) ≤ weighs (Inner i l r) + 36 * (suc m)
left_short i m n l r c f short = omega (arith, short, inner_length i c (Stub (root_of r)), inner_weighs i l r, root_length (i + 1) r f.3)

right_short : (i m n : ℕ) (l r c : Tree) → IsNodeFrom n (Inner i l r) → length (node_field c) ≤ weighs r + 36 * m → length (node_field (Inner i (Stub (root_of l)) c)) ≤ weighs (Inner i l r) + 36 * (suc m)
right_short i m n l r c f short = omega (arith, short, inner_length i (Stub (root_of l)) c, inner_weighs i l r, root_length (i + 1) l f.2)

-- from an index of which the levels above are so many
at_short : (k : List ℕ) (t : Tree) (m n : ℕ) → IsGrown t → IsNodeFrom n t → 2296 ≤ m + n → length (node_field (cut_at k t)) ≤ weighs t + 36 * m
at_short k Empty m n g f enough = absurd f
at_short k (Leaf q w) m n g f enough = omega (arith, leaf_length q w, leaf_weighs q w)
at_short k (Stub root) m n g f enough = absurd (no_stub root g)
at_short k (Inner i l r) zero n g f enough = absurd (omega (arith, f.0, f.1, enough))
at_short k (Inner i l r) (suc m) n g f enough =
    elim (key_bit k i) as (λ b. length (node_field (cond b (Inner i (Stub (root_of l)) (cut_at k r)) (Inner i (cut_at k l) (Stub (root_of r))))) ≤ weighs (Inner i l r) + 36 * (suc m)) [
      | true ↦ right_short i m n l r (cut_at k r) f (at_short k r m (i + 1) (grown_right i l r g) f.3 (omega (arith, f.0, enough)))
      | false ↦ left_short i m n l r (cut_at k l) f (at_short k l m (i + 1) (grown_left i l r g) f.2 (omega (arith, f.0, enough)))
    ]

least_short : (t : Tree) (m n : ℕ) → IsGrown t → IsNodeFrom n t → 2296 ≤ m + n → length (node_field (cut_least t)) ≤ weighs t + 36 * m
least_short Empty m n g f enough = absurd f
least_short (Leaf q w) m n g f enough = omega (arith, leaf_length q w, leaf_weighs q w)
least_short (Stub root) m n g f enough = absurd (no_stub root g)
least_short (Inner i l r) zero n g f enough = absurd (omega (arith, f.0, f.1, enough))
least_short (Inner i l r) (suc m) n g f enough = left_short i m n l r (cut_least l) f (least_short l m (i + 1) (grown_left i l r g) f.2 (omega (arith, f.0, enough)))

below_short : (p : List ℕ) (t : Tree) (m n : ℕ) → IsGrown t → IsNodeFrom n t → 2296 ≤ m + n → length (node_field (cut_below p t)) ≤ weighs t + 36 * m
below_short p Empty m n g f enough = absurd f
below_short p (Leaf q w) m n g f enough = omega (arith, leaf_length q w, leaf_weighs q w)
below_short p (Stub root) m n g f enough = absurd (no_stub root g)
below_short p (Inner i l r) zero n g f enough = absurd (omega (arith, f.0, f.1, enough))
below_short p (Inner i l r) (suc m) n g f enough =
    elim (ltb i (9 * length p)) as (λ b. length (node_field (cond b (cond (key_bit p i) (Inner i (Stub (root_of l)) (cut_below p r)) (Inner i (cut_below p l) (Stub (root_of r)))) (cond (leaf_has_prefix p (least l)) (Inner i l r) (cut_least (Inner i l r))))) ≤ weighs (Inner i l r) + 36 * (suc m)) [
      | true ↦ elim (key_bit p i) as (λ b. length (node_field (cond b (Inner i (Stub (root_of l)) (cut_below p r)) (Inner i (cut_below p l) (Stub (root_of r))))) ≤ weighs (Inner i l r) + 36 * (suc m)) [
        | true ↦ right_short i m n l r (cut_below p r) f (below_short p r m (i + 1) (grown_right i l r g) f.3 (omega (arith, f.0, enough)))
        | false ↦ left_short i m n l r (cut_below p l) f (below_short p l m (i + 1) (grown_left i l r g) f.2 (omega (arith, f.0, enough)))
      ]
      | false ↦ elim (leaf_has_prefix p (least l)) as (λ b. length (node_field (cond b (Inner i l r) (cut_least (Inner i l r)))) ≤ weighs (Inner i l r) + 36 * (suc m)) [
        | true ↦ omega (arith, whole_short (Inner i l r) g)
        | false ↦ least_short (Inner i l r) (suc m) n g f enough
      ]
    ]

cut_short : (t : Tree) (o : Op) → IsGrown t → IsNodeFrom 0 t → length (node_field (cut_for t o)) ≤ weighs t + 82656
cut_short t (op.Put k v) g f = at_short k t 2296 0 g f (omega arith)
cut_short t (op.Get k) g f = at_short k t 2296 0 g f (omega arith)
cut_short t (op.Del k) g f = at_short k t 2296 0 g f (omega arith)
cut_short t (op.List p) g f = below_short p t 2296 0 g f (omega arith)

empty_short : (o : Op) → length (node_field (cut_for Empty o)) ≤ 1
empty_short (op.Put k v) = omega arith
empty_short (op.Get k) = omega arith
empty_short (op.Del k) = omega arith
empty_short (op.List p) = omega arith

-- the part for an operation has no more bytes than the dictionary weighs, and 36 for each level
pub part_short : (t : Tree) (o : Op) → IsTree t → LeavesFit t → length (part_text (cut_for t o)) ≤ weighs t + 82657
part_short Empty o g f = omega (arith, empty_short o)
part_short (Leaf k v) o g f = omega (arith, cut_short (Leaf k v) o g (tree_is_part (Leaf k v) g f))
part_short (Inner i l r) o g f = omega (arith, cut_short (Inner i l r) o g (tree_is_part (Inner i l r) g f))
part_short (Stub root) o g f = absurd g

pub bare_short : (t : Tree) → IsTree t → LeavesFit t → length (part_text (cut_none t)) ≤ 34
bare_short Empty g f = omega arith
bare_short (Leaf k v) g f = omega (arith, root_length 0 (Leaf k v) (tree_is_part (Leaf k v) g f))
bare_short (Inner i l r) g f = omega (arith, root_length 0 (Inner i l r) (tree_is_part (Inner i l r) g f))
bare_short (Stub root) g f = absurd g
