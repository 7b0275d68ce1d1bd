-- The tree of a dictionary and each of its cuts are parts by the grammar.
use Rattle.std.proofs.Common.{◌≡◌, ℕ, ◌+◌, ◌<◌, ◌≤◌, true, false, List, length, sym, ap, subst, ◌∙◌, arith, inl, inr, ◌⊎◌}
use Rattle.vic_wire.specs.Texts.{empty_text, leaf_text, inner_text}
use Rattle.vic_tree.proofs.HashLength.{length-hash}
use Rattle.vic_wire.specs.Bits.{key_bit}
use Rattle.vic_tree.specs.Grown.{AgreeBelow, PartsAt, HasKey, IsGrown, IsTree, IsSpelled, LeavesFit}
use Rattle.vic_wire.specs.Trees.{Tree, Empty, Leaf, Inner, Stub, pairs_of, root_of}
use Rattle.vic_wire.specs.Cuts.{IsCut}
use Rattle.vic_wire.specs.Parts.{IsNodeFrom, IsPart}
use Rattle.vic_wire.proofs.KeyBits.{length-key_bits}
use Rattle.vic_tree.proofs.Lists.{HasKey-left, HasKey-right, HasKey-cases}
use Rattle.vic_tree.proofs.Grown.{some_key, left_bit, right_bit, grown_agree, right_within}
use Rattle.vic_tree.proofs.Found.{grown_left, grown_right, grown_parts}
use Rattle.vic_tree.proofs.Deleted.{no_stub}

pub is_spelled : (n : ℕ) (t : Tree) → IsNodeFrom n t → IsSpelled t
is_spelled n Empty h = tt
is_spelled n (Leaf k v) h = tt
is_spelled n (Inner i l r) h = (omega (arith, h.1), is_spelled (i + 1) l h.2, is_spelled (i + 1) r h.3)
is_spelled n (Stub root) h = h

pub part_is_spelled : (t : Tree) → IsPart t → IsSpelled t
part_is_spelled Empty h = tt
part_is_spelled (Leaf k v) h = tt
part_is_spelled (Inner i l r) h = is_spelled 0 (Inner i l r) h
part_is_spelled (Stub root) h = h

node_fits : (n : ℕ) (t : Tree) → IsNodeFrom n t → LeavesFit t
node_fits n Empty h = tt
node_fits n (Leaf k v) h = h
node_fits n (Inner i l r) h = (node_fits (i + 1) l h.2, node_fits (i + 1) r h.3)
node_fits n (Stub root) h = tt

pub part_fits : (t : Tree) → IsPart t → LeavesFit t
part_fits Empty h = tt
part_fits (Leaf k v) h = h
part_fits (Inner i l r) h = node_fits 0 (Inner i l r) h
part_fits (Stub root) h = tt

-- ---- indices rise

abbrev pub IndexFrom : ℕ → Tree → Type 0
IndexFrom n Empty = Unit {0}
IndexFrom n (Leaf k v) = Unit {0}
IndexFrom n (Inner i l r) = n ≤ i
IndexFrom n (Stub root) = Unit {0}

cross : true ≡ false → ⊥
cross e = cc

-- keys that agree below i and at i part above it
above : (i j : ℕ) (a b : List ℕ) → AgreeBelow i a b → key_bit a i ≡ key_bit b i → PartsAt j a b → i + 1 ≤ j
above i j a b s e p = elim (or_above i j) [
  | inl h ↦ absurd (cross (sym p.right ∙ sym (s j h) ∙ p.left))
  | inr (inl h) ↦ absurd (cross (sym p.right ∙ sym (subst (λ m. key_bit a m ≡ key_bit b m) h e) ∙ p.left))
  | inr (inr h) ↦ h
]
  where
    or_above : (i j : ℕ) → (j < i) ⊎ ((i ≡ j) ⊎ (i + 1 ≤ j))
    or_above i j = grind arith

pub left_rises : (i : ℕ) (l r : Tree) → IsGrown (Inner i l r) → IndexFrom (i + 1) l
left_rises i Empty r g = tt
left_rises i (Leaf k v) r g = tt
left_rises i (Stub root) r g = tt
left_rises i (Inner j m s) r g =
    let l = Inner j m s in let gl = grown_left i l r g in
    let a = some_key m (grown_left j m s gl) in let b = some_key s (grown_right j m s gl) in
    let ha = HasKey-left (pairs_of m) (pairs_of s) a.0 a.1 in let hb = HasKey-right (pairs_of m) (pairs_of s) b.0 b.1 in
    above i j a.0 b.0 (grown_agree i l r g a.0 b.0 (HasKey-left (pairs_of l) (pairs_of r) a.0 ha) (HasKey-left (pairs_of l) (pairs_of r) b.0 hb))
    (left_bit i l r g a.0 ha ∙ sym (left_bit i l r g b.0 hb)) (grown_parts j m s gl a.0 b.0 a.1 b.1)

pub right_rises : (i : ℕ) (l r : Tree) → IsGrown (Inner i l r) → IndexFrom (i + 1) r
right_rises i l Empty g = tt
right_rises i l (Leaf k v) g = tt
right_rises i l (Stub root) g = tt
right_rises i l (Inner j m s) g =
    let r = Inner j m s in let gr = grown_right i l r g in
    let a = some_key m (grown_left j m s gr) in let b = some_key s (grown_right j m s gr) in
    let ha = HasKey-left (pairs_of m) (pairs_of s) a.0 a.1 in let hb = HasKey-right (pairs_of m) (pairs_of s) b.0 b.1 in
    above i j a.0 b.0 (grown_agree i l r g a.0 b.0 (HasKey-right (pairs_of l) (pairs_of r) a.0 ha) (HasKey-right (pairs_of l) (pairs_of r) b.0 hb))
    (right_bit i l r g a.0 ha ∙ sym (right_bit i l r g b.0 hb)) (grown_parts j m s gr a.0 b.0 a.1 b.1)

pub short_key : (t : Tree) → LeavesFit t → (k : List ℕ) → HasKey (pairs_of t) k → length k ≤ 255
short_key Empty f k h = absurd h
short_key (Leaf q v) f k (inl e) = omega (arith, f.0, ap length e)
short_key (Leaf q v) f k (inr h) = absurd h
short_key (Inner i l r) f k h = elim (HasKey-cases (pairs_of l) (pairs_of r) k h) [ inl a ↦ short_key l f.0 k a | inr b ↦ short_key r f.1 k b ]
short_key (Stub root) f k h = absurd h

pub no_empty : IsGrown Empty → ⊥
unfolding IsGrown
no_empty g = g

rises : (n : ℕ) (t : Tree) → IsGrown t → LeavesFit t → IndexFrom n t → IsNodeFrom n t
rises n Empty g f h = no_empty g
rises n (Leaf k v) g f h = f
rises n (Stub root) g f h = absurd (no_stub root g)
rises n (Inner i l r) g f h =
    let a = some_key l (grown_left i l r g) in let b = some_key r (grown_right i l r g) in
    let inside = right_within i a.0 b.0 (grown_parts i l r g a.0 b.0 a.1 b.1) in
    let small = short_key r f.1 b.0 b.1 in (
      h,
      omega (arith, inside, small, length-key_bits b.0),
      rises (i + 1) l (grown_left i l r g) f.0 (left_rises i l r g),
      rises (i + 1) r (grown_right i l r g) f.1 (right_rises i l r g),
    )

pub tree_is_part : (t : Tree) → IsTree t → LeavesFit t → IsPart t
tree_is_part Empty g f = tt
tree_is_part (Leaf k v) g f = f
tree_is_part (Inner i l r) g f = rises 0 (Inner i l r) g f (omega arith)
tree_is_part (Stub root) g f = absurd g

-- ---- and so do those of a cut

pub root_length : (n : ℕ) (t : Tree) → IsNodeFrom n t → length (root_of t) ≡ 32
root_length n Empty h = absurd h
root_length n (Leaf k v) h = length-hash (leaf_text k v)
root_length n (Inner i l r) h = length-hash (inner_text i (root_of l) (root_of r))
root_length n (Stub root) h = h

cut_node : (n : ℕ) (c t : Tree) → IsCut c t → IsNodeFrom n t → IsNodeFrom n c
unfolding IsCut
cut_node n Empty t h f = subst (IsNodeFrom n) h f
cut_node n (Leaf k v) t h f = subst (IsNodeFrom n) h f
cut_node n (Stub root) t h f = ap length h ∙ root_length n t f
cut_node n (Inner i l r) Empty h f = absurd h
cut_node n (Inner i l r) (Leaf k v) h f = absurd h
cut_node n (Inner i l r) (Stub root) h f = absurd h
cut_node n (Inner i l r) (Inner j m s) h f =
    subst (λ x. (n ≤ x) × (x < 2296) × IsNodeFrom (x + 1) l × IsNodeFrom (x + 1) r) (sym h.0) (f.0, f.1, cut_node (j + 1) l m h.1 f.2, cut_node (j + 1) r s h.2 f.3)

pub cut_is_part : (c t : Tree) → IsCut c t → IsPart t → IsPart c
unfolding IsCut
cut_is_part Empty t h f = tt
cut_is_part (Leaf k v) t h f = subst IsPart h f
cut_is_part (Stub root) Empty h f = ap length h ∙ length-hash empty_text
cut_is_part (Stub root) (Leaf k v) h f = cut_node 0 (Stub root) (Leaf k v) h f
cut_is_part (Stub root) (Inner i l r) h f = cut_node 0 (Stub root) (Inner i l r) h f
cut_is_part (Stub root) (Stub other) h f = cut_node 0 (Stub root) (Stub other) h f
cut_is_part (Inner i l r) Empty h f = absurd h
cut_is_part (Inner i l r) (Leaf k v) h f = absurd h
cut_is_part (Inner i l r) (Stub root) h f = absurd h
cut_is_part (Inner i l r) (Inner j m s) h f = cut_node 0 (Inner i l r) (Inner j m s) h f
