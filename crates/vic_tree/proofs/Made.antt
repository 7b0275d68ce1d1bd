-- The part that is made for an operation is a cut and reaches the operation.
use Rattle.std.proofs.Common.{◌≡◌, ℕ, ◌*◌, Bool, true, false, cond, not, List, length, refl, sym, ap, subst, ◌∙◌, ltb}
use Rattle.vic_dict.specs.declared.op.Op.{Op}
use Rattle.vic_dict.specs.declared.op.Op.TheVariants as op
use Rattle.vic_wire.specs.Bits.{key_bit}
use Rattle.vic_wire.specs.Trees.{Tree, Empty, Leaf, Inner, Stub, root_of}
use Rattle.vic_wire.specs.Cuts.{IsCut, cut_at, cut_least, cut_below, cut_for, cut_none}
use Rattle.vic_wire.specs.Walks.{end_at, is_stub, below, least, is_whole, leaf_has_prefix, reaches}
use Rattle.vic_tree.specs.Grown.{IsGrown, IsTree}
use Rattle.vic_tree.proofs.Cuts.{cut_itself, cut_stub, make_cut}
use Rattle.vic_tree.proofs.Found.{grown_left, grown_right}
use Rattle.vic_tree.proofs.Reached.{end_is, end_no_stub}
use Rattle.vic_tree.proofs.Deleted.{no_stub}
use Rattle.vic_tree.proofs.KeyPrefixes.{and_true}

cut_at-cut : (k : List ℕ) (t : Tree) → IsCut (cut_at k t) t
cut_at-cut k Empty = cut_itself Empty
cut_at-cut k (Leaf q w) = cut_itself (Leaf q w)
cut_at-cut k (Stub root) = cut_itself (Stub root)
cut_at-cut k (Inner i l r) = elim (key_bit k i) as (λ b. IsCut (cond b (Inner i (Stub (root_of l)) (cut_at k r)) (Inner i (cut_at k l) (Stub (root_of r)))) (Inner i l r)) [
  | true ↦ make_cut i (Stub (root_of l)) (cut_at k r) l r (cut_stub l) (cut_at-cut k r)
  | false ↦ make_cut i (cut_at k l) (Stub (root_of r)) l r (cut_at-cut k l) (cut_stub r)
]

cut_least-cut : (t : Tree) → IsCut (cut_least t) t
cut_least-cut Empty = cut_itself Empty
cut_least-cut (Leaf q w) = cut_itself (Leaf q w)
cut_least-cut (Stub root) = cut_itself (Stub root)
cut_least-cut (Inner i l r) = make_cut i (cut_least l) (Stub (root_of r)) l r (cut_least-cut l) (cut_stub r)

cut_below-cut : (p : List ℕ) (t : Tree) → IsCut (cut_below p t) t
cut_below-cut p Empty = cut_itself Empty
cut_below-cut p (Leaf q w) = cut_itself (Leaf q w)
cut_below-cut p (Stub root) = cut_itself (Stub root)
cut_below-cut p (Inner i l r) =
    elim (ltb i (9 * length p)) as (λ b. IsCut (cond b (cond (key_bit p i) (Inner i (Stub (root_of l)) (cut_below p r)) (Inner i (cut_below p l) (Stub (root_of r)))) (cond (leaf_has_prefix p (least l)) (Inner i l r) (cut_least (Inner i l r)))) (Inner i l r)) [
      | true ↦ elim (key_bit p i) as (λ b. IsCut (cond b (Inner i (Stub (root_of l)) (cut_below p r)) (Inner i (cut_below p l) (Stub (root_of r)))) (Inner i l r)) [
        | true ↦ make_cut i (Stub (root_of l)) (cut_below p r) l r (cut_stub l) (cut_below-cut p r)
        | false ↦ make_cut i (cut_below p l) (Stub (root_of r)) l r (cut_below-cut p l) (cut_stub r)
      ]
      | false ↦ elim (leaf_has_prefix p (least l)) as (λ b. IsCut (cond b (Inner i l r) (cut_least (Inner i l r))) (Inner i l r)) [ true ↦ cut_itself (Inner i l r) | false ↦ cut_least-cut (Inner i l r) ]
    ]

pub cut_for-cut : (t : Tree) (o : Op) → IsCut (cut_for t o) t
cut_for-cut t (op.Put k v) = cut_at-cut k t
cut_for-cut t (op.Get k) = cut_at-cut k t
cut_for-cut t (op.Del k) = cut_at-cut k t
cut_for-cut t (op.List p) = cut_below-cut p t

pub cut_none-cut : (t : Tree) → IsCut (cut_none t) t
cut_none-cut Empty = cut_itself Empty
cut_none-cut (Leaf k v) = cut_stub (Leaf k v)
cut_none-cut (Inner i l r) = cut_stub (Inner i l r)
cut_none-cut (Stub root) = cut_itself (Stub root)

-- ---- it reaches the operation

end_at-cut_at : (k : List ℕ) (t : Tree) → end_at k (cut_at k t) ≡ end_at k t
end_at-cut_at k Empty = refl
end_at-cut_at k (Leaf q w) = refl
end_at-cut_at k (Stub root) = refl
end_at-cut_at k (Inner i l r) =
    elim (key_bit k i) as (λ b. key_bit k i ≡ b → end_at k (cond b (Inner i (Stub (root_of l)) (cut_at k r)) (Inner i (cut_at k l) (Stub (root_of r)))) ≡ cond b (end_at k r) (end_at k l)) [
      | true ↦ λ e. ap (λ b. cond b (end_at k (cut_at k r)) (end_at k (Stub (root_of l)))) e ∙ end_at-cut_at k r
      | false ↦ λ e. ap (λ b. cond b (end_at k (Stub (root_of r))) (end_at k (cut_at k l))) e ∙ end_at-cut_at k l
    ] refl

key_reached : (k : List ℕ) (t : Tree) → IsTree t → not (is_stub (end_at k (cut_at k t))) ≡ true
key_reached k t g = ap (λ e. not (is_stub e)) (end_at-cut_at k t) ∙ ap not (end_no_stub (end_at k t) (end_is k t g))

least-cut_least : (t : Tree) → least (cut_least t) ≡ least t
least-cut_least Empty = refl
least-cut_least (Leaf k v) = refl
least-cut_least (Inner i l r) = least-cut_least l
least-cut_least (Stub root) = refl

grown_least : (t : Tree) → IsGrown t → is_stub (least t) ≡ false
unfolding IsGrown
grown_least Empty g = absurd g
grown_least (Leaf k v) g = refl
grown_least (Inner i l r) g = grown_least l g.0
grown_least (Stub root) g = absurd g

grown_whole : (t : Tree) → IsGrown t → is_whole t ≡ true
unfolding IsGrown
grown_whole Empty g = absurd g
grown_whole (Leaf k v) g = refl
grown_whole (Inner i l r) g = and_true _ _ (grown_whole l g.0) (grown_whole r g.1)
grown_whole (Stub root) g = absurd g

-- what reaches asks of the prefix's node
abbrev IsShown : List ℕ → Tree → Type 0
IsShown p b = cond (leaf_has_prefix p (least b)) (is_whole b) (not (is_stub (least b))) ≡ true

no_stub_shown : (p : List ℕ) (b : Tree) → leaf_has_prefix p (least b) ≡ false → is_stub (least b) ≡ false → IsShown p b
no_stub_shown p b h n = ap (λ x. cond x (is_whole b) (not (is_stub (least b)))) h ∙ ap not n

whole_shown : (p : List ℕ) (b : Tree) → leaf_has_prefix p (least b) ≡ true → is_whole b ≡ true → IsShown p b
whole_shown p b h n = ap (λ x. cond x (is_whole b) (not (is_stub (least b)))) h ∙ n

stopped : (p : List ℕ) (i : ℕ) (l r : Tree) → IsGrown (Inner i l r) → ltb i (9 * length p) ≡ false → (x : Bool) → leaf_has_prefix p (least l) ≡ x → IsShown p (below p (cond x (Inner i l r) (cut_least (Inner i l r))))
stopped p i l r g s true h = subst (λ b. IsShown p (cond b (cond (key_bit p i) (below p r) (below p l)) (Inner i l r))) (sym s) (whole_shown p (Inner i l r) h (grown_whole (Inner i l r) g))
stopped p i l r g s false h =
    subst (λ b. IsShown p (cond b (cond (key_bit p i) (below p (Stub (root_of r))) (below p (cut_least l))) (cut_least (Inner i l r)))) (sym s)
    (no_stub_shown p (cut_least (Inner i l r)) (ap (leaf_has_prefix p) (least-cut_least l) ∙ h) (ap is_stub (least-cut_least l) ∙ grown_least l (grown_left i l r g)))

list_reached : (p : List ℕ) (t : Tree) → IsGrown t → IsShown p (below p (cut_below p t))
list_reached p Empty g = refl
list_reached p (Leaf k v) g = elim (leaf_has_prefix p (Leaf k v)) as (λ x. cond x true true ≡ true) [ true ↦ refl | false ↦ refl ]
list_reached p (Stub root) g = absurd (no_stub root g)
list_reached p (Inner i l r) g =
    elim (ltb i (9 * length p)) as (λ b. ltb i (9 * length p) ≡ b → IsShown p (below p (cond b (cond (key_bit p i) (Inner i (Stub (root_of l)) (cut_below p r)) (Inner i (cut_below p l) (Stub (root_of r)))) (cond (leaf_has_prefix p (least l)) (Inner i l r) (cut_least (Inner i l r)))))) [
      | true ↦ λ lt. elim (key_bit p i) as (λ b. key_bit p i ≡ b → IsShown p (below p (cond b (Inner i (Stub (root_of l)) (cut_below p r)) (Inner i (cut_below p l) (Stub (root_of r)))))) [
        | true ↦ λ e. subst (λ x. IsShown p (cond x (cond (key_bit p i) (below p (cut_below p r)) (Stub (root_of l))) (Inner i (Stub (root_of l)) (cut_below p r)))) (sym lt)
            (subst (λ x. IsShown p (cond x (below p (cut_below p r)) (Stub (root_of l)))) (sym e) (list_reached p r (grown_right i l r g)))
        | false ↦ λ e. subst (λ x. IsShown p (cond x (cond (key_bit p i) (Stub (root_of r)) (below p (cut_below p l))) (Inner i (cut_below p l) (Stub (root_of r))))) (sym lt)
            (subst (λ x. IsShown p (cond x (Stub (root_of r)) (below p (cut_below p l)))) (sym e) (list_reached p l (grown_left i l r g)))
      ] refl
      | false ↦ λ ge. stopped p i l r g ge (leaf_has_prefix p (least l)) refl
    ] refl

list_reached_tree : (p : List ℕ) (t : Tree) → IsTree t → IsShown p (below p (cut_below p t))
list_reached_tree p Empty g = refl
list_reached_tree p (Leaf k v) g = list_reached p (Leaf k v) g
list_reached_tree p (Inner i l r) g = list_reached p (Inner i l r) g
list_reached_tree p (Stub root) g = absurd g

pub cut_for-reaches : (t : Tree) (o : Op) → IsTree t → reaches (cut_for t o) o ≡ true
cut_for-reaches t (op.Put k v) g = key_reached k t g
cut_for-reaches t (op.Get k) g = key_reached k t g
cut_for-reaches t (op.Del k) g = key_reached k t g
cut_for-reaches t (op.List p) g = list_reached_tree p t g
