-- The part for an operation shows no more than the walk needs: it is a cut of each cut that shows the walk.
use Rattle.std.proofs.Common.{◌≡◌, ℕ, ◌*◌, Bool, true, false, cond, not, ◌&&◌, List, length, refl, sym, ap, subst, ◌∙◌}
use Rattle.std.specs.Prelude.{nat_lt}
use Rattle.vic_dict.specs.declared.op.Op.{Op}
use Rattle.vic_dict.specs.declared.op.Op.TheVariants as op
use Rattle.vic_wire.specs.Bits.{key_bit}
use Rattle.vic_wire.specs.Trees.{Tree, Empty, Leaf, Inner, Stub, root_of}
use Rattle.vic_wire.specs.Walks.{end_at, is_stub, below, least, leaf_has_prefix, is_whole, reaches}
use Rattle.vic_wire.specs.Cuts.{IsCut, cut_at, cut_least, cut_below, cut_for}
use Rattle.vic_tree.proofs.Cuts.{root_of-cut, cut_itself, least-cut, whole-cut}
use Rattle.vic_tree.proofs.Reached.{not_true}

-- ---- the walk of a key

at_key : (k : List ℕ) (t c : Tree) → IsCut c t → is_stub (end_at k c) ≡ false → IsCut (cut_at k t) c
unfolding IsCut
at_key k t Empty h n = subst (λ x. IsCut (cut_at k x) Empty) (sym h) refl
at_key k t (Leaf q w) h n = subst (λ x. IsCut (cut_at k x) (Leaf q w)) (sym h) refl
at_key k t (Stub root) h n = absurd cc
at_key k Empty (Inner i l r) h n = absurd h
at_key k (Leaf q w) (Inner i l r) h n = absurd h
at_key k (Stub root) (Inner i l r) h n = absurd h
at_key k (Inner j m s) (Inner i l r) h n =
    elim (key_bit k j) as (λ b. is_stub (cond b (end_at k r) (end_at k l)) ≡ false
    → IsCut (cond b (Inner j (Stub (root_of m)) (cut_at k s)) (Inner j (cut_at k m) (Stub (root_of s)))) (Inner i l r)) [
      | true ↦ λ e. (sym h.0, sym (root_of-cut l m h.1), at_key k s r h.2 e)
      | false ↦ λ e. (sym h.0, at_key k m l h.1 e, sym (root_of-cut r s h.2))
    ] (subst (λ x. is_stub (cond (key_bit k x) (end_at k r) (end_at k l)) ≡ false) h.0 n)

-- ---- the walk of a list

at_least : (t c : Tree) → IsCut c t → is_stub (least c) ≡ false → IsCut (cut_least t) c
unfolding IsCut
at_least t Empty h n = subst (λ x. IsCut (cut_least x) Empty) (sym h) refl
at_least t (Leaf q w) h n = subst (λ x. IsCut (cut_least x) (Leaf q w)) (sym h) refl
at_least t (Stub root) h n = absurd cc
at_least Empty (Inner i l r) h n = absurd h
at_least (Leaf q w) (Inner i l r) h n = absurd h
at_least (Stub root) (Inner i l r) h n = absurd h
at_least (Inner j m s) (Inner i l r) h n = (sym h.0, at_least m l h.1 n, sym (root_of-cut r s h.2))

-- what a list's walk shows below its node
abbrev shows : List ℕ → Tree → Bool
shows p b = cond (leaf_has_prefix p (least b)) (is_whole b) (not (is_stub (least b)))

least_shown : (p : List ℕ) (l : Tree) (w : Bool) → cond (leaf_has_prefix p l) w (not (is_stub l)) ≡ true → is_stub l ≡ false
least_shown p Empty w e = refl
least_shown p (Leaf k v) w e = refl
least_shown p (Inner i l r) w e = refl
least_shown p (Stub root) w e = absurd cc

at_node : (p : List ℕ) (i j : ℕ) (l r m s : Tree) → IsCut (Inner i l r) (Inner j m s) → shows p (Inner i l r) ≡ true
    → IsCut (cond (leaf_has_prefix p (least m)) (Inner j m s) (cut_least (Inner j m s))) (Inner i l r)
unfolding IsCut
at_node p i j l r m s h e =
    let n = least_shown p (least l) (is_whole l && is_whole r) e in
    let same = least-cut l m h.1 n in
    elim (leaf_has_prefix p (least l)) as (λ b. leaf_has_prefix p (least l) ≡ b → cond b (is_whole l && is_whole r) (not (is_stub (least l))) ≡ true
    → IsCut (cond (leaf_has_prefix p (least m)) (Inner j m s) (cut_least (Inner j m s))) (Inner i l r)) [
      | true ↦ λ a w.
          subst (λ b. IsCut (cond b (Inner j m s) (cut_least (Inner j m s))) (Inner i l r)) (sym (ap (leaf_has_prefix p) (sym same) ∙ a))
          (subst (λ x. IsCut (Inner j m s) x) (sym (whole-cut (Inner i l r) (Inner j m s) h w)) (cut_itself (Inner j m s)))
      | false ↦ λ a w.
          subst (λ b. IsCut (cond b (Inner j m s) (cut_least (Inner j m s))) (Inner i l r)) (sym (ap (leaf_has_prefix p) (sym same) ∙ a))
          (sym h.0, at_least m l h.1 n, sym (root_of-cut r s h.2))
    ] refl e

at_prefix : (p : List ℕ) (t c : Tree) → IsCut c t → shows p (below p c) ≡ true → IsCut (cut_below p t) c
unfolding IsCut
at_prefix p t Empty h e = subst (λ x. IsCut (cut_below p x) Empty) (sym h) refl
at_prefix p t (Leaf q w) h e = subst (λ x. IsCut (cut_below p x) (Leaf q w)) (sym h) refl
at_prefix p t (Stub root) h e = absurd cc
at_prefix p Empty (Inner i l r) h e = absurd h
at_prefix p (Leaf q w) (Inner i l r) h e = absurd h
at_prefix p (Stub root) (Inner i l r) h e = absurd h
at_prefix p (Inner j m s) (Inner i l r) h e =
    elim (nat_lt j (9 * length p)) as (λ b. shows p (cond b (cond (key_bit p j) (below p r) (below p l)) (Inner i l r)) ≡ true
    → IsCut (cond b (cond (key_bit p j) (Inner j (Stub (root_of m)) (cut_below p s)) (Inner j (cut_below p m) (Stub (root_of s))))
    (cond (leaf_has_prefix p (least m)) (Inner j m s) (cut_least (Inner j m s)))) (Inner i l r)) [
      | true ↦ λ g.
          elim (key_bit p j) as (λ b. shows p (cond b (below p r) (below p l)) ≡ true
          → IsCut (cond b (Inner j (Stub (root_of m)) (cut_below p s)) (Inner j (cut_below p m) (Stub (root_of s)))) (Inner i l r)) [
            | true ↦ λ f. (sym h.0, sym (root_of-cut l m h.1), at_prefix p s r h.2 f)
            | false ↦ λ f. (sym h.0, at_prefix p m l h.1 f, sym (root_of-cut r s h.2))
          ] g
      | false ↦ λ g. at_node p i j l r m s h g
    ] (subst (λ x. shows p (cond (nat_lt x (9 * length p)) (cond (key_bit p x) (below p r) (below p l)) (Inner i l r)) ≡ true) h.0 e)

pub cut_for-least : (t c : Tree) (o : Op) → IsCut c t → reaches c o ≡ true → IsCut (cut_for t o) c
cut_for-least t c (op.Put k v) h e = at_key k t c h (not_true _ e)
cut_for-least t c (op.Get k) h e = at_key k t c h (not_true _ e)
cut_for-least t c (op.Del k) h e = at_key k t c h (not_true _ e)
cut_for-least t c (op.List p) h e = at_prefix p t c h e
