-- What a cut shows of the whole tree.
use Rattle.std.proofs.Common.{◌≡◌, ℕ, ◌*◌, true, false, cond, List, length, refl, sym, ap, subst, ◌∙◌, ltb}
use Rattle.std.proofs.lemmas.Bool.{and_parts}
use Rattle.std.specs.Str.{bytes_eq}
use Rattle.vic_wire.specs.Bits.{key_bit, shared_bits}
use Rattle.vic_wire.specs.Hashes.{hash}
use Rattle.vic_wire.specs.Texts.{inner_text}
use Rattle.vic_wire.specs.Trees.{Tree, Empty, Leaf, Inner, Stub, root_of}
use Rattle.vic_wire.specs.Cuts.{IsCut}
use Rattle.vic_wire.specs.Walks.{end_at, is_stub, below, least, is_whole, tree_with_value, fork_of, tree_with_fork, put_beside, put_in, is_gone, tree_of_sides, del_in}
use Rattle.vic_tree.specs.Grown.{IsGrown, IsTree}
use Rattle.vic_tree.proofs.Found.{grown_left, grown_right}
use Rattle.vic_tree.proofs.Deleted.{tree_of_grown}

cross : true ≡ false → ⊥
cross e = cc

pub root_of-cut : (c t : Tree) → IsCut c t → root_of c ≡ root_of t
unfolding IsCut
root_of-cut Empty t h = ap root_of (sym h)
root_of-cut (Leaf k v) t h = ap root_of (sym h)
root_of-cut (Stub root) t h = h
root_of-cut (Inner i l r) Empty h = absurd h
root_of-cut (Inner i l r) (Leaf k v) h = absurd h
root_of-cut (Inner i l r) (Stub root) h = absurd h
root_of-cut (Inner i l r) (Inner j m s) h = λ x. hash (inner_text (h.0 x) (root_of-cut l m h.1 x) (root_of-cut r s h.2 x))

pub cut_itself : (t : Tree) → IsCut t t
unfolding IsCut
cut_itself Empty = refl
cut_itself (Leaf k v) = refl
cut_itself (Inner i l r) = (refl, cut_itself l, cut_itself r)
cut_itself (Stub root) = refl

pub cut_stub : (t : Tree) → IsCut (Stub (root_of t)) t
unfolding IsCut
cut_stub t = refl

pub make_cut : (i : ℕ) (l r m s : Tree) → IsCut l m → IsCut r s → IsCut (Inner i l r) (Inner i m s)
unfolding IsCut
make_cut i l r m s a b = (refl, a, b)

-- ---- the walk of a key

pub end_at-cut : (k : List ℕ) (c t : Tree) → IsCut c t → is_stub (end_at k c) ≡ false → end_at k c ≡ end_at k t
unfolding IsCut
end_at-cut k Empty t h n = ap (end_at k) (sym h)
end_at-cut k (Leaf q w) t h n = ap (end_at k) (sym h)
end_at-cut k (Stub root) t h n = absurd (cross n)
end_at-cut k (Inner i l r) Empty h n = absurd h
end_at-cut k (Inner i l r) (Leaf q w) h n = absurd h
end_at-cut k (Inner i l r) (Stub root) h n = absurd h
end_at-cut k (Inner i l r) (Inner j m s) h n =
    (elim (key_bit k i) as (λ b. is_stub (cond b (end_at k r) (end_at k l)) ≡ false → cond b (end_at k r) (end_at k l) ≡ cond b (end_at k s) (end_at k m)) [
      | true ↦ λ e. end_at-cut k r s h.2 e
      | false ↦ λ e. end_at-cut k l m h.1 e
    ]) n ∙ ap (λ x. cond (key_bit k x) (end_at k s) (end_at k m)) h.0

pub tree_with_value-cut : (k v : List ℕ) (c t : Tree) → IsCut c t → is_stub (end_at k c) ≡ false → IsCut (tree_with_value k v c) (tree_with_value k v t)
unfolding IsCut
tree_with_value-cut k v Empty t h n = ap (tree_with_value k v) h
tree_with_value-cut k v (Leaf q w) t h n = ap (tree_with_value k v) h
tree_with_value-cut k v (Stub root) t h n = absurd (cross n)
tree_with_value-cut k v (Inner i l r) Empty h n = absurd h
tree_with_value-cut k v (Inner i l r) (Leaf q w) h n = absurd h
tree_with_value-cut k v (Inner i l r) (Stub root) h n = absurd h
tree_with_value-cut k v (Inner i l r) (Inner j m s) h n =
    subst (λ x. IsCut (tree_with_value k v (Inner i l r)) (cond (key_bit k x) (Inner x m (tree_with_value k v s)) (Inner x (tree_with_value k v m) s))) h.0
    ((elim (key_bit k i) as (λ b. is_stub (cond b (end_at k r) (end_at k l)) ≡ false → IsCut (cond b (Inner i l (tree_with_value k v r)) (Inner i (tree_with_value k v l) r)) (cond b (Inner i m (tree_with_value k v s)) (Inner i (tree_with_value k v m) s))) [
      | true ↦ λ e. (refl, h.1, tree_with_value-cut k v r s h.2 e)
      | false ↦ λ e. (refl, tree_with_value-cut k v l m h.1 e, h.2)
    ]) n)

fork_of-cut : (i : ℕ) (k v : List ℕ) (c t : Tree) → IsCut c t → IsCut (fork_of i k v c) (fork_of i k v t)
unfolding IsCut
fork_of-cut i k v c t h = elim (key_bit k i) as (λ b. IsCut (cond b (Inner i c (Leaf k v)) (Inner i (Leaf k v) c)) (cond b (Inner i t (Leaf k v)) (Inner i (Leaf k v) t))) [ true ↦ (refl, h, refl) | false ↦ (refl, refl, h) ]

planted_here : (i : ℕ) (k v : List ℕ) (c t : Tree) → c ≡ t → IsCut (tree_with_fork i k v c) (tree_with_fork i k v t)
planted_here i k v c t e = subst (λ x. IsCut (tree_with_fork i k v c) (tree_with_fork i k v x)) e (cut_itself (tree_with_fork i k v c))

pub tree_with_fork-cut : (n : ℕ) (k v : List ℕ) (c t : Tree) → IsCut c t → is_stub (end_at k c) ≡ false → IsCut (tree_with_fork n k v c) (tree_with_fork n k v t)
unfolding IsCut
tree_with_fork-cut n k v Empty t h e = planted_here n k v Empty t (sym h)
tree_with_fork-cut n k v (Leaf q w) t h e = planted_here n k v (Leaf q w) t (sym h)
tree_with_fork-cut n k v (Stub root) t h e = absurd (cross e)
tree_with_fork-cut n k v (Inner i l r) Empty h e = absurd h
tree_with_fork-cut n k v (Inner i l r) (Leaf q w) h e = absurd h
tree_with_fork-cut n k v (Inner i l r) (Stub root) h e = absurd h
tree_with_fork-cut n k v (Inner i l r) (Inner j m s) h e =
    subst (λ x. IsCut (tree_with_fork n k v (Inner i l r)) (tree_with_fork n k v (Inner x m s))) h.0
    (elim (ltb i n) as (λ b. IsCut (cond b (cond (key_bit k i) (Inner i l (tree_with_fork n k v r)) (Inner i (tree_with_fork n k v l) r)) (fork_of n k v (Inner i l r))) (cond b (cond (key_bit k i) (Inner i m (tree_with_fork n k v s)) (Inner i (tree_with_fork n k v m) s)) (fork_of n k v (Inner i m s)))) [
      | true ↦ (elim (key_bit k i) as (λ b. is_stub (cond b (end_at k r) (end_at k l)) ≡ false → IsCut (cond b (Inner i l (tree_with_fork n k v r)) (Inner i (tree_with_fork n k v l) r)) (cond b (Inner i m (tree_with_fork n k v s)) (Inner i (tree_with_fork n k v m) s))) [
        | true ↦ λ q. (refl, h.1, tree_with_fork-cut n k v r s h.2 q)
        | false ↦ λ q. (refl, tree_with_fork-cut n k v l m h.1 q, h.2)
      ]) e
      | false ↦ fork_of-cut n k v (Inner i l r) (Inner i m s) (refl, h.1, h.2)
    ])

put_beside-cut : (k v : List ℕ) (e c t : Tree) → IsCut c t → is_stub (end_at k c) ≡ false → IsCut (put_beside e k v c) (put_beside e k v t)
put_beside-cut k v Empty c t h n = cut_itself (Leaf k v)
put_beside-cut k v (Leaf q w) c t h n =
    elim (bytes_eq q k) as (λ b. IsCut (cond b (tree_with_value k v c) (tree_with_fork (shared_bits k q) k v c)) (cond b (tree_with_value k v t) (tree_with_fork (shared_bits k q) k v t))) [
      | true ↦ tree_with_value-cut k v c t h n
      | false ↦ tree_with_fork-cut (shared_bits k q) k v c t h n
    ]
put_beside-cut k v (Inner i l r) c t h n = h
put_beside-cut k v (Stub root) c t h n = h

-- a put on a cut that reaches the key gives a cut of the put on the whole
pub put_in-cut : (k v : List ℕ) (c t : Tree) → IsCut c t → is_stub (end_at k c) ≡ false → IsCut (put_in k v c) (put_in k v t)
put_in-cut k v c t h n = subst (λ e. IsCut (put_in k v c) (put_beside e k v t)) (end_at-cut k c t h n) (put_beside-cut k v (end_at k c) c t h n)

-- ---- a del

cut_gone : (c t : Tree) → IsCut c t → is_gone t ≡ false → is_gone c ≡ false
unfolding IsCut
cut_gone Empty t h n = absurd (cross (ap is_gone (sym h) ∙ n))
cut_gone (Leaf k v) t h n = refl
cut_gone (Inner i l r) t h n = refl
cut_gone (Stub root) t h n = refl

pub grown_gone : (t : Tree) → IsGrown t → is_gone t ≡ false
unfolding IsGrown
grown_gone Empty g = absurd g
grown_gone (Leaf k v) g = refl
grown_gone (Inner i l r) g = refl
grown_gone (Stub root) g = refl

tree_of_sides-cut : (i : ℕ) (l m r s : Tree) → IsCut l m → IsCut r s → is_gone l ≡ is_gone m → is_gone r ≡ is_gone s → IsCut (tree_of_sides i l r) (tree_of_sides i m s)
unfolding IsCut
tree_of_sides-cut i l m r s a b e f =
    subst (λ x. IsCut (tree_of_sides i l r) (cond x s (cond (is_gone s) m (Inner i m s)))) e
    (subst (λ y. IsCut (tree_of_sides i l r) (cond (is_gone l) s (cond y m (Inner i m s)))) f
    (elim (is_gone l) as (λ x. IsCut (cond x r (cond (is_gone r) l (Inner i l r))) (cond x s (cond (is_gone r) m (Inner i m s)))) [
      | true ↦ b
      | false ↦ elim (is_gone r) as (λ y. IsCut (cond y l (Inner i l r)) (cond y m (Inner i m s))) [ true ↦ a | false ↦ (refl, a, b) ]
    ]))

joined_left_stays : (i : ℕ) (l r : Tree) → is_gone l ≡ false → is_gone (tree_of_sides i l r) ≡ false
joined_left_stays i l r e =
    ap (λ x. is_gone (cond x r (cond (is_gone r) l (Inner i l r)))) e
    ∙ elim (is_gone r) as (λ y. is_gone (cond y l (Inner i l r)) ≡ false) [ true ↦ e | false ↦ refl ]

joined_right_stays : (i : ℕ) (l r : Tree) → is_gone r ≡ false → is_gone (tree_of_sides i l r) ≡ false
joined_right_stays i l r e =
    elim (is_gone l) as (λ x. is_gone (cond x r (cond (is_gone r) l (Inner i l r))) ≡ false) [ true ↦ e | false ↦ ap (λ y. is_gone (cond y l (Inner i l r))) e ]

abbrev AlikeGone : Tree → Tree → Type 0
AlikeGone c t = IsCut c t × (is_gone c ≡ is_gone t)

alike_same : (c t : Tree) → c ≡ t → AlikeGone c t
alike_same c t e = subst (AlikeGone c) e (cut_itself c, refl)

del_right : (k : List ℕ) (i : ℕ) (l r m s : Tree) → IsCut l m → is_gone m ≡ false → AlikeGone (del_in k r) (del_in k s) → AlikeGone (tree_of_sides i l (del_in k r)) (tree_of_sides i m (del_in k s))
del_right k i l r m s a n d =
    let gone_l = cut_gone l m a n in
    (tree_of_sides-cut i l m (del_in k r) (del_in k s) a d.0 (gone_l ∙ sym n) d.1, joined_left_stays i l (del_in k r) gone_l ∙ sym (joined_left_stays i m (del_in k s) n))

del_left : (k : List ℕ) (i : ℕ) (l r m s : Tree) → IsCut r s → is_gone s ≡ false → AlikeGone (del_in k l) (del_in k m) → AlikeGone (tree_of_sides i (del_in k l) r) (tree_of_sides i (del_in k m) s)
del_left k i l r m s b n d =
    let gone_r = cut_gone r s b n in
    (tree_of_sides-cut i (del_in k l) (del_in k m) r s d.0 b d.1 (gone_r ∙ sym n), joined_right_stays i (del_in k l) r gone_r ∙ sym (joined_right_stays i (del_in k m) s n))

del_both : (k : List ℕ) (c t : Tree) → IsCut c t → IsTree t → is_stub (end_at k c) ≡ false → AlikeGone (del_in k c) (del_in k t)
unfolding IsCut
del_both k Empty t h g n = alike_same Empty (del_in k t) (ap (del_in k) (sym h))
del_both k (Leaf q w) t h g n = alike_same (del_in k (Leaf q w)) (del_in k t) (ap (del_in k) (sym h))
del_both k (Stub root) t h g n = absurd (cross n)
del_both k (Inner i l r) Empty h g n = absurd h
del_both k (Inner i l r) (Leaf q w) h g n = absurd h
del_both k (Inner i l r) (Stub root) h g n = absurd h
del_both k (Inner i l r) (Inner j m s) h g n =
    let gm = grown_left j m s g in let gs = grown_right j m s g in
    subst (λ x. AlikeGone (del_in k (Inner i l r)) (cond (key_bit k x) (tree_of_sides x m (del_in k s)) (tree_of_sides x (del_in k m) s))) h.0
    ((elim (key_bit k i) as (λ b. is_stub (cond b (end_at k r) (end_at k l)) ≡ false → AlikeGone (cond b (tree_of_sides i l (del_in k r)) (tree_of_sides i (del_in k l) r)) (cond b (tree_of_sides i m (del_in k s)) (tree_of_sides i (del_in k m) s))) [
      | true ↦ λ e. del_right k i l r m s h.1 (grown_gone m gm) (del_both k r s h.2 (tree_of_grown s gs) e)
      | false ↦ λ e. del_left k i l r m s h.2 (grown_gone s gs) (del_both k l m h.1 (tree_of_grown m gm) e)
    ]) n)

pub del_in-cut : (k : List ℕ) (c t : Tree) → IsCut c t → IsTree t → is_stub (end_at k c) ≡ false → IsCut (del_in k c) (del_in k t)
del_in-cut k c t h g n = (del_both k c t h g n).0

-- ---- a list

pub least-cut : (c t : Tree) → IsCut c t → is_stub (least c) ≡ false → least c ≡ least t
unfolding IsCut
least-cut Empty t h n = ap least (sym h)
least-cut (Leaf k v) t h n = ap least (sym h)
least-cut (Stub root) t h n = absurd (cross n)
least-cut (Inner i l r) Empty h n = absurd h
least-cut (Inner i l r) (Leaf k v) h n = absurd h
least-cut (Inner i l r) (Stub root) h n = absurd h
least-cut (Inner i l r) (Inner j m s) h n = least-cut l m h.1 n

pub whole-cut : (c t : Tree) → IsCut c t → is_whole c ≡ true → c ≡ t
unfolding IsCut
whole-cut Empty t h w = sym h
whole-cut (Leaf k v) t h w = sym h
whole-cut (Stub root) t h w = absurd (cross (sym w))
whole-cut (Inner i l r) Empty h w = absurd h
whole-cut (Inner i l r) (Leaf k v) h w = absurd h
whole-cut (Inner i l r) (Stub root) h w = absurd h
whole-cut (Inner i l r) (Inner j m s) h w = let p = and_parts _ _ w in λ x. Inner (h.0 x) (whole-cut l m h.1 p.0 x) (whole-cut r s h.2 p.1 x)

pub below-cut : (p : List ℕ) (c t : Tree) → IsCut c t → is_stub (least (below p c)) ≡ false → IsCut (below p c) (below p t)
unfolding IsCut
below-cut p Empty t h n = ap (below p) h
below-cut p (Leaf k v) t h n = ap (below p) h
below-cut p (Stub root) t h n = absurd (cross n)
below-cut p (Inner i l r) Empty h n = absurd h
below-cut p (Inner i l r) (Leaf k v) h n = absurd h
below-cut p (Inner i l r) (Stub root) h n = absurd h
below-cut p (Inner i l r) (Inner j m s) h n =
    subst (λ x. IsCut (below p (Inner i l r)) (below p (Inner x m s))) h.0
    ((elim (ltb i (9 * length p)) as (λ b. is_stub (least (cond b (cond (key_bit p i) (below p r) (below p l)) (Inner i l r))) ≡ false → IsCut (cond b (cond (key_bit p i) (below p r) (below p l)) (Inner i l r)) (cond b (cond (key_bit p i) (below p s) (below p m)) (Inner i m s))) [
      | true ↦ elim (key_bit p i) as (λ b. is_stub (least (cond b (below p r) (below p l))) ≡ false → IsCut (cond b (below p r) (below p l)) (cond b (below p s) (below p m))) [
        | true ↦ λ e. below-cut p r s h.2 e
        | false ↦ λ e. below-cut p l m h.1 e
      ]
      | false ↦ λ e. (refl, h.1, h.2)
    ]) n)
