-- Sums over the pairs of a tree, before and after a change.
use Rattle.std.proofs.Common.{◌≡◌, ℕ, ◌+◌, ◌≤◌, ◌*◌, true, false, cond, List, [], ◌∷◌, length, sum_by, refl, sym, ap, ◌∙◌, arith, ltb}
use Rattle.std.specs.Str.{bytes_eq}
use Rattle.std.proofs.lemmas.Slice.Eq.{bytes_eq-Decides}
use Rattle.std.proofs.lemmas.List.Sums.{sum_by-cons, sum_by-append, sum_by_push}
use Rattle.vic_wire.specs.Bits.{key_bit}
use Rattle.vic_wire.specs.Trees.{Tree, Empty, Leaf, Inner, Stub, Pair, pairs_of}
use Rattle.vic_wire.specs.Walks.{end_at, tree_with_value, fork_of, tree_with_fork, tree_of_sides, del_in}
use Rattle.vic_tree.proofs.Deleted.{pairs_of-tree_of_sides}

pub length_by_sum : (ps : List Pair) → length ps ≡ sum_by (λ p. 1) ps
length_by_sum [] = refl
length_by_sum (p ∷ ps) = omega (arith, length_by_sum ps, sum_by-cons (λ (x : Pair). 1) p ps)

module _ (f : Pair → ℕ) where
  abbrev pub total : Tree → ℕ
  total t = sum_by f (pairs_of t)

  pub total-fork_of : (n : ℕ) (k v : List ℕ) (t : Tree) → total (fork_of n k v t) ≡ total t + f (k, v)
  total-fork_of n k v t = elim (key_bit k n) as (λ b. total (cond b (Inner n t (Leaf k v)) (Inner n (Leaf k v) t)) ≡ total t + f (k, v)) [
    | true ↦ sum_by_push f (pairs_of t) (k, v)
    | false ↦ omega (arith, sum_by-cons f (k, v) (pairs_of t))
  ]

  pub total-tree_with_fork : (n : ℕ) (k v : List ℕ) (t : Tree) → total (tree_with_fork n k v t) ≡ total t + f (k, v)
  total-tree_with_fork n k v Empty = total-fork_of n k v Empty
  total-tree_with_fork n k v (Leaf q w) = total-fork_of n k v (Leaf q w)
  total-tree_with_fork n k v (Stub root) = total-fork_of n k v (Stub root)
  total-tree_with_fork n k v (Inner j l r) =
      elim (ltb j n) as (λ b. total (cond b (cond (key_bit k j) (Inner j l (tree_with_fork n k v r)) (Inner j (tree_with_fork n k v l) r)) (fork_of n k v (Inner j l r))) ≡ total (Inner j l r) + f (k, v)) [
        | true ↦ elim (key_bit k j) as (λ b. total (cond b (Inner j l (tree_with_fork n k v r)) (Inner j (tree_with_fork n k v l) r)) ≡ total (Inner j l r) + f (k, v)) [
          | true ↦ omega (arith, sum_by-append f (pairs_of l) (pairs_of (tree_with_fork n k v r)), sum_by-append f (pairs_of l) (pairs_of r), total-tree_with_fork n k v r)
          | false ↦ omega (arith, sum_by-append f (pairs_of (tree_with_fork n k v l)) (pairs_of r), sum_by-append f (pairs_of l) (pairs_of r), total-tree_with_fork n k v l)
        ]
        | false ↦ total-fork_of n k v (Inner j l r)
      ]

  pub total-tree_with_value : (k v w : List ℕ) (t : Tree) → end_at k t ≡ Leaf k w → total (tree_with_value k v t) + f (k, w) ≡ total t + f (k, v)
  total-tree_with_value k v w Empty e = absurd cc
  total-tree_with_value k v w (Stub root) e = absurd cc
  total-tree_with_value k v w (Leaf q u) e =
      let a : q ≡ k = cc in let b : u ≡ w = cc in
      let g : f (q, u) ≡ f (k, w) = λ i. f (a i, b i) in omega (arith, g)
  total-tree_with_value k v w (Inner j l r) e =
      elim (key_bit k j) as (λ b. key_bit k j ≡ b → total (cond b (Inner j l (tree_with_value k v r)) (Inner j (tree_with_value k v l) r)) + f (k, w) ≡ total (Inner j l r) + f (k, v)) [
        | true ↦ λ t. omega (arith, sum_by-append f (pairs_of l) (pairs_of (tree_with_value k v r)), sum_by-append f (pairs_of l) (pairs_of r), total-tree_with_value k v w r (sym (ap (λ b. cond b (end_at k r) (end_at k l)) t) ∙ e))
        | false ↦ λ t. omega (arith, sum_by-append f (pairs_of (tree_with_value k v l)) (pairs_of r), sum_by-append f (pairs_of l) (pairs_of r), total-tree_with_value k v w l (sym (ap (λ b. cond b (end_at k r) (end_at k l)) t) ∙ e))
      ] refl

  pub total-del_in : (k w : List ℕ) (t : Tree) → end_at k t ≡ Leaf k w → total (del_in k t) + f (k, w) ≡ total t
  total-del_in k w Empty e = absurd cc
  total-del_in k w (Stub root) e = absurd cc
  total-del_in k w (Leaf q u) e =
      let a : q ≡ k = cc in let b : u ≡ w = cc in
      let g : f (q, u) ≡ f (k, w) = λ i. f (a i, b i) in
      let h : bytes_eq q k ≡ true = (bytes_eq-Decides q k).1 a in
      ap (λ t. total (cond t Empty (Leaf q u)) + f (k, w)) h ∙ omega (arith, g)
  total-del_in k w (Inner j l r) e =
      elim (key_bit k j) as (λ b. key_bit k j ≡ b → total (cond b (tree_of_sides j l (del_in k r)) (tree_of_sides j (del_in k l) r)) + f (k, w) ≡ total (Inner j l r)) [
        | true ↦ λ t. omega (arith, ap (sum_by f) (pairs_of-tree_of_sides j l (del_in k r)), sum_by-append f (pairs_of l) (pairs_of (del_in k r)), sum_by-append f (pairs_of l) (pairs_of r), total-del_in k w r (sym (ap (λ b. cond b (end_at k r) (end_at k l)) t) ∙ e))
        | false ↦ λ t. omega (arith, ap (sum_by f) (pairs_of-tree_of_sides j (del_in k l) r), sum_by-append f (pairs_of (del_in k l)) (pairs_of r), sum_by-append f (pairs_of l) (pairs_of r), total-del_in k w l (sym (ap (λ b. cond b (end_at k r) (end_at k l)) t) ∙ e))
      ] refl

-- each pair counts for so much at least
pub total_least : (f : Pair → ℕ) (c : ℕ) → ((p : Pair) → c ≤ f p) → (ps : List Pair) → c * length ps ≤ sum_by f ps
total_least f c h [] = omega arith
total_least f c h (p ∷ ps) = omega (arith, h p, total_least f c h ps, sum_by-cons f p ps)
