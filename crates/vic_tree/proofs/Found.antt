-- What the walk of a key finds, and what a put leaves.
use Rattle.std.proofs.Common.{◌≡◌, ℕ, suc, ◌<◌, ◌≤◌, Bool, true, false, cond, List, [], ◌∷◌, ◌++◌, Option, Some, None, refl, sym, ap, subst, ◌∙◌, arith, inl, inr, ◌⊎◌, ltb}
use Rattle.std.proofs.lemmas.Bool.{ltb-true, ltb-false}
use Rattle.std.proofs.lemmas.Slice.Eq.{bytes_eq-Decides}
use Rattle.std.specs.Str.{bytes_eq}
use Rattle.std.specs.Ordering.{eq_by_cmp}
use Rattle.vic_wire.specs.Bits.{key_bit, shared_bits}
use Rattle.vic_dict.specs.Lists.{AreBytes}
use Rattle.vic_tree.specs.Grown.{AgreeBelow, PartsAt, HasKey, IsGrown, IsTree}
use Rattle.vic_wire.specs.Trees.{Tree, Empty, Leaf, Inner, Stub, Pair, pairs_of}
use Rattle.vic_wire.specs.Walks.{end_at, tree_with_value, fork_of, tree_with_fork, put_beside, put_in}
use Rattle.vic_tree.specs.Shown.{value_at}
use Rattle.vic_tree.proofs.KeyOrder.{parts}
use Rattle.vic_tree.proofs.Lists.{key_cmp, found, or_else, or_else-none, found-append, found-none, same_key, key_same, key_other, HasKey-left, HasKey-right, HasKey-cases}
use Rattle.vic_tree.proofs.Grown.{agree-sym, agree-trans, agree-less, grown_bytes, left_bit, right_bit, grown_agree, append_nil}

cross : true ≡ false → ⊥
cross e = cc

-- a key with the right side's bit is none of the left side, and the other way round
pub not_left : (i : ℕ) (l r : Tree) (k : List ℕ) → IsGrown (Inner i l r) → key_bit k i ≡ true → HasKey (pairs_of l) k → ⊥
not_left i l r k g e h = cross (sym e ∙ left_bit i l r g k h)

pub not_right : (i : ℕ) (l r : Tree) (k : List ℕ) → IsGrown (Inner i l r) → key_bit k i ≡ false → HasKey (pairs_of r) k → ⊥
not_right i l r k g e h = cross (sym (right_bit i l r g k h) ∙ e)

pub grown_left : (i : ℕ) (l r : Tree) → IsGrown (Inner i l r) → IsGrown l
unfolding IsGrown
grown_left i l r g = g.0

pub grown_right : (i : ℕ) (l r : Tree) → IsGrown (Inner i l r) → IsGrown r
unfolding IsGrown
grown_right i l r g = g.1

pub grown_parts : (i : ℕ) (l r : Tree) → IsGrown (Inner i l r) → (a b : List ℕ) → HasKey (pairs_of l) a → HasKey (pairs_of r) b → PartsAt i a b
unfolding IsGrown
grown_parts i l r g = g.2

pub make_grown : (i : ℕ) (l r : Tree) → IsGrown l → IsGrown r → ((a b : List ℕ) → HasKey (pairs_of l) a → HasKey (pairs_of r) b → PartsAt i a b) → IsGrown (Inner i l r)
unfolding IsGrown
make_grown i l r g h p = (g, h, p)

-- ---- the leaf at the walk's end

pub bytes_eq-key : (q k : List ℕ) → bytes_eq q k ≡ eq_by_cmp key_cmp k q
bytes_eq-key q k = by (bytes_eq q k) refl
  where
    by : (t : Bool) → bytes_eq q k ≡ t → bytes_eq q k ≡ eq_by_cmp key_cmp k q
    by true e = e ∙ sym (ap (λ x. eq_by_cmp key_cmp k x) ((bytes_eq-Decides q k).0 e) ∙ key_same k)
    by false e = e ∙ sym (key_other k q (λ s. cross (sym ((bytes_eq-Decides q k).1 (sym s)) ∙ e)))

pub or_else-right : (k : List ℕ) (ps qs : List Pair) → (HasKey ps k → ⊥) → or_else (found k ps) (found k qs) ≡ found k qs
or_else-right k ps qs absent = ap (λ o. or_else o (found k qs)) (found-none k ps absent)

pub or_else-left : (k : List ℕ) (ps qs : List Pair) → (HasKey qs k → ⊥) → or_else (found k ps) (found k qs) ≡ found k ps
or_else-left k ps qs absent = ap (or_else (found k ps)) (found-none k qs absent) ∙ or_else-none (found k ps)

-- in a grown tree the walk finds what the pairs have
pub found-end_at : (k : List ℕ) (t : Tree) → IsGrown t → found k (pairs_of t) ≡ value_at k (end_at k t)
found-end_at k Empty g = refl
found-end_at k (Leaf q w) g = ap (λ b. cond b (Some w) None) (sym (bytes_eq-key q k))
found-end_at k (Stub root) g = refl
found-end_at k (Inner i l r) g =
    found-append k (pairs_of l) (pairs_of r)
    ∙ elim (key_bit k i) as (λ b. key_bit k i ≡ b → or_else (found k (pairs_of l)) (found k (pairs_of r)) ≡ value_at k (cond b (end_at k r) (end_at k l))) [
      | true ↦ λ e. or_else-right k (pairs_of l) (pairs_of r) (not_left i l r k g e) ∙ found-end_at k r (grown_right i l r g)
      | false ↦ λ e. or_else-left k (pairs_of l) (pairs_of r) (not_right i l r k g e) ∙ found-end_at k l (grown_left i l r g)
    ] refl

-- the walk ends at a leaf of the tree
pub record EndsAt (k : List ℕ) (t : Tree) : Type 0 where
  pub key : List ℕ
  pub value : List ℕ
  pub is : end_at k t ≡ Leaf key value
  pub has : HasKey (pairs_of t) key

pub ends_at : (k : List ℕ) (t : Tree) → IsGrown t → EndsAt k t
unfolding IsGrown
ends_at k Empty g = absurd g
ends_at k (Leaf q w) g = record { key = q; value = w; is = refl; has = inl refl }
ends_at k (Stub root) g = absurd g
ends_at k (Inner i l r) g =
    elim (key_bit k i) as (λ b. key_bit k i ≡ b → EndsAt k (Inner i l r)) [
      | true ↦ λ e. let s = ends_at k r g.1 in record { key = s.key; value = s.value; is = ap (λ b. cond b (end_at k r) (end_at k l)) e ∙ s.is; has = HasKey-right (pairs_of l) (pairs_of r) s.key s.has }
      | false ↦ λ e. let s = ends_at k l g.0 in record { key = s.key; value = s.value; is = ap (λ b. cond b (end_at k r) (end_at k l)) e ∙ s.is; has = HasKey-left (pairs_of l) (pairs_of r) s.key s.has }
    ] refl

-- ---- a pair more, on one side

abbrev pub with_pair : List ℕ → List ℕ → List ℕ → Option (List ℕ) → Option (List ℕ)
with_pair z k v o = cond (eq_by_cmp key_cmp z k) (Some v) o

pub more_right : (z k v : List ℕ) (ls rs new : List Pair) → (HasKey ls k → ⊥) → found z new ≡ with_pair z k v (found z rs) → found z (ls ++ new) ≡ with_pair z k v (found z (ls ++ rs))
more_right z k v ls rs new absent e =
    found-append z ls new ∙ ap (or_else (found z ls)) e
    ∙ elim (eq_by_cmp key_cmp z k) as (λ b. eq_by_cmp key_cmp z k ≡ b → or_else (found z ls) (cond b (Some v) (found z rs)) ≡ cond b (Some v) (or_else (found z ls) (found z rs))) [
      | true ↦ λ t. ap (λ o. or_else o (Some v)) (found-none z ls (λ h. absent (subst (HasKey ls) (same_key z k t) h)))
      | false ↦ λ t. refl
    ] refl
    ∙ ap (with_pair z k v) (sym (found-append z ls rs))

pub more_left : (z k v : List ℕ) (ls rs new : List Pair) → found z new ≡ with_pair z k v (found z ls) → found z (new ++ rs) ≡ with_pair z k v (found z (ls ++ rs))
more_left z k v ls rs new e =
    found-append z new rs ∙ ap (λ o. or_else o (found z rs)) e
    ∙ elim (eq_by_cmp key_cmp z k) as (λ b. or_else (cond b (Some v) (found z ls)) (found z rs) ≡ cond b (Some v) (or_else (found z ls) (found z rs))) [ true ↦ refl | false ↦ refl ]
    ∙ ap (with_pair z k v) (sym (found-append z ls rs))

-- ---- a fork with a new leaf

pub found-fork_of : (n : ℕ) (k v : List ℕ) (t : Tree) → (HasKey (pairs_of t) k → ⊥) → (z : List ℕ) → found z (pairs_of (fork_of n k v t)) ≡ with_pair z k v (found z (pairs_of t))
found-fork_of n k v t absent z =
    elim (key_bit k n) as (λ b. found z (pairs_of (cond b (Inner n t (Leaf k v)) (Inner n (Leaf k v) t))) ≡ with_pair z k v (found z (pairs_of t))) [
      | true ↦ more_right z k v (pairs_of t) [] ((k, v) ∷ []) absent refl ∙ ap (λ ps. with_pair z k v (found z ps)) (append_nil (pairs_of t))
      | false ↦ refl
    ]

pub HasKey-fork_of : (n : ℕ) (k v : List ℕ) (t : Tree) (a : List ℕ) → HasKey (pairs_of (fork_of n k v t)) a → (k ≡ a) ⊎ HasKey (pairs_of t) a
HasKey-fork_of n k v t a =
    elim (key_bit k n) as (λ b. HasKey (pairs_of (cond b (Inner n t (Leaf k v)) (Inner n (Leaf k v) t))) a → (k ≡ a) ⊎ HasKey (pairs_of t) a) [
      | true ↦ λ h. elim (HasKey-cases (pairs_of t) ((k, v) ∷ []) a h) [ inl x ↦ inr x | inr y ↦ elim y [ inl e ↦ inl e | inr z ↦ absurd z ] ]
      | false ↦ λ h. elim h [ inl e ↦ inl e | inr x ↦ inr x ]
    ]

-- the key parts from every key of the tree at the index
pub grown_forked : (n : ℕ) (k v : List ℕ) (t : Tree) → IsGrown t → AreBytes k → ((a : List ℕ) → HasKey (pairs_of t) a → PartsAt n k a ⊎ PartsAt n a k) → IsGrown (fork_of n k v t)
unfolding IsGrown
grown_forked n k v t g bytes apart =
    elim (key_bit k n) as (λ b. key_bit k n ≡ b → IsGrown (cond b (Inner n t (Leaf k v)) (Inner n (Leaf k v) t))) [
      | true ↦ λ e. (g, bytes, λ a b ha hb. elim hb [ inl q ↦ subst (PartsAt n a) q (one_way n k a e (apart a ha)) | inr x ↦ absurd x ])
      | false ↦ λ e. (bytes, g, λ a b ha hb. elim ha [ inl q ↦ subst (λ x. PartsAt n x b) q (other_way n k b e (apart b hb)) | inr x ↦ absurd x ])
    ] refl
  where
    one_way : (n : ℕ) (k a : List ℕ) → key_bit k n ≡ true → PartsAt n k a ⊎ PartsAt n a k → PartsAt n a k
    one_way n k a e (inl p) = absurd (cross (sym e ∙ p.left))
    one_way n k a e (inr p) = p

    other_way : (n : ℕ) (k b : List ℕ) → key_bit k n ≡ false → PartsAt n k b ⊎ PartsAt n b k → PartsAt n k b
    other_way n k b e (inl p) = p
    other_way n k b e (inr p) = absurd (cross (sym p.right ∙ e))

-- ---- a leaf planted

pub found-tree_with_fork : (n : ℕ) (k v : List ℕ) (t : Tree) → IsGrown t → (HasKey (pairs_of t) k → ⊥) → (z : List ℕ) → found z (pairs_of (tree_with_fork n k v t)) ≡ with_pair z k v (found z (pairs_of t))
found-tree_with_fork n k v Empty g absent z = found-fork_of n k v Empty absent z
found-tree_with_fork n k v (Leaf q w) g absent z = found-fork_of n k v (Leaf q w) absent z
found-tree_with_fork n k v (Stub root) g absent z = found-fork_of n k v (Stub root) absent z
found-tree_with_fork n k v (Inner j l r) g absent z =
    elim (ltb j n) as (λ b. found z (pairs_of (cond b (cond (key_bit k j) (Inner j l (tree_with_fork n k v r)) (Inner j (tree_with_fork n k v l) r)) (fork_of n k v (Inner j l r)))) ≡ with_pair z k v (found z (pairs_of l ++ pairs_of r))) [
      | true ↦ elim (key_bit k j) as (λ b. found z (pairs_of (cond b (Inner j l (tree_with_fork n k v r)) (Inner j (tree_with_fork n k v l) r))) ≡ with_pair z k v (found z (pairs_of l ++ pairs_of r))) [
        | true ↦ more_right z k v (pairs_of l) (pairs_of r) (pairs_of (tree_with_fork n k v r)) (λ h. absent (HasKey-left (pairs_of l) (pairs_of r) k h)) (found-tree_with_fork n k v r (grown_right j l r g) (λ h. absent (HasKey-right (pairs_of l) (pairs_of r) k h)) z)
        | false ↦ more_left z k v (pairs_of l) (pairs_of r) (pairs_of (tree_with_fork n k v l)) (found-tree_with_fork n k v l (grown_left j l r g) (λ h. absent (HasKey-left (pairs_of l) (pairs_of r) k h)) z)
      ]
      | false ↦ found-fork_of n k v (Inner j l r) absent z
    ]

pub HasKey-tree_with_fork : (n : ℕ) (k v : List ℕ) (t : Tree) (a : List ℕ) → HasKey (pairs_of (tree_with_fork n k v t)) a → (k ≡ a) ⊎ HasKey (pairs_of t) a
HasKey-tree_with_fork n k v Empty a = HasKey-fork_of n k v Empty a
HasKey-tree_with_fork n k v (Leaf q w) a = HasKey-fork_of n k v (Leaf q w) a
HasKey-tree_with_fork n k v (Stub root) a = HasKey-fork_of n k v (Stub root) a
HasKey-tree_with_fork n k v (Inner j l r) a =
    elim (ltb j n) as (λ b. HasKey (pairs_of (cond b (cond (key_bit k j) (Inner j l (tree_with_fork n k v r)) (Inner j (tree_with_fork n k v l) r)) (fork_of n k v (Inner j l r)))) a → (k ≡ a) ⊎ HasKey (pairs_of l ++ pairs_of r) a) [
      | true ↦ elim (key_bit k j) as (λ b. HasKey (pairs_of (cond b (Inner j l (tree_with_fork n k v r)) (Inner j (tree_with_fork n k v l) r))) a → (k ≡ a) ⊎ HasKey (pairs_of l ++ pairs_of r) a) [
        | true ↦ λ h. elim (HasKey-cases (pairs_of l) (pairs_of (tree_with_fork n k v r)) a h) [
          | inl x ↦ inr (HasKey-left (pairs_of l) (pairs_of r) a x)
          | inr y ↦ elim (HasKey-tree_with_fork n k v r a y) [ inl e ↦ inl e | inr x ↦ inr (HasKey-right (pairs_of l) (pairs_of r) a x) ]
        ]
        | false ↦ λ h. elim (HasKey-cases (pairs_of (tree_with_fork n k v l)) (pairs_of r) a h) [
          | inr x ↦ inr (HasKey-right (pairs_of l) (pairs_of r) a x)
          | inl y ↦ elim (HasKey-tree_with_fork n k v l a y) [ inl e ↦ inl e | inr x ↦ inr (HasKey-left (pairs_of l) (pairs_of r) a x) ]
        ]
      ]
      | false ↦ HasKey-fork_of n k v (Inner j l r) a
    ]

-- k and q part at n, on one side or the other
abbrev pub Apart : ℕ → List ℕ → List ℕ → Type 0
Apart n k q = PartsAt n k q ⊎ PartsAt n q k

apart_agree : (n : ℕ) (k q : List ℕ) → Apart n k q → AgreeBelow n k q
apart_agree n k q (inl p) = p.same
apart_agree n k q (inr p) = agree-sym n q k p.same

-- what agrees with q up to n parts from k as q does
apart_like : (n : ℕ) (k q a : List ℕ) → AgreeBelow (suc n) q a → Apart n k q → Apart n k a
apart_like n k q a s (inl p) = inl (record { same = agree-trans n k q a p.same (agree-less n (suc n) q a (omega arith) s); left = p.left; right = sym (s n (omega arith)) ∙ p.right })
apart_like n k q a s (inr p) = inr (record { same = agree-trans n a q k (agree-sym n q a (agree-less n (suc n) q a (omega arith) s)) p.same; left = sym (s n (omega arith)) ∙ p.left; right = p.right })

no_apart : (n : ℕ) (k q : List ℕ) → key_bit k n ≡ key_bit q n → Apart n k q → ⊥
no_apart n k q e (inl p) = cross (sym p.right ∙ sym e ∙ p.left)
no_apart n k q e (inr p) = cross (sym p.right ∙ e ∙ p.left)

-- in the planted side k goes as q went
side_parts_right : (n j : ℕ) (k q a : List ℕ) → j < n → AgreeBelow n k q → PartsAt j a q → PartsAt j a k
side_parts_right n j k q a h s p = record { same = agree-trans j a q k p.same (agree-less j n q k (omega arith) (agree-sym n k q s)); left = p.left; right = s j h ∙ p.right }

side_parts_left : (n j : ℕ) (k q b : List ℕ) → j < n → AgreeBelow n k q → PartsAt j q b → PartsAt j k b
side_parts_left n j k q b h s p = record { same = agree-trans j k q b (agree-less j n k q (omega arith) s) p.same; left = s j h ∙ p.left; right = p.right }

lt_or : (j n : ℕ) → n ≤ j → (j ≡ n → ⊥) → n < j
lt_or j n h ne = grind arith

lone_key : (x w a : List ℕ) → HasKey (pairs_of (Leaf x w)) a → x ≡ a
lone_key x w a (inl e) = e
lone_key x w a (inr h) = absurd h

module _ (n : ℕ) (k v q : List ℕ) (bytes : AreBytes k) (apart : Apart n k q) where
  -- k parts at n from every key below an Inner of a higher index
  fork_inner : (j : ℕ) (l r : Tree) → IsGrown (Inner j l r) → HasKey (pairs_of (Inner j l r)) q → key_bit k j ≡ key_bit q j → n ≤ j → IsGrown (fork_of n k v (Inner j l r))
  fork_inner j l r g has same h =
      let above : n < j = lt_or j n h (λ e. no_apart n k q (subst (λ m. key_bit k m ≡ key_bit q m) e same) apart) in
      grown_forked n k v (Inner j l r) g bytes (λ a ha. apart_like n k q a (agree-less (suc n) j q a (omega arith) (grown_agree j l r g q a has ha)) apart)

  pub grown_planted : (t : Tree) → IsGrown t → HasKey (pairs_of t) q → (w : List ℕ) → end_at k t ≡ Leaf q w → IsGrown (tree_with_fork n k v t)
  grown_planted Empty g has w e = absurd cc
  grown_planted (Stub root) g has w e = absurd cc
  grown_planted (Leaf x w') g has w e =
      let t : x ≡ q = cc in grown_forked n k v (Leaf x w') g bytes (λ a ha. subst (Apart n k) (sym t ∙ lone_key x w' a ha) apart)
  grown_planted (Inner j l r) g has w e =
      elim (ltb j n) as (λ b. ltb j n ≡ b → IsGrown (cond b (cond (key_bit k j) (Inner j l (tree_with_fork n k v r)) (Inner j (tree_with_fork n k v l) r)) (fork_of n k v (Inner j l r)))) [
        | true ↦ λ lt. elim (key_bit k j) as (λ b. key_bit k j ≡ b → IsGrown (cond b (Inner j l (tree_with_fork n k v r)) (Inner j (tree_with_fork n k v l) r))) [
          | true ↦ λ t.
              let end : end_at k r ≡ Leaf q w = sym (ap (λ b. cond b (end_at k r) (end_at k l)) t) ∙ e in
              let in_r = has_right end in
              make_grown j l (tree_with_fork n k v r) (grown_left j l r g) (grown_planted r (grown_right j l r g) in_r w end)
              (λ a b ha hb. elim (HasKey-tree_with_fork n k v r b hb) [
                | inl s ↦ subst (PartsAt j a) s (side_parts_right n j k q a (ltb-true j n lt) (apart_agree n k q apart) (grown_parts j l r g a q ha in_r))
                | inr x ↦ grown_parts j l r g a b ha x
              ])
          | false ↦ λ t.
              let end : end_at k l ≡ Leaf q w = sym (ap (λ b. cond b (end_at k r) (end_at k l)) t) ∙ e in
              let in_l = has_left end in
              make_grown j (tree_with_fork n k v l) r (grown_planted l (grown_left j l r g) in_l w end) (grown_right j l r g)
              (λ a b ha hb. elim (HasKey-tree_with_fork n k v l a ha) [
                | inl s ↦ subst (λ x. PartsAt j x b) s (side_parts_left n j k q b (ltb-true j n lt) (apart_agree n k q apart) (grown_parts j l r g q b in_l hb))
                | inr x ↦ grown_parts j l r g a b x hb
              ])
        ] refl
        | false ↦ λ ge. fork_inner j l r g has (same_way (key_bit k j) refl) (ltb-false j n ge)
      ] refl
    where
      has_right : end_at k r ≡ Leaf q w → HasKey (pairs_of r) q
      has_right end = let s = ends_at k r (grown_right j l r g) in let same : s.key ≡ q = leaf_key s.key s.value q w (sym s.is ∙ end) in subst (HasKey (pairs_of r)) same s.has
        where
          leaf_key : (a b c d : List ℕ) → Leaf a b ≡ Leaf c d → a ≡ c
          leaf_key a b c d e = cc

      has_left : end_at k l ≡ Leaf q w → HasKey (pairs_of l) q
      has_left end = let s = ends_at k l (grown_left j l r g) in let same : s.key ≡ q = leaf_key s.key s.value q w (sym s.is ∙ end) in subst (HasKey (pairs_of l)) same s.has
        where
          leaf_key : (a b c d : List ℕ) → Leaf a b ≡ Leaf c d → a ≡ c
          leaf_key a b c d e = cc

      same_way : (b : Bool) → key_bit k j ≡ b → key_bit k j ≡ key_bit q j
      same_way true t = t ∙ sym (right_bit j l r g q (has_right (sym (ap (λ b. cond b (end_at k r) (end_at k l)) t) ∙ e)))
      same_way false t = t ∙ sym (left_bit j l r g q (has_left (sym (ap (λ b. cond b (end_at k r) (end_at k l)) t) ∙ e)))

-- ---- a new value at the key

pub found-tree_with_value : (k v w : List ℕ) (t : Tree) → IsGrown t → end_at k t ≡ Leaf k w → (z : List ℕ) → found z (pairs_of (tree_with_value k v t)) ≡ with_pair z k v (found z (pairs_of t))
found-tree_with_value k v w Empty g e z = absurd cc
found-tree_with_value k v w (Stub root) g e z = absurd cc
found-tree_with_value k v w (Leaf q u) g e z =
    let same : q ≡ k = cc in
    elim (eq_by_cmp key_cmp z k) as (λ b. eq_by_cmp key_cmp z k ≡ b → cond b (Some v) None ≡ cond b (Some v) (cond (eq_by_cmp key_cmp z q) (Some u) None)) [
      | true ↦ λ t. refl
      | false ↦ λ t. sym (ap (λ b. cond b (Some u) None) (ap (eq_by_cmp key_cmp z) same ∙ t))
    ] refl
found-tree_with_value k v w (Inner j l r) g e z =
    elim (key_bit k j) as (λ b. key_bit k j ≡ b → found z (pairs_of (cond b (Inner j l (tree_with_value k v r)) (Inner j (tree_with_value k v l) r))) ≡ with_pair z k v (found z (pairs_of l ++ pairs_of r))) [
      | true ↦ λ t. more_right z k v (pairs_of l) (pairs_of r) (pairs_of (tree_with_value k v r)) (not_left j l r k g t) (found-tree_with_value k v w r (grown_right j l r g) (sym (ap (λ b. cond b (end_at k r) (end_at k l)) t) ∙ e) z)
      | false ↦ λ t. more_left z k v (pairs_of l) (pairs_of r) (pairs_of (tree_with_value k v l)) (found-tree_with_value k v w l (grown_left j l r g) (sym (ap (λ b. cond b (end_at k r) (end_at k l)) t) ∙ e) z)
    ] refl

pub HasKey-tree_with_value : (k v w : List ℕ) (t : Tree) → end_at k t ≡ Leaf k w → (a : List ℕ) → HasKey (pairs_of (tree_with_value k v t)) a → HasKey (pairs_of t) a
HasKey-tree_with_value k v w Empty e a h = h
HasKey-tree_with_value k v w (Stub root) e a h = h
HasKey-tree_with_value k v w (Leaf q u) e a (inl s) = let same : q ≡ k = cc in inl (same ∙ s)
HasKey-tree_with_value k v w (Leaf q u) e a (inr h) = absurd h
HasKey-tree_with_value k v w (Inner j l r) e a h =
    (elim (key_bit k j) as (λ b. key_bit k j ≡ b → HasKey (pairs_of (cond b (Inner j l (tree_with_value k v r)) (Inner j (tree_with_value k v l) r))) a → HasKey (pairs_of l ++ pairs_of r) a) [
      | true ↦ λ t h. elim (HasKey-cases (pairs_of l) (pairs_of (tree_with_value k v r)) a h) [
        | inl x ↦ HasKey-left (pairs_of l) (pairs_of r) a x
        | inr y ↦ HasKey-right (pairs_of l) (pairs_of r) a (HasKey-tree_with_value k v w r (sym (ap (λ b. cond b (end_at k r) (end_at k l)) t) ∙ e) a y)
      ]
      | false ↦ λ t h. elim (HasKey-cases (pairs_of (tree_with_value k v l)) (pairs_of r) a h) [
        | inr x ↦ HasKey-right (pairs_of l) (pairs_of r) a x
        | inl y ↦ HasKey-left (pairs_of l) (pairs_of r) a (HasKey-tree_with_value k v w l (sym (ap (λ b. cond b (end_at k r) (end_at k l)) t) ∙ e) a y)
      ]
    ]) refl h

leaf_bytes : (k v q u : List ℕ) → IsGrown (Leaf q u) → q ≡ k → IsGrown (Leaf k v)
unfolding IsGrown
leaf_bytes k v q u g s = subst AreBytes s g

pub grown_revalued : (k v w : List ℕ) (t : Tree) → IsGrown t → end_at k t ≡ Leaf k w → IsGrown (tree_with_value k v t)
grown_revalued k v w Empty g e = absurd cc
grown_revalued k v w (Stub root) g e = absurd cc
grown_revalued k v w (Leaf q u) g e = leaf_bytes k v q u g cc
grown_revalued k v w (Inner j l r) g e =
    elim (key_bit k j) as (λ b. key_bit k j ≡ b → IsGrown (cond b (Inner j l (tree_with_value k v r)) (Inner j (tree_with_value k v l) r))) [
      | true ↦ λ t. let end = sym (ap (λ b. cond b (end_at k r) (end_at k l)) t) ∙ e in
          make_grown j l (tree_with_value k v r) (grown_left j l r g) (grown_revalued k v w r (grown_right j l r g) end) (λ a b ha hb. grown_parts j l r g a b ha (HasKey-tree_with_value k v w r end b hb))
      | false ↦ λ t. let end = sym (ap (λ b. cond b (end_at k r) (end_at k l)) t) ∙ e in
          make_grown j (tree_with_value k v l) r (grown_revalued k v w l (grown_left j l r g) end) (grown_right j l r g) (λ a b ha hb. grown_parts j l r g a b (HasKey-tree_with_value k v w l end a ha) hb)
    ] refl

-- ---- a put

-- a tree to which the pair was added, or whose pair was replaced
pub record IsPut (k v : List ℕ) (t new : Tree) : Type 0 where
  pub grown : IsGrown new
  pub finds : (z : List ℕ) → found z (pairs_of new) ≡ with_pair z k v (found z (pairs_of t))

not_some : (x : List ℕ) → ◌≡◌ {A = Option (List ℕ)} (Some x) None → ⊥
not_some x e = cc

pub has_found : (k : List ℕ) (ps : List Pair) → HasKey ps k → (v : List ℕ) × (found k ps ≡ Some v)
has_found k [] h = absurd h
has_found k (p ∷ ps) (inl e) = (p.1, ap (λ b. cond b (Some p.1) (found k ps)) (ap (eq_by_cmp key_cmp k) e ∙ key_same k))
has_found k (p ∷ ps) (inr h) =
    elim (eq_by_cmp key_cmp k p.0) as (λ b. (v : List ℕ) × (cond b (Some p.1) (found k ps) ≡ Some v)) [ true ↦ (p.1, refl) | false ↦ has_found k ps h ]

put_grown : (k v : List ℕ) (t : Tree) → IsGrown t → AreBytes k → IsPut k v t (put_in k v t)
put_grown k v t g bytes =
    let s = ends_at k t g in
    subst (λ x. IsPut k v t (put_beside x k v t)) (sym s.is) (by (bytes_eq s.key k) refl)
  where
    by : (b : Bool) → bytes_eq (ends_at k t g).key k ≡ b → IsPut k v t (cond b (tree_with_value k v t) (tree_with_fork (shared_bits k (ends_at k t g).key) k v t))
    by true e =
        let s = ends_at k t g in
        let same = (bytes_eq-Decides s.key k).0 e in
        let end = subst (λ q. end_at k t ≡ Leaf q s.value) same s.is in
        record { grown = grown_revalued k v s.value t g end; finds = found-tree_with_value k v s.value t g end }
    by false e =
        let s = ends_at k t g in
        let ne : s.key ≡ k → ⊥ = λ q. cross (sym ((bytes_eq-Decides s.key k).1 q) ∙ e) in
        elim (parts k s.key bytes (grown_bytes t g s.key s.has)) [
          | inl q ↦ absurd (ne (sym q))
          | inr a ↦ record {
            grown = grown_planted (shared_bits k s.key) k v s.key bytes a t g s.has s.value s.is;
            finds = found-tree_with_fork (shared_bits k s.key) k v t g (λ h. absent h);
          }
        ]
      where
        absent : HasKey (pairs_of t) k → ⊥
        absent h =
            let s = ends_at k t g in
            let f = found-end_at k t g ∙ ap (value_at k) s.is ∙ ap (λ b. cond b (Some s.value) None) e in
            let n = has_found k (pairs_of t) h in not_some n.0 (sym n.1 ∙ f)

first_put : (k v : List ℕ) → AreBytes k → IsPut k v Empty (put_in k v Empty)
unfolding IsGrown
first_put k v bytes = record { grown = bytes; finds = λ z. refl }

pub is_put : (k v : List ℕ) (t : Tree) → IsTree t → AreBytes k → IsPut k v t (put_in k v t)
is_put k v Empty g bytes = first_put k v bytes
is_put k v (Leaf q w) g bytes = put_grown k v (Leaf q w) g bytes
is_put k v (Inner i l r) g bytes = put_grown k v (Inner i l r) g bytes
is_put k v (Stub root) g bytes = absurd g
