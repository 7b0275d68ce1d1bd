-- What the walk of a list finds.
use Rattle.std.proofs.Common.{◌≡◌, ℕ, ◌*◌, ◌<◌, Bool, true, false, cond, List, [], ◌∷◌, ◌++◌, length, map, refl, sym, ap, ◌∙◌, inl, inr, ltb}
use Rattle.std.proofs.lemmas.Bool.{ltb-true, ltb-false}
use Rattle.std.specs.Prelude.{nat_eq, filter}
use Rattle.std.specs.List.{starts_with}
use Rattle.vic_wire.specs.Bits.{key_bit}
use Rattle.vic_dict.specs.Lists.{AreBytes}
use Rattle.vic_tree.specs.Grown.{AgreeBelow, HasKey, IsGrown, IsTree}
use Rattle.vic_wire.specs.Trees.{Tree, Empty, Leaf, Inner, Stub, Pair, pairs_of}
use Rattle.vic_wire.specs.Walks.{below, least, leaf_has_prefix}
use Rattle.vic_tree.specs.Shown.{names_below, names_in}
use Rattle.vic_tree.proofs.KeyPrefixes.{prefix_agree, agree_prefix}
use Rattle.vic_tree.proofs.Lists.{HasKey-left}
use Rattle.vic_tree.proofs.Grown.{agree-trans, agree-less, grown_bytes, left_bit, right_bit, grown_agree}

cross : true ≡ false → ⊥
cross e = cc

-- the keys with the prefix
abbrev pub kept : List ℕ → List (List ℕ) → List (List ℕ)
kept p ks = filter (λ k. starts_with nat_eq k p) ks

abbrev pub keys_of : List Pair → List (List ℕ)
keys_of ps = map (λ e. e.0) ps

pub keys_of-append : (ps qs : List Pair) → keys_of (ps ++ qs) ≡ keys_of ps ++ keys_of qs
keys_of-append [] qs = refl
keys_of-append (p ∷ ps) qs = ap (λ ks. p.0 ∷ ks) (keys_of-append ps qs)

kept-append : (p : List ℕ) (ks ls : List (List ℕ)) → kept p (ks ++ ls) ≡ kept p ks ++ kept p ls
kept-append p [] ls = refl
kept-append p (k ∷ ks) ls =
    elim (starts_with nat_eq k p) as (λ t. cond t (k ∷ kept p (ks ++ ls)) (kept p (ks ++ ls)) ≡ cond t (k ∷ kept p ks) (kept p ks) ++ kept p ls) [
      | true ↦ ap (λ xs. k ∷ xs) (kept-append p ks ls)
      | false ↦ kept-append p ks ls
    ]

pub kept-all : (p : List ℕ) (ps : List Pair) → ((k : List ℕ) → HasKey ps k → starts_with nat_eq k p ≡ true) → kept p (keys_of ps) ≡ keys_of ps
kept-all p [] h = refl
kept-all p (e ∷ ps) h = ap (λ t. cond t (e.0 ∷ kept p (keys_of ps)) (kept p (keys_of ps))) (h e.0 (inl refl)) ∙ ap (λ xs. e.0 ∷ xs) (kept-all p ps (λ k g. h k (inr g)))

kept-none : (p : List ℕ) (ps : List Pair) → ((k : List ℕ) → HasKey ps k → starts_with nat_eq k p ≡ false) → kept p (keys_of ps) ≡ []
kept-none p [] h = refl
kept-none p (e ∷ ps) h = ap (λ t. cond t (e.0 ∷ kept p (keys_of ps)) (kept p (keys_of ps))) (h e.0 (inl refl)) ∙ kept-none p ps (λ k g. h k (inr g))

is_false : (b : Bool) → (b ≡ true → ⊥) → b ≡ false
is_false true h = absurd (h refl)
is_false false h = refl

-- a key of another bit hasn't the prefix
other_bit : (p k : List ℕ) (i : ℕ) → i < 9 * length p → (key_bit p i ≡ key_bit k i → ⊥) → starts_with nat_eq k p ≡ false
other_bit p k i h ne = is_false _ (λ e. ne (prefix_agree p k e i h))

kept_right : (p : List ℕ) (i : ℕ) (l r : Tree) → IsGrown (Inner i l r) → i < 9 * length p → key_bit p i ≡ true → kept p (keys_of (pairs_of l ++ pairs_of r)) ≡ kept p (keys_of (pairs_of r))
kept_right p i l r g h e =
    ap (kept p) (keys_of-append (pairs_of l) (pairs_of r)) ∙ kept-append p (keys_of (pairs_of l)) (keys_of (pairs_of r))
    ∙ ap (λ xs. xs ++ kept p (keys_of (pairs_of r))) (kept-none p (pairs_of l) (λ k hk. other_bit p k i h (λ s. cross (sym e ∙ s ∙ left_bit i l r g k hk))))

kept_left : (p : List ℕ) (i : ℕ) (l r : Tree) → IsGrown (Inner i l r) → i < 9 * length p → key_bit p i ≡ false → kept p (keys_of (pairs_of l ++ pairs_of r)) ≡ kept p (keys_of (pairs_of l))
kept_left p i l r g h e =
    ap (kept p) (keys_of-append (pairs_of l) (pairs_of r)) ∙ kept-append p (keys_of (pairs_of l)) (keys_of (pairs_of r))
    ∙ ap (λ xs. kept p (keys_of (pairs_of l)) ++ xs) (kept-none p (pairs_of r) (λ k hk. other_bit p k i h (λ s. cross (sym (right_bit i l r g k hk) ∙ sym s ∙ e))))
    ∙ append_list (kept p (keys_of (pairs_of l)))
  where
    append_list : (xs : List (List ℕ)) → xs ++ [] ≡ xs
    append_list [] = refl
    append_list (x ∷ xs) = ap (λ ys. x ∷ ys) (append_list xs)

-- what the walk of a prefix comes to
pub record Below (p : List ℕ) (t b : Tree) : Type 0 where
  pub grown : IsGrown b
  pub kept : kept p (keys_of (pairs_of t)) ≡ kept p (keys_of (pairs_of b))
  pub alike : (x y : List ℕ) → HasKey (pairs_of b) x → HasKey (pairs_of b) y → AgreeBelow (9 * length p) x y

lone : (p k v : List ℕ) (x y : List ℕ) → HasKey (pairs_of (Leaf k v)) x → HasKey (pairs_of (Leaf k v)) y → AgreeBelow (9 * length p) x y
lone p k v x y (inl a) (inl b) = λ j h. ap (λ z. key_bit z j) (sym a ∙ b)
lone p k v x y (inr a) b = absurd a
lone p k v x y (inl a) (inr b) = absurd b

pub below_is : (p : List ℕ) (t : Tree) → IsGrown t → Below p t (below p t)
unfolding IsGrown
below_is p Empty g = absurd g
below_is p (Leaf k v) g = record { grown = g; kept = refl; alike = lone p k v }
below_is p (Stub root) g = absurd g
below_is p (Inner i l r) g =
    elim (ltb i (9 * length p)) as (λ b. ltb i (9 * length p) ≡ b → Below p (Inner i l r) (cond b (cond (key_bit p i) (below p r) (below p l)) (Inner i l r))) [
      | true ↦ λ lt. elim (key_bit p i) as (λ b. key_bit p i ≡ b → Below p (Inner i l r) (cond b (below p r) (below p l))) [
        | true ↦ λ e. let s = below_is p r g.1 in record { grown = s.grown; kept = kept_right p i l r g (ltb-true i (9 * length p) lt) e ∙ s.kept; alike = s.alike }
        | false ↦ λ e. let s = below_is p l g.0 in record { grown = s.grown; kept = kept_left p i l r g (ltb-true i (9 * length p) lt) e ∙ s.kept; alike = s.alike }
      ] refl
      | false ↦ λ ge. record { grown = g; kept = refl; alike = λ x y hx hy. agree-less (9 * length p) i x y (ltb-false i (9 * length p) ge) (grown_agree i l r g x y hx hy) }
    ] refl

-- the least leaf is one of the tree
pub record LeastLeaf (t : Tree) : Type 0 where
  pub key : List ℕ
  pub value : List ℕ
  pub is : least t ≡ Leaf key value
  pub has : HasKey (pairs_of t) key

pub least_leaf : (t : Tree) → IsGrown t → LeastLeaf t
unfolding IsGrown
least_leaf Empty g = absurd g
least_leaf (Leaf k v) g = record { key = k; value = v; is = refl; has = inl refl }
least_leaf (Inner i l r) g = let s = least_leaf l g.0 in record { key = s.key; value = s.value; is = s.is; has = HasKey-left (pairs_of l) (pairs_of r) s.key s.has }
least_leaf (Stub root) g = absurd g

pub names_of_below : (p : List ℕ) (b : Tree) → AreBytes p → IsGrown b → ((x y : List ℕ) → HasKey (pairs_of b) x → HasKey (pairs_of b) y → AgreeBelow (9 * length p) x y) → names_below p b ≡ kept p (keys_of (pairs_of b))
names_of_below p b bytes g alike =
    let s = least_leaf b g in
    ap (λ x. cond (leaf_has_prefix p x) (keys_of (pairs_of b)) []) s.is
    ∙ elim (starts_with nat_eq s.key p) as (λ t. starts_with nat_eq s.key p ≡ t → cond t (keys_of (pairs_of b)) [] ≡ kept p (keys_of (pairs_of b))) [
      | true ↦ λ e. sym (kept-all p (pairs_of b) (λ k h. agree_prefix p k bytes (grown_bytes b g k h) (agree-trans (9 * length p) p s.key k (prefix_agree p s.key e) (alike s.key k s.has h))))
      | false ↦ λ e. sym (kept-none p (pairs_of b) (λ k h. is_false _ (λ q. cross (sym (agree_prefix p s.key bytes (grown_bytes b g s.key s.has) (agree-trans (9 * length p) p k s.key (prefix_agree p k q) (alike k s.key h s.has))) ∙ e))))
    ] refl

names_of_grown : (p : List ℕ) (t : Tree) → AreBytes p → IsGrown t → names_in p t ≡ kept p (keys_of (pairs_of t))
names_of_grown p t bytes g = let s = below_is p t g in names_of_below p (below p t) bytes s.grown s.alike ∙ sym s.kept

names_of_empty : (p : List ℕ) → names_in p Empty ≡ kept p (keys_of (pairs_of Empty))
names_of_empty p = refl

-- the list that the walk finds is that of the keys with the prefix
pub names_in-keys : (p : List ℕ) (t : Tree) → AreBytes p → IsTree t → names_in p t ≡ kept p (keys_of (pairs_of t))
names_in-keys p Empty bytes g = names_of_empty p
names_in-keys p (Leaf k v) bytes g = names_of_grown p (Leaf k v) bytes g
names_in-keys p (Inner i l r) bytes g = names_of_grown p (Inner i l r) bytes g
names_in-keys p (Stub root) bytes g = absurd g
