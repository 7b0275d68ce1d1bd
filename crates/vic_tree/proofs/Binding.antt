-- A part of a dictionary's root is a cut of its tree, or two different node texts have one hash.
use Rattle.std.proofs.Common.{◌≤◌, ◌≡◌, ℕ, ◌^◌, ◌<◌, Bool, true, false, List, [], ◌∷◌, ◌++◌, length, take, drop, refl, sym, ap, subst, ◌∙◌, arith, inl, inr, ◌⊎◌}
use Rattle.std.specs.Int.{w16, to_be_bytes, from_be_bytes}
use Rattle.std.proofs.lemmas.List.{take_at, drop_at}
use Rattle.std.proofs.lemmas.Nat.{from_be_bytes-to_be_bytes_2}
use Rattle.std.specs.Str.{bytes_eq}
use Rattle.std.proofs.lemmas.Slice.Eq.{bytes_eq-Decides}
use Rattle.vic_wire.specs.Hashes.{hash}
use Rattle.vic_wire.specs.Texts.{empty_text, leaf_text, inner_text}
use Rattle.vic_tree.proofs.HashLength.{length-hash}
use Rattle.vic_wire.specs.Trees.{Tree, Empty, Leaf, Inner, Stub, root_of, node_texts, pairs_of, tree_of, dictionary_root}
use Rattle.vic_wire.specs.Cuts.{IsCut}
use Rattle.vic_wire.proofs.KeyBits.{length-key_bits}
use Rattle.vic_tree.specs.Grown.{HasKey, IsGrown, IsTree, HasByteEntries, IsSpelled, IsWhole}
use Rattle.vic_dict.specs.Lists.{IsIn}
use Rattle.vic_tree.specs.Binding.{Collides}
use Rattle.std.specs.FinMap as map
use Rattle.vic_dict.specs.Dictionary.{Dictionary}
use Rattle.vic_tree.proofs.Lists.{HasKey-left, HasKey-right}
use Rattle.vic_tree.proofs.Grown.{some_key, right_within}
use Rattle.vic_tree.proofs.Stands.{has_tree}

IsIn-left : (xs ys : List (List ℕ)) (x : List ℕ) → IsIn xs x → IsIn (xs ++ ys) x
IsIn-left [] ys x h = absurd h
IsIn-left (y ∷ xs) ys x (inl e) = inl e
IsIn-left (y ∷ xs) ys x (inr h) = inr (IsIn-left xs ys x h)

IsIn-right : (xs ys : List (List ℕ)) (x : List ℕ) → IsIn ys x → IsIn (xs ++ ys) x
IsIn-right [] ys x h = h
IsIn-right (y ∷ xs) ys x h = inr (IsIn-right xs ys x h)

-- two fronts of one length, of one list
pub same_parts : (a b x y : List ℕ) → length a ≡ length b → a ++ x ≡ b ++ y → (a ≡ b) × (x ≡ y)
same_parts a b x y len e = (
  sym (take_at a x (length a) refl) ∙ ap (take (length a)) e ∙ take_at b y (length a) (sym len),
  sym (drop_at a x (length a) refl) ∙ ap (drop (length a)) e ∙ drop_at b y (length a) (sym len),
)

head_is : (a b : ℕ) (x y : List ℕ) → ◌≡◌ {A = List ℕ} (a ∷ x) (b ∷ y) → a ≡ b
head_is a b x y e = cc

tail_is : (a b : ℕ) (x y : List ℕ) → ◌≡◌ {A = List ℕ} (a ∷ x) (b ∷ y) → x ≡ y
tail_is a b x y e = cc

same_leaf : (k v q w : List ℕ) → leaf_text k v ≡ leaf_text q w → Leaf k v ≡ Leaf q w
same_leaf k v q w e =
    let body = tail_is 3 3 (length k ∷ k ++ v) (length q ∷ q ++ w) e in
    let p = same_parts k q v w (head_is (length k) (length q) (k ++ v) (q ++ w) body) (tail_is (length k) (length q) (k ++ v) (q ++ w) body) in
    λ i. Leaf (p.0 i) (p.1 i)

same_inner : (i j : ℕ) (l r m s : List ℕ) → i < 2 ^ 16 → j < 2 ^ 16 → length l ≡ 32 → length m ≡ 32 → inner_text i l r ≡ inner_text j m s → (i ≡ j) × (l ≡ m) × (r ≡ s)
same_inner i j l r m s a b x y e =
    let body = tail_is 4 4 (to_be_bytes w16 i ++ l ++ r) (to_be_bytes w16 j ++ m ++ s) e in
    let p = same_parts (to_be_bytes w16 i ++ l) (to_be_bytes w16 j ++ m) r s (omega (arith, x, y)) body in
    let q = same_parts (to_be_bytes w16 i) (to_be_bytes w16 j) l m refl p.0 in
    (sym (from_be_bytes-to_be_bytes_2 i a) ∙ ap (from_be_bytes w16) q.0 ∙ from_be_bytes-to_be_bytes_2 j b, q.1, p.1)

pub length-root_of : (t : Tree) → IsSpelled t → length (root_of t) ≡ 32
length-root_of Empty h = length-hash empty_text
length-root_of (Leaf k v) h = length-hash (leaf_text k v)
length-root_of (Inner i l r) h = length-hash (inner_text i (root_of l) (root_of r))
length-root_of (Stub root) h = h

-- where texts of one hash are one, or C holds
module _ (C : Type 0) (IsKnown : List ℕ → Type 0) (sound : (a b : List ℕ) → IsKnown a → IsKnown b → hash a ≡ hash b → (a ≡ b) ⊎ C) where
  abbrev AreKnown : Tree → Type 0
  AreKnown t = (x : List ℕ) → IsIn (node_texts t) x → IsKnown x

  pub bound : (c t : Tree) → IsSpelled c → IsSpelled t → IsWhole t → AreKnown c → AreKnown t → root_of c ≡ root_of t → IsCut c t ⊎ C
  unfolding node_texts IsCut
  bound (Stub root) t sc st w kc kt e = inl e
  bound c (Stub root) sc st w kc kt e = absurd w
  bound Empty Empty sc st w kc kt e = inl refl
  bound Empty (Leaf q x) sc st w kc kt e = elim (sound _ _ (kc empty_text (inl refl)) (kt (leaf_text q x) (inl refl)) e) [ inl s ↦ absurd cc | inr d ↦ inr d ]
  bound Empty (Inner j m s) sc st w kc kt e = elim (sound _ _ (kc empty_text (inl refl)) (kt (inner_text j (root_of m) (root_of s)) (inl refl)) e) [ inl s ↦ absurd cc | inr d ↦ inr d ]
  bound (Leaf k v) Empty sc st w kc kt e = elim (sound _ _ (kc (leaf_text k v) (inl refl)) (kt empty_text (inl refl)) e) [ inl s ↦ absurd cc | inr d ↦ inr d ]
  bound (Leaf k v) (Leaf q x) sc st w kc kt e = elim (sound _ _ (kc (leaf_text k v) (inl refl)) (kt (leaf_text q x) (inl refl)) e) [ inl s ↦ inl (sym (same_leaf k v q x s)) | inr d ↦ inr d ]
  bound (Leaf k v) (Inner j m s) sc st w kc kt e = elim (sound _ _ (kc (leaf_text k v) (inl refl)) (kt (inner_text j (root_of m) (root_of s)) (inl refl)) e) [ inl s ↦ absurd cc | inr d ↦ inr d ]
  bound (Inner i l r) Empty sc st w kc kt e = elim (sound _ _ (kc (inner_text i (root_of l) (root_of r)) (inl refl)) (kt empty_text (inl refl)) e) [ inl s ↦ absurd cc | inr d ↦ inr d ]
  bound (Inner i l r) (Leaf q x) sc st w kc kt e = elim (sound _ _ (kc (inner_text i (root_of l) (root_of r)) (inl refl)) (kt (leaf_text q x) (inl refl)) e) [ inl s ↦ absurd cc | inr d ↦ inr d ]
  bound (Inner i l r) (Inner j m s) sc st w kc kt e =
      elim (sound _ _ (kc (inner_text i (root_of l) (root_of r)) (inl refl)) (kt (inner_text j (root_of m) (root_of s)) (inl refl)) e) [
        | inr d ↦ inr d
        | inl same ↦
            let p = same_inner i j (root_of l) (root_of r) (root_of m) (root_of s) sc.0 st.0 (length-root_of l sc.1) (length-root_of m st.1) same in
            elim (bound l m sc.1 st.1 w.0 (λ x h. kc x (inr (IsIn-left (node_texts l) (node_texts r) x h))) (λ x h. kt x (inr (IsIn-left (node_texts m) (node_texts s) x h))) p.1) [
              | inr d ↦ inr d
              | inl a ↦ elim (bound r s sc.2 st.2 w.1 (λ x h. kc x (inr (IsIn-right (node_texts l) (node_texts r) x h))) (λ x h. kt x (inr (IsIn-right (node_texts m) (node_texts s) x h))) p.2) [
                | inr d ↦ inr d
                | inl b ↦ inl (p.0, a, b)
              ]
            ]
      ]

-- ---- texts of which two may collide

decided : (texts : List (List ℕ)) (a b : List ℕ) → IsIn texts a → IsIn texts b → hash a ≡ hash b → (t : Bool) → bytes_eq a b ≡ t → (a ≡ b) ⊎ Collides texts
decided texts a b la lb e true t = inl ((bytes_eq-Decides a b).0 t)
decided texts a b la lb e false t = inr (record { one = a; other = b; one_in = la; other_in = lb; differ = λ q. no_way (sym ((bytes_eq-Decides a b).1 q) ∙ t); same_hash = e })
  where
    no_way : true ≡ false → ⊥
    no_way q = cc

-- a part of a whole tree's root is a cut of the tree, or two of their node texts collide
pub bound_or_collides : (c t : Tree) → IsSpelled c → IsSpelled t → IsWhole t → root_of c ≡ root_of t → IsCut c t ⊎ Collides (node_texts c ++ node_texts t)
bound_or_collides c t sc st w e =
    let texts = node_texts c ++ node_texts t in
    bound (Collides texts) (IsIn texts) (λ a b la lb h. decided texts a b la lb h (bytes_eq a b) refl) c t sc st w
    (λ x h. IsIn-left (node_texts c) (node_texts t) x h) (λ x h. IsIn-right (node_texts c) (node_texts t) x h) e

-- ---- the tree of a dictionary is whole, and its indices are small

pub grown_whole : (t : Tree) → IsGrown t → IsWhole t
unfolding IsGrown
grown_whole Empty g = tt
grown_whole (Leaf k v) g = tt
grown_whole (Inner i l r) g = (grown_whole l g.0, grown_whole r g.1)
grown_whole (Stub root) g = absurd g

pub grown_spelled : (t : Tree) → IsGrown t → ((k : List ℕ) → HasKey (pairs_of t) k → length k ≤ 255) → IsSpelled t
unfolding IsGrown
grown_spelled Empty g h = tt
grown_spelled (Leaf k v) g h = tt
grown_spelled (Stub root) g h = absurd g
grown_spelled (Inner i l r) g h =
    let a = some_key l g.0 in let b = some_key r g.1 in
    let small = h b.0 (HasKey-right (pairs_of l) (pairs_of r) b.0 b.1) in
    let inside = right_within i a.0 b.0 (g.2 a.0 b.0 a.1 b.1) in (
      omega (arith, small, inside, length-key_bits b.0),
      grown_spelled l g.0 (λ k x. h k (HasKey-left (pairs_of l) (pairs_of r) k x)),
      grown_spelled r g.1 (λ k x. h k (HasKey-right (pairs_of l) (pairs_of r) k x)),
    )

tree_whole : (t : Tree) → IsTree t → IsWhole t
tree_whole Empty g = tt
tree_whole (Leaf k v) g = tt
tree_whole (Inner i l r) g = grown_whole (Inner i l r) g
tree_whole (Stub root) g = absurd g

tree_spelled : (t : Tree) → IsTree t → ((k : List ℕ) → HasKey (pairs_of t) k → length k ≤ 255) → IsSpelled t
tree_spelled Empty g h = tt
tree_spelled (Leaf k v) g h = tt
tree_spelled (Inner i l r) g h = grown_spelled (Inner i l r) g h
tree_spelled (Stub root) g h = absurd g

-- a part of a dictionary's root is a cut of its tree, or two node texts collide
pub part_is_bound : (c : Tree) (d : Dictionary) → IsSpelled c → HasByteEntries d → ((k : List ℕ) → HasKey (map.entries d) k → length k ≤ 255)
    → root_of c ≡ dictionary_root d → IsCut c (tree_of d) ⊎ Collides (node_texts c ++ node_texts (tree_of d))
unfolding dictionary_root
part_is_bound c d s b small e =
    let t = has_tree d b in
    bound_or_collides c (tree_of d) s (tree_spelled (tree_of d) t.tree (λ k h. small k (subst (λ ps. HasKey ps k) t.pairs h))) (tree_whole (tree_of d) t.tree) e
