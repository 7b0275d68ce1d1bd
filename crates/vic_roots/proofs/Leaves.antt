-- The leaves of a dictionary's tree are its pairs, so the tree tells the dictionary.
use Rattle.std.proofs.Common.{◌≡◌, ℕ, zero, suc, ◌≤◌, ◌⊎◌, inl, inr, Option, Bool, true, false, T, List, [], ◌∷◌, ◌++◌, length, Some, None, arith, refl, sym, subst}
use Rattle.std.proofs.lemmas.Cmp.{nat_list_cmp_total}
use Rattle.std.specs.FinMap.{is_sorted, same_map, entries_sorted, len-entries, slice_cmp-IsAntisymmetric, nat_cmp-IsAntisymmetric}
use Rattle.std.specs.FinMap as map
use Rattle.vic_dict.specs.Lists.{IsIn}
use Rattle.vic_dict.specs.Dictionary.{Dictionary, HasByteKeys}
use Rattle.vic_wire.specs.Bits.{key_bit}
use Rattle.vic_wire.specs.Trees.{Tree, Empty, Leaf, Inner, Stub, Pair, side, tree_by, tree_of}
use Rattle.vic_roots.proofs.Keys.{key_order}
use Rattle.vic_roots.proofs.Members.{HaveByteKeys, IsIn-append_left, IsIn-append_right, IsIn-append_either, entry_is_in, in_is_entry, byte_keys_of_entries}
use Rattle.vic_roots.proofs.Splits.{split_at, side_fewer, side_has, in_side, sorted_side, byte_keys_of_side}

-- the pairs at the leaves of a tree, from the left
abbrev pub leaves : Tree → List Pair
leaves Empty = []
leaves (Leaf k v) = (k, v) ∷ []
leaves (Inner i l r) = leaves l ++ leaves r
leaves (Stub root) = []

-- each leaf is one of the pairs that the tree was made of
pub leaf_is_pair : (n : ℕ) (ps : List Pair) (p : Pair) → IsIn (leaves (tree_by n ps)) p → IsIn ps p
unfolding tree_by
leaf_is_pair zero ps p h = absurd h
leaf_is_pair (suc n) [] p h = absurd h
leaf_is_pair (suc n) (q ∷ []) p h = h
leaf_is_pair (suc n) (q ∷ r ∷ ps) p h =
    let i = split_at (q ∷ r ∷ ps) in
    let on = λ (b : Bool). λ (g : IsIn (leaves (tree_by n (side b i (q ∷ r ∷ ps)))) p). (side_has b i (q ∷ r ∷ ps) p (leaf_is_pair n (side b i (q ∷ r ∷ ps)) p g)).0 in
    elim (IsIn-append_either (leaves (tree_by n (side false i (q ∷ r ∷ ps)))) (leaves (tree_by n (side true i (q ∷ r ∷ ps)))) p h) [
      | inl g ↦ on false g
      | inr g ↦ on true g
    ]

in_one_side : (b : Bool) (i : ℕ) (ps : List Pair) (p : Pair) → IsIn ps p → key_bit p.0 i ≡ b → IsIn (side false i ps) p ⊎ IsIn (side true i ps) p
in_one_side true i ps p h e = inr (in_side true i ps p h e)
in_one_side false i ps p h e = inl (in_side false i ps p h e)

-- each of the pairs is a leaf
pub pair_is_leaf : (n : ℕ) (ps : List Pair) (p : Pair) → length ps ≤ n → T (is_sorted key_order ps) → HaveByteKeys ps → IsIn ps p → IsIn (leaves (tree_by n ps)) p
unfolding tree_by
pair_is_leaf zero [] p few in_order keys h = absurd h
pair_is_leaf zero (q ∷ ps) p few in_order keys h = absurd (omega arith)
pair_is_leaf (suc n) [] p few in_order keys h = absurd h
pair_is_leaf (suc n) (q ∷ []) p few in_order keys h = h
pair_is_leaf (suc n) (q ∷ r ∷ ps) p few in_order keys h =
    let whole = q ∷ r ∷ ps in
    let i = split_at whole in
    let left = leaves (tree_by n (side false i whole)) in
    let right = leaves (tree_by n (side true i whole)) in
    let fewer = side_fewer q r ps false in_order keys in
    let fewer_right = side_fewer q r ps true in_order keys in
    elim (in_one_side (key_bit p.0 i) i whole p h refl) [
      | inl g ↦ IsIn-append_left left right p (pair_is_leaf n (side false i whole) p (omega (arith, fewer)) (sorted_side false i whole in_order) (byte_keys_of_side false i whole keys) g)
      | inr g ↦ IsIn-append_right left right p (pair_is_leaf n (side true i whole) p (omega (arith, fewer_right)) (sorted_side true i whole in_order) (byte_keys_of_side true i whole keys) g)
    ]

-- the leaves of a dictionary's tree are what look-ups find
pub leaf_is_entry : (d : Dictionary) (k v : List ℕ) → IsIn (leaves (tree_of d)) (k, v) → map.get d k ≡ Some v
unfolding tree_of
leaf_is_entry d k v h = in_is_entry d (k, v) (leaf_is_pair (map.len d) (map.entries d) (k, v) h)

pub entry_is_leaf : (d : Dictionary) (k v : List ℕ) → HasByteKeys d → map.get d k ≡ Some v → IsIn (leaves (tree_of d)) (k, v)
unfolding tree_of
entry_is_leaf d k v keys e =
    let long = len-entries d in
    pair_is_leaf (map.len d) (map.entries d) (k, v) (omega (arith, long)) (entries_sorted d) (byte_keys_of_entries d keys) (entry_is_in d k v e)

-- two answers of which each is what the other is
pub same_answer : {A : Type 0} (x y : Option A) → ((v : A) → x ≡ Some v → y ≡ Some v) → ((v : A) → y ≡ Some v → x ≡ Some v) → x ≡ y
same_answer None None g h = refl
same_answer None (Some v) g h = h v refl
same_answer (Some v) y g h = sym (g v refl)

-- dictionaries with one tree are one
pub tree_tells : (d e : Dictionary) → HasByteKeys d → HasByteKeys e → tree_of d ≡ tree_of e → d ≡ e
tree_tells d e keys_d keys_e same =
    same_map nat_list_cmp_total (slice_cmp-IsAntisymmetric nat_cmp-IsAntisymmetric) d e (λ k.
    same_answer (map.get d k) (map.get e k)
    (λ v is. leaf_is_entry e k v (subst (λ (t : Tree). IsIn (leaves t) (k, v)) same (entry_is_leaf d k v keys_d is)))
    (λ v is. leaf_is_entry d k v (subst (λ (t : Tree). IsIn (leaves t) (k, v)) (sym same) (entry_is_leaf e k v keys_e is))))
