-- The shape of a dictionary's tree: it branches at the first bit at which two of the keys differ.
use Rattle.std.proofs.Common.{◌≡◌, ℕ, zero, suc, ◌≤◌, ◌⊎◌, inl, inr, Bool, true, false, not, cond, T, List, [], ◌∷◌, length, Some, arith, refl, sym, ap, subst, ◌∙◌}
use Rattle.std.proofs.lemmas.Cmp.{nat_list_cmp_total}
use Rattle.std.specs.FinMap.{is_sorted, entries-from_sorted, entries_sorted, len-entries, get-insert, same_map, slice_cmp-IsAntisymmetric, nat_cmp-IsAntisymmetric}
use Rattle.std.specs.FinMap as map
use Rattle.vic_dict.specs.Lists.{IsIn}
use Rattle.vic_dict.specs.Dictionary.{Dictionary, nothing, HasByteKeys}
use Rattle.vic_wire.specs.Bits.{key_bit, same_bit}
use Rattle.vic_wire.specs.Trees.{Tree, Empty, Leaf, Inner, Stub, Pair, side, tree_by, tree_of}
use Rattle.vic_roots.specs.Roots.{HasKeyWith, BranchesAt, HasShape, TreeShape}
use Rattle.vic_roots.proofs.Keys.{key_order, key_ties, none_in-nothing, found_after_insert}
use Rattle.vic_roots.proofs.Members.{HaveByteKeys, entry_is_in, in_is_entry, byte_keys_of_entries}
use Rattle.vic_roots.proofs.Splits.{split_at, agree_below_split, not_all_same, same_bit_is, side_fewer, sorted_side, byte_keys_of_side}
use Rattle.vic_roots.proofs.NodeTexts.{IsWhole}
use Rattle.vic_roots.proofs.Roots.{IsWhole-tree_of}
use Rattle.vic_roots.proofs.Leaves.{leaves, same_answer, leaf_is_entry, entry_is_leaf}

-- a tree is the same with more fuel than it has pairs
pub enough_fuel : (n m : ℕ) (ps : List Pair) → length ps ≤ n → length ps ≤ m → T (is_sorted key_order ps) → HaveByteKeys ps → tree_by n ps ≡ tree_by m ps
unfolding tree_by
enough_fuel zero zero ps few few_too in_order keys = refl
enough_fuel zero (suc m) [] few few_too in_order keys = refl
enough_fuel zero (suc m) (p ∷ ps) few few_too in_order keys = absurd (omega arith)
enough_fuel (suc n) zero [] few few_too in_order keys = refl
enough_fuel (suc n) zero (p ∷ ps) few few_too in_order keys = absurd (omega arith)
enough_fuel (suc n) (suc m) [] few few_too in_order keys = refl
enough_fuel (suc n) (suc m) (p ∷ []) few few_too in_order keys = refl
enough_fuel (suc n) (suc m) (p ∷ q ∷ ps) few few_too in_order keys =
    let whole = p ∷ q ∷ ps in
    let i = split_at whole in
    let fewer_left = side_fewer p q ps false in_order keys in
    let fewer_right = side_fewer p q ps true in_order keys in
    let left = enough_fuel n m (side false i whole) (omega (arith, fewer_left)) (omega (arith, fewer_left)) (sorted_side false i whole in_order) (byte_keys_of_side false i whole keys) in
    let right = enough_fuel n m (side true i whole) (omega (arith, fewer_right)) (omega (arith, fewer_right)) (sorted_side true i whole in_order) (byte_keys_of_side true i whole keys) in
    λ j. Inner i (left j) (right j)

-- the tree of the dictionary of pairs in order
pub tree_of-from_sorted : (n : ℕ) (ps : List Pair) → length ps ≤ n → T (is_sorted key_order ps) → HaveByteKeys ps → tree_of (map.from_sorted ps) ≡ tree_by n ps
unfolding tree_of
tree_of-from_sorted n ps few in_order keys =
    let entries = entries-from_sorted key_order ps in_order in
    let long = len-entries (map.from_sorted ps) ∙ ap length entries in
    (λ j. tree_by (long j) (entries j)) ∙ enough_fuel (length ps) n ps (omega arith) few in_order keys

first_or_other : {A : Type 0} (test : A → Bool) (y : A) (xs : List A) (b : Bool) → test y ≡ b → ((x : A) × IsIn xs x × (test x ≡ true)) ⊎ ((x : A) → IsIn xs x → test x ≡ false)
    → ((x : A) × IsIn (y ∷ xs) x × (test x ≡ true)) ⊎ ((x : A) → IsIn (y ∷ xs) x → test x ≡ false)
first_or_other test y xs true e h = inl (y, inl refl, e)
first_or_other test y xs false e (inl found) = inl (found.0, inr found.1, found.2)
first_or_other test y xs false e (inr none) = inr (λ x. λ w. elim w [ inl is ↦ ap test (sym is) ∙ e | inr h ↦ none x h ])

-- a member passes the test, or none does
pub one_or_none : {A : Type 0} (test : A → Bool) (xs : List A) → ((x : A) × IsIn xs x × (test x ≡ true)) ⊎ ((x : A) → IsIn xs x → test x ≡ false)
one_or_none test [] = inr (λ x h. absurd h)
one_or_none test (y ∷ xs) = first_or_other test y xs (test y) refl (one_or_none test xs)

other_bit : (b c : Bool) → same_bit b c ≡ false → b ≡ not c
other_bit true true e = absurd (cc)
other_bit true false e = refl
other_bit false true e = refl
other_bit false false e = absurd (cc)

-- on either side of the split there is a pair
pub side_has_one : (p q : Pair) (ps : List Pair) (b : Bool) → T (is_sorted key_order (p ∷ q ∷ ps)) → HaveByteKeys (p ∷ q ∷ ps)
    → (r : Pair) × IsIn (p ∷ q ∷ ps) r × (key_bit r.0 (split_at (p ∷ q ∷ ps)) ≡ b)
side_has_one p q ps b in_order keys =
    let i = split_at (p ∷ q ∷ ps) in
    elim (one_or_none (λ (r : Pair). same_bit (key_bit r.0 i) b) (p ∷ q ∷ ps)) [
      | inl found ↦ (found.0, found.1, same_bit_is (key_bit found.0.0 i) b found.2)
      | inr none ↦ absurd (not_all_same p q ps (not b) in_order keys (λ r h. other_bit (key_bit r.0 i) b (none r h)))
    ]

-- what a list of pairs has whose tree branches
pub record IsBranched (ps : List Pair) (i : ℕ) (l r : Tree) : Type 0 where
  pub split : i ≡ split_at ps
  pub has : (b : Bool) → (p : Pair) × IsIn ps p × (key_bit p.0 (split_at ps) ≡ b)
  pub left : l ≡ tree_of (map.from_sorted (side false (split_at ps) ps))
  pub right : r ≡ tree_of (map.from_sorted (side true (split_at ps) ps))

pub branched : (n : ℕ) (ps : List Pair) (i : ℕ) (l r : Tree) → length ps ≤ n → T (is_sorted key_order ps) → HaveByteKeys ps → tree_by n ps ≡ Inner i l r → IsBranched ps i l r
unfolding tree_by
branched zero ps i l r few in_order keys e = absurd (cc)
branched (suc n) [] i l r few in_order keys e = absurd (cc)
branched (suc n) (p ∷ []) i l r few in_order keys e = absurd (cc)
branched (suc n) (p ∷ q ∷ ps) i l r few in_order keys e =
    let whole = p ∷ q ∷ ps in
    let at = split_at whole in
    let fewer_left = side_fewer p q ps false in_order keys in
    let fewer_right = side_fewer p q ps true in_order keys in
    let is_left : l ≡ tree_by n (side false at whole) = cc in
    let is_right : r ≡ tree_by n (side true at whole) = cc in
    record {
      split = cc;
      has = λ b. side_has_one p q ps b in_order keys;
      left = is_left ∙ sym (tree_of-from_sorted n (side false at whole) (omega (arith, fewer_left)) (sorted_side false at whole in_order) (byte_keys_of_side false at whole keys));
      right = is_right ∙ sym (tree_of-from_sorted n (side true at whole) (omega (arith, fewer_right)) (sorted_side true at whole in_order) (byte_keys_of_side true at whole keys));
    }

-- ---- in the words of the dictionary

same_dictionary : (d e : Dictionary) → ((k v : List ℕ) → map.get d k ≡ Some v → map.get e k ≡ Some v) → ((k v : List ℕ) → map.get e k ≡ Some v → map.get d k ≡ Some v) → d ≡ e
same_dictionary d e g h = same_map nat_list_cmp_total (slice_cmp-IsAntisymmetric nat_cmp-IsAntisymmetric) d e (λ k. same_answer (map.get d k) (map.get e k) (g k) (h k))

found_where_put : (k v : List ℕ) → map.get (map.insert nothing k v) k ≡ Some v
found_where_put k v = get-insert nat_list_cmp_total nothing k v k ∙ ap (λ b. cond b (Some v) (map.get nothing k)) (key_ties k)

empty_shape : (d : Dictionary) → HasByteKeys d → tree_of d ≡ Empty → d ≡ nothing
empty_shape d keys is =
    same_dictionary d nothing
    (λ k v e. absurd (subst (λ (t : Tree). IsIn (leaves t) (k, v)) is (entry_is_leaf d k v keys e)))
    (λ k v e. absurd (none_in-nothing k v e))

only_leaf : (q w k v : List ℕ) → IsIn {X = Pair} ((q, w) ∷ []) (k, v) → map.get (map.insert nothing q w) k ≡ Some v
only_leaf q w k v (inl is) = subst (λ (p : Pair). map.get (map.insert nothing q w) p.0 ≡ Some p.1) is (found_where_put q w)
only_leaf q w k v (inr h) = absurd h

only_put : (d : Dictionary) (q w k v : List ℕ) → map.get d q ≡ Some w → ((k ≡ q) × (w ≡ v)) ⊎ (map.get nothing k ≡ Some v) → map.get d k ≡ Some v
only_put d q w k v e (inl is) = ap (map.get d) is.0 ∙ e ∙ ap Some is.1
only_put d q w k v e (inr none) = absurd (none_in-nothing k v none)

leaf_shape : (d : Dictionary) (q w : List ℕ) → HasByteKeys d → tree_of d ≡ Leaf q w → d ≡ map.insert nothing q w
leaf_shape d q w keys is =
    let there = leaf_is_entry d q w (subst (λ (t : Tree). IsIn (leaves t) (q, w)) (sym is) (inl refl)) in
    same_dictionary d (map.insert nothing q w)
    (λ k v e. only_leaf q w k v (subst (λ (t : Tree). IsIn (leaves t) (k, v)) is (entry_is_leaf d k v keys e)))
    (λ k v e. only_put d q w k v there (found_after_insert nothing q w k v e))

has_key : (d : Dictionary) (b : Bool) (i : ℕ) (p : Pair) → IsIn (map.entries d) p → key_bit p.0 i ≡ b → HasKeyWith b i d
has_key d b i p h e = record { key = p.0; value = p.1; found = in_is_entry d p h; bit = e }

branches_told : (d : Dictionary) (i : ℕ) (l r : Tree) → IsBranched (map.entries d) i l r → i ≡ split_at (map.entries d) → BranchesAt d i l r
branches_told d i l r b is =
    let left = b.has false in
    let right = b.has true in
    subst (λ (n : ℕ). BranchesAt d n l r) (sym is) (record {
      agree = λ x y v w e f j below. agree_below_split (map.entries d) (x, v) (y, w) j (entry_is_in d x v e) (entry_is_in d y w f) below;
      some_left = has_key d false (split_at (map.entries d)) left.0 left.1 left.2;
      some_right = has_key d true (split_at (map.entries d)) right.0 right.1 right.2;
      left = b.left;
      right = b.right;
    })

inner_shape : (d : Dictionary) (i : ℕ) (l r : Tree) → HasByteKeys d → tree_of d ≡ Inner i l r → BranchesAt d i l r
unfolding tree_of
inner_shape d i l r keys is =
    let long = len-entries d in
    let b = branched (map.len d) (map.entries d) i l r (omega (arith, long)) (entries_sorted d) (byte_keys_of_entries d keys) is in
    branches_told d i l r b b.split

-- what a tree tells of the dictionary that it is the tree of
pub shape_told : (d : Dictionary) (t : Tree) → HasByteKeys d → tree_of d ≡ t → HasShape d t
shape_told d Empty keys is = empty_shape d keys is
shape_told d (Leaf q w) keys is = leaf_shape d q w keys is
shape_told d (Inner i l r) keys is = inner_shape d i l r keys is
shape_told d (Stub root) keys is = subst IsWhole is (IsWhole-tree_of d keys)

pub tree_shape_told : TreeShape
tree_shape_told d keys = shape_told d (tree_of d) keys refl
