-- The members of lists of pairs in order, and those that pass a test.
use Rattle.std.proofs.Common.{◌≡◌, ◌≢◌, ℕ, suc, ◌<◌, ◌≤◌, ◌⊎◌, inl, inr, Ordering, Less, Equal, Greater, Bool, true, false, cond, T, List, [], ◌∷◌, ◌++◌, length, Some, arith, refl, sym, ap, subst, ◌∙◌}
use Rattle.std.proofs.lemmas.Cmp.{nat_list_cmp_total, tied_itself}
use Rattle.std.specs.Prelude.{◌&&◌}
use Rattle.std.specs.Ordering.{is_lt, eq_by_cmp}
use Rattle.std.specs.List.{filter}
use Rattle.std.specs.FinMap.{find, is_sorted, get-entries, entries_sorted}
use Rattle.std.specs.FinMap.Entries.{below_all}
use Rattle.std.specs.FinMap as map
use Rattle.vic_dict.specs.Lists.{IsIn, AreBytes}
use Rattle.vic_dict.specs.Dictionary.{Dictionary, IsKey, HasByteKeys}
use Rattle.vic_wire.specs.Trees.{Pair}
use Rattle.vic_roots.proofs.Keys.{key_order, same_key, key_ties, from_insert}

-- ---- joins and tests

-- a member of the first or the second list is one of both after one another
pub IsIn-append_left : {A : Type 0} (xs ys : List A) (x : A) → IsIn xs x → IsIn (xs ++ ys) x
IsIn-append_left [] ys x h = absurd h
IsIn-append_left (y ∷ xs) ys x (inl e) = inl e
IsIn-append_left (y ∷ xs) ys x (inr h) = inr (IsIn-append_left xs ys x h)

pub IsIn-append_right : {A : Type 0} (xs ys : List A) (x : A) → IsIn ys x → IsIn (xs ++ ys) x
IsIn-append_right [] ys x h = h
IsIn-append_right (y ∷ xs) ys x h = inr (IsIn-append_right xs ys x h)

-- and the other way round
pub IsIn-append_either : {A : Type 0} (xs ys : List A) (x : A) → IsIn (xs ++ ys) x → IsIn xs x ⊎ IsIn ys x
IsIn-append_either [] ys x h = inr h
IsIn-append_either (y ∷ xs) ys x (inl e) = inl (inl e)
IsIn-append_either (y ∷ xs) ys x (inr h) = elim (IsIn-append_either xs ys x h) [ inl g ↦ inl (inr g) | inr g ↦ inr g ]

in_kept : {A : Type 0} (b : Bool) (y : A) (xs : List A) (x : A) → IsIn (cond b (y ∷ xs) xs) x → ((b ≡ true) × (y ≡ x)) ⊎ IsIn xs x
in_kept true y xs x (inl e) = inl (refl, e)
in_kept true y xs x (inr h) = inr h
in_kept false y xs x h = inr h

kept_first : {A : Type 0} (b : Bool) (y : A) (xs : List A) (x : A) → b ≡ true → y ≡ x → IsIn (cond b (y ∷ xs) xs) x
kept_first true y xs x b e = inl e
kept_first false y xs x b e = absurd (cc)

kept_other : {A : Type 0} (b : Bool) (y : A) (xs : List A) (x : A) → IsIn xs x → IsIn (cond b (y ∷ xs) xs) x
kept_other true y xs x h = inr h
kept_other false y xs x h = h

-- a member of those that pass is a member that passes
pub IsIn-from_filter : {A : Type 0} (test : A → Bool) (xs : List A) (x : A) → IsIn (filter test xs) x → IsIn xs x × (test x ≡ true)
IsIn-from_filter test [] x h = absurd h
IsIn-from_filter test (y ∷ xs) x h =
    elim (in_kept (test y) y (filter test xs) x h) [
      | inl g ↦ (inl g.1, ap test (sym g.1) ∙ g.0)
      | inr g ↦ let rest = IsIn-from_filter test xs x g in (inr rest.0, rest.1)
    ]

pub IsIn-filter : {A : Type 0} (test : A → Bool) (xs : List A) (x : A) → IsIn xs x → test x ≡ true → IsIn (filter test xs) x
IsIn-filter test [] x h e = absurd h
IsIn-filter test (y ∷ xs) x (inl is) e = kept_first (test y) y (filter test xs) x (ap test is ∙ e) is
IsIn-filter test (y ∷ xs) x (inr h) e = kept_other (test y) y (filter test xs) x (IsIn-filter test xs x h e)

-- each member passes the test, or one does not, and then fewer than all pass
abbrev pub AllPass : {A : Type 0} → (A → Bool) → List A → Type 0
AllPass {A} test xs = (x : A) → IsIn xs x → test x ≡ true

fewer_or_all : {A : Type 0} (test : A → Bool) (y : A) (b : Bool) (xs : List A) → test y ≡ b → (length (filter test xs) < length xs) ⊎ AllPass test xs → length (filter test xs) ≤ length xs
    → (length (cond b (y ∷ filter test xs) (filter test xs)) < length (y ∷ xs)) ⊎ AllPass test (y ∷ xs)
fewer_or_all test y false xs e h most = inl (omega arith)
fewer_or_all test y true xs e (inl fewer) most = inl (omega arith)
fewer_or_all test y true xs e (inr all) most = inr (λ x. λ w. elim w [ inl is ↦ ap test (sym is) ∙ e | inr h ↦ all x h ])

kept_length : {A : Type 0} (b : Bool) (y : A) (xs : List A) (n : ℕ) → length xs ≤ n → length (cond b (y ∷ xs) xs) ≤ suc n
kept_length true y xs n h = omega arith
kept_length false y xs n h = omega arith

pub length-filter_le : {A : Type 0} (test : A → Bool) (xs : List A) → length (filter test xs) ≤ length xs
length-filter_le test [] = omega arith
length-filter_le test (y ∷ xs) = kept_length (test y) y (filter test xs) (length xs) (length-filter_le test xs)

pub filter_fewer : {A : Type 0} (test : A → Bool) (xs : List A) → (length (filter test xs) < length xs) ⊎ AllPass test xs
filter_fewer test [] = inr (λ x h. absurd h)
filter_fewer test (y ∷ xs) = fewer_or_all test y (test y) xs refl (filter_fewer test xs) (length-filter_le test xs)

-- ---- pairs in order

less_apart : (o : Ordering) → T (is_lt o) → o ≡ Equal → ⊥
less_apart Less h e = absurd (cc)
less_apart Equal h e = h
less_apart Greater h e = h

both_left : (a b : Bool) → T (a && b) → T a
both_left true b h = tt
both_left false b h = h

both_right : (a b : Bool) → T (a && b) → T b
both_right true b h = h
both_right false b h = absurd h

below_apart : (k : List ℕ) (ps : List Pair) (q : Pair) → T (below_all key_order k ps) → IsIn ps q → k ≢ q.0
below_apart k [] q h g e = g
below_apart k (p ∷ ps) q h (inl is) e = less_apart (key_order k p.0) (both_left (is_lt (key_order k p.0)) (below_all key_order k ps) h) (ap (key_order k) (ap (λ (x : Pair). x.0) is ∙ sym e) ∙ tied_itself nat_list_cmp_total k)
below_apart k (p ∷ ps) q h (inr g) e = below_apart k ps q (both_right (is_lt (key_order k p.0)) (below_all key_order k ps) h) g e

-- in pairs in order the first key is none of the others
pub first_apart : (p : Pair) (ps : List Pair) (q : Pair) → T (is_sorted key_order (p ∷ ps)) → IsIn ps q → p.0 ≢ q.0
first_apart p ps q h g e = below_apart p.0 ps q (both_left (below_all key_order p.0 ps) (is_sorted key_order ps) h) g e

pub sorted_tail : (p : Pair) (ps : List Pair) → T (is_sorted key_order (p ∷ ps)) → T (is_sorted key_order ps)
sorted_tail p ps h = both_right (below_all key_order p.0 ps) (is_sorted key_order ps) h

pair_is : (p : Pair) (k v : List ℕ) → p.0 ≡ k → p.1 ≡ v → p ≡ (k, v)
pair_is p k v e f = λ i. (e i, f i)

-- what is found is a member
pub find_is_in : (ps : List Pair) (q v : List ℕ) → find key_order q ps ≡ Some v → IsIn ps (q, v)
find_is_in [] q v e = absurd (cc)
find_is_in (p ∷ ps) q v e =
    elim (from_insert (eq_by_cmp key_order q p.0) (find key_order q ps) p.1 v e) [
      | inl new ↦ inl (pair_is p q v (sym (same_key q p.0 new.0)) new.1)
      | inr old ↦ inr (find_is_in ps q v old)
    ]

tied_is_false : (b : Bool) → (b ≡ true → ⊥) → b ≡ false
tied_is_false true h = absurd (h refl)
tied_is_false false h = refl

-- in pairs in order a member is found
pub in_is_found : (ps : List Pair) (q : Pair) → T (is_sorted key_order ps) → IsIn ps q → find key_order q.0 ps ≡ Some q.1
in_is_found [] q h g = absurd g
in_is_found (p ∷ ps) q h (inl is) = subst (λ (x : Pair). find key_order x.0 (p ∷ ps) ≡ Some x.1) is (ap (λ b. cond b (Some p.1) (find key_order p.0 ps)) (key_ties p.0))
in_is_found (p ∷ ps) q h (inr g) =
    let apart = tied_is_false (eq_by_cmp key_order q.0 p.0) (λ t. first_apart p ps q h g (sym (same_key q.0 p.0 t))) in
    ap (λ b. cond b (Some p.1) (find key_order q.0 ps)) apart ∙ in_is_found ps q (sorted_tail p ps h) g

-- ---- the entries of a dictionary

-- what a look-up finds is an entry, and the other way round
pub entry_is_in : (d : Dictionary) (k v : List ℕ) → map.get d k ≡ Some v → IsIn (map.entries d) (k, v)
entry_is_in d k v e = find_is_in (map.entries d) k v (sym (get-entries d k) ∙ e)

pub in_is_entry : (d : Dictionary) (p : Pair) → IsIn (map.entries d) p → map.get d p.0 ≡ Some p.1
in_is_entry d p h = get-entries d p.0 ∙ in_is_found (map.entries d) p (entries_sorted d) h

-- each key of the pairs is 1 to 255 bytes
abbrev pub HaveByteKeys : List Pair → Type 0
HaveByteKeys ps = (p : Pair) → IsIn ps p → IsKey p.0 × AreBytes p.0

pub byte_keys_of_entries : (d : Dictionary) → HasByteKeys d → HaveByteKeys (map.entries d)
byte_keys_of_entries d h p g = h p.0 p.1 (in_is_entry d p g)
