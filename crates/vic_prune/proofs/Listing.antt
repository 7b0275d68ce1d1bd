-- Keys that rise and have the prefix are the answer of a list.
use Rattle.std.proofs.Common.{◌≡◌, ℕ, zero, suc, ◌-◌, ◌<◌, Bool, true, false, cond, T, ◌&&◌, List, [], ◌∷◌, ◌++◌, length, map, get_or, refl, sym, ap, subst, ◌∙◌, inl, inr, ◌⊎◌, arith}
use Rattle.std.specs.Prelude.{nat_eq}
use Rattle.std.specs.List.{starts_with, filter}
use Rattle.std.specs.declared.cmp.Ordering.{Ordering}
use Rattle.std.specs.declared.cmp.Ordering.TheVariants.{Less, Equal, Greater}
use Rattle.std.specs.Ordering.{is_lt}
use Rattle.std.specs.FinMap as map
use Rattle.std.proofs.lemmas.Cmp.{nat_list_cmp_total}
use Rattle.std.proofs.lemmas.Bool.{cases_lt}
use Rattle.vic_dict.specs.Dictionary.{nothing}
use Rattle.vic_dict.specs.Rows.{bytes_cmp}
use Rattle.vic_wire.specs.Trees.{Pair}
use Rattle.vic_wire.specs.Walks.{dictionary_with_pairs}
use Rattle.vic_tree.specs.Grown.{HasKey}
use Rattle.vic_tree.proofs.Lists.{key_cmp, IsSorted, IsBelowAll}
use Rattle.vic_tree.proofs.Names.{kept, keys_of, kept-all}
use Rattle.vic_tree.proofs.Reached.{keys_laid}
use Rattle.vic_prune.specs.Listed.{AreListed}

less_lt : (o : Ordering) → o ≡ Less → T (is_lt o)
less_lt Less e = tt
less_lt Equal e = absurd cc
less_lt Greater e = absurd cc

both : (a b : Bool) → T a → T b → T (a && b)
both true b p q = q
both false b p q = absurd p

one : (a b : Bool) → T (a && b) → T a
one true b p = tt
one false b p = absurd p

two : (a b : Bool) → T (a && b) → T b
two true b p = p
two false b p = absurd p

lt_less : (o : Ordering) → T (is_lt o) → o ≡ Less
lt_less Less p = refl
lt_less Equal p = absurd p
lt_less Greater p = absurd p

-- what is below a key that is below all is below all
below_more : (a b : List ℕ) (ps : List Pair) → key_cmp a b ≡ Less → IsBelowAll b ps → IsBelowAll a ps
below_more a b [] less h = tt
below_more a b (p ∷ ps) less h =
    both (is_lt (key_cmp a p.0)) _ (less_lt (key_cmp a p.0) (nat_list_cmp_total.trans a b p.0 less (lt_less (key_cmp b p.0) (one _ _ h)))) (below_more a b ps less (two _ _ h))

next_listed : (p : List ℕ) (k : List ℕ) (ks : List (List ℕ)) (n : ℕ) → AreListed p (k ∷ ks) (suc n) → AreListed p ks n
next_listed p k ks n h zero lt = ((h 1 (omega arith)).0, λ q. absurd (omega arith))
next_listed p k ks n h (suc i) lt = (
  (h (suc (suc i)) (omega arith)).0,
  λ q.
      let e : suc (suc i) - 1 ≡ suc i = omega arith in
      let f : suc i - 1 ≡ i = omega arith in
      let found : bytes_cmp (get_or (k ∷ ks) (suc (suc i) - 1) []) (get_or ks (suc i) []) ≡ Less = (h (suc (suc i)) (omega arith)).1 (omega arith) in
      subst (λ j. bytes_cmp (get_or ks j []) (get_or ks (suc i) []) ≡ Less) (sym f) (subst (λ j. bytes_cmp (get_or (k ∷ ks) j []) (get_or ks (suc i) []) ≡ Less) e found),
)

listed_sorted : (p : List ℕ) (ps : List Pair) → AreListed p (keys_of ps) (length ps) → IsSorted ps
listed_sorted p [] h = tt
listed_sorted p (x ∷ []) h = tt
listed_sorted p (x ∷ y ∷ ps) h =
    let less : key_cmp x.0 y.0 ≡ Less = (h 1 (omega arith)).1 (omega arith) in
    let rest = listed_sorted p (y ∷ ps) (next_listed p x.0 (keys_of (y ∷ ps)) (length (y ∷ ps)) h) in
    both _ _ (both (is_lt (key_cmp x.0 y.0)) _ (less_lt (key_cmp x.0 y.0) less) (below_more x.0 y.0 ps less (one _ _ rest))) rest

listed_all : (p : List ℕ) (ps : List Pair) → AreListed p (keys_of ps) (length ps) → (k : List ℕ) → HasKey ps k → starts_with nat_eq k p ≡ true
listed_all p [] h k there = absurd there
listed_all p (x ∷ ps) h k (inl same) = subst (λ y. starts_with nat_eq y p ≡ true) same (h 0 (omega arith)).0
listed_all p (x ∷ ps) h k (inr more) = listed_all p ps (next_listed p x.0 (keys_of ps) (length ps) h) k more

length-keys : (ps : List Pair) → length (keys_of ps) ≡ length ps
length-keys [] = refl
length-keys (x ∷ ps) = ap suc (length-keys ps)

-- such keys are the names that a list of their dictionary answers
pub names_listed : (p : List ℕ) (ps : List Pair) → AreListed p (keys_of ps) (length (keys_of ps)) → keys_of ps ≡ filter (λ k. starts_with nat_eq k p) (map.keys (dictionary_with_pairs nothing ps))
names_listed p ps h =
    let listed : AreListed p (keys_of ps) (length ps) = subst (AreListed p (keys_of ps)) (length-keys ps) h in
    sym (ap (kept p) (keys_laid ps (listed_sorted p ps listed)) ∙ kept-all p ps (listed_all p ps listed))

-- one key more
pub listed_more : (p : List ℕ) (ks : List (List ℕ)) (n : ℕ) → AreListed p ks n → starts_with nat_eq (get_or ks n []) p ≡ true → (0 < n → bytes_cmp (get_or ks (n - 1) []) (get_or ks n []) ≡ Less) → AreListed p ks (suc n)
listed_more p ks n h begins rises i lt = elim (cases_lt i n) [
  | inl below ↦ h i below
  | inr up ↦ let same : n ≡ i = omega arith in subst (λ j. (starts_with nat_eq (get_or ks j []) p ≡ true) × (0 < j → bytes_cmp (get_or ks (j - 1) []) (get_or ks j []) ≡ Less)) same (begins, rises)
]
