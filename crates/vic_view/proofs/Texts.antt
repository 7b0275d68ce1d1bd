-- A set of texts in the order of their bytes has what was put into it.
use Rattle.std.proofs.Common.{◌≡◌, ℕ, Bool, true, false, ◌||◌, List, [], ◌∷◌, ◌++◌, map, bytes_eq, refl, sym, ◌∙◌, ap}
use Rattle.std.specs.List.{list_any}
use Rattle.std.specs.Ordering.{nat_cmp, is_eq, match_ordering}
use Rattle.std.specs.declared.cmp.Ordering.{Ordering}
use Rattle.std.specs.declared.cmp.Ordering.TheVariants.{Less, Equal, Greater}
use Rattle.std.specs.Cmp.Lexicographic.{slice_cmp}
use Rattle.std.specs.BTreeSet.{insert_key}
use Rattle.std.proofs.lemmas.Map.Text.{is_eq-slice_cmp}
use Rattle.std.proofs.lemmas.Slice.Eq.{bytes_eq-Decides}
use Rattle.vic_script.specs.Print.{is_among}
use Rattle.vic_view.specs.Making.{SameTexts}
use Rattle.vic_view.proofs.Forging.{among_append, or_none}

-- a text is found by its order exactly where it is among the texts
pub found_among : {V : Type 0} (items : V → List ℕ) (ks : List V) (t : List ℕ) → list_any (λ k. is_eq (slice_cmp nat_cmp t (items k))) ks ≡ is_among (map items ks) t
found_among items [] t = refl
found_among items (k ∷ ks) t =
    ap (λ (b : Bool). b || list_any (λ k. is_eq (slice_cmp nat_cmp t (items k))) ks) (is_eq-slice_cmp t (items k))
    ∙ ap (λ (b : Bool). bytes_eq t (items k) || b) (found_among items ks t)

swap_first : (a b c : Bool) → (a || (b || c)) ≡ (b || (c || a))
swap_first true true c = refl
swap_first true false true = refl
swap_first true false false = refl
swap_first false true c = refl
swap_first false false true = refl
swap_first false false false = refl

same_twice : (a c : Bool) → (a || c) ≡ (a || (c || a))
same_twice true c = refl
same_twice false true = refl
same_twice false false = refl

last_among : (ts : List (List ℕ)) (u t : List ℕ) → is_among (ts ++ u ∷ []) t ≡ (is_among ts t || bytes_eq t u)
last_among ts u t = among_append ts (u ∷ []) t ∙ ap (λ (b : Bool). is_among ts t || b) (or_none (bytes_eq t u))

module _ {V : Type 0} (items : V → List ℕ) where
  abbrev pub by_bytes : V → V → Ordering
  by_bytes a b = slice_cmp nat_cmp (items a) (items b)

  put_at : (x : V) (xs : List V) (k : V) (o : Ordering) → slice_cmp nat_cmp (items k) (items x) ≡ o → SameTexts (map items (insert_key by_bytes xs k)) (map items xs ++ items k ∷ [])
      → SameTexts (map items (match_ordering o (k ∷ x ∷ xs) (x ∷ xs) (x ∷ insert_key by_bytes xs k))) (items x ∷ (map items xs ++ items k ∷ []))
  put_at x xs k Less e more = λ t.
      swap_first (bytes_eq t (items k)) (bytes_eq t (items x)) (is_among (map items xs) t)
      ∙ ap (λ (b : Bool). bytes_eq t (items x) || b) (sym (last_among (map items xs) (items k) t))
  put_at x xs k Equal e more = λ t.
      let same : items k ≡ items x = (bytes_eq-Decides (items k) (items x)).0 (sym (is_eq-slice_cmp (items k) (items x)) ∙ ap is_eq e) in
      same_twice (bytes_eq t (items x)) (is_among (map items xs) t)
      ∙ ap (λ (b : Bool). bytes_eq t (items x) || b) (ap (λ (u : List ℕ). is_among (map items xs) t || bytes_eq t u) (sym same) ∙ sym (last_among (map items xs) (items k) t))
  put_at x xs k Greater e more = λ t. ap (λ (b : Bool). bytes_eq t (items x) || b) (more t)

  -- a text that is put into the set joins it
  pub put_among : (ks : List V) (k : V) → SameTexts (map items (insert_key by_bytes ks k)) (map items ks ++ items k ∷ [])
  put_among [] k = λ t. refl
  put_among (x ∷ xs) k = put_at x xs k (slice_cmp nat_cmp (items k) (items x)) refl (put_among xs k)
