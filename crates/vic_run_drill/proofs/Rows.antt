-- Rows of which one item is exchanged.
use Rattle.std.proofs.Common.{◌≡◌, ℕ, zero, suc, ◌+◌, ◌<◌, List, [], ◌∷◌, ◌++◌, length, map, replicate, Some, refl, sym, ap, subst, ◌∙◌, arith, slice_get, slice_set}
use Rattle.std.proofs.lemmas.List.{replicate_more}

module _ {A : Type 0} where
  pub get_set : (ms : List A) (k : ℕ) (n : A) → k < length ms → slice_get (slice_set ms k n) k ≡ Some n
  get_set [] k n lt = absurd (omega arith)
  get_set (m ∷ ms) zero n lt = refl
  get_set (m ∷ ms) (suc k) n lt = get_set ms k n (omega arith)

  pub get_other : (ms : List A) (j k : ℕ) (n : A) → (j ≡ k → ⊥) → slice_get (slice_set ms k n) j ≡ slice_get ms j
  get_other [] j k n apart = refl
  get_other (m ∷ ms) zero zero n apart = absurd (apart refl)
  get_other (m ∷ ms) zero (suc k) n apart = refl
  get_other (m ∷ ms) (suc j) zero n apart = refl
  get_other (m ∷ ms) (suc j) (suc k) n apart = get_other ms j k n (λ e. apart (ap (λ (i : ℕ). suc i) e))

  pub set_same : (ms : List A) (k : ℕ) (m : A) → slice_get ms k ≡ Some m → slice_set ms k m ≡ ms
  set_same [] k m at = refl
  set_same (p ∷ ms) zero m at = let e : p ≡ m = cc in ap (λ (c : A). c ∷ ms) (sym e)
  set_same (p ∷ ms) (suc k) m at = ap (λ (rest : List A). p ∷ rest) (set_same ms k m at)

  pub get_replicate : (n k : ℕ) (x : A) → k < n → slice_get (replicate n x) k ≡ Some x
  get_replicate zero k x lt = absurd (omega arith)
  get_replicate (suc n) zero x lt = refl
  get_replicate (suc n) (suc k) x lt = get_replicate n k x (omega arith)

  -- of one more, the items are those before, and it
  pub get_more : (P : A → ℕ → Type 0) (i : ℕ) (ms : List A) (m : A) → ((k : ℕ) (n : A) → slice_get ms k ≡ Some n → P n (i + k)) → P m (i + length ms)
      → (k : ℕ) (n : A) → slice_get (ms ++ m ∷ []) k ≡ Some n → P n (i + k)
  get_more P i [] m all now zero n at = let e : m ≡ n = cc in subst (λ (c : A). P c (i + 0)) e now
  get_more P i [] m all now (suc k) n at = absurd cc
  get_more P i (p ∷ ms) m all now zero n at = all zero n at
  get_more P i (p ∷ ms) m all now (suc k) n at =
      let up : (j : ℕ) → (suc i) + j ≡ i + suc j = λ j. omega arith in
      subst (λ (j : ℕ). P n j) (up k)
      (get_more P (suc i) ms m (λ j c here. subst (λ (l : ℕ). P c l) (sym (up j)) (all (suc j) c here)) (subst (λ (l : ℕ). P m l) (sym (up (length ms))) now) k n at)

-- one more that maps to the value that all others map to
pub replicate_push : {M X : Type 0} (f : M → X) (x : X) (n : ℕ) (ms : List M) (m : M) → map f ms ≡ replicate n x → f m ≡ x → map f (ms ++ m ∷ []) ≡ replicate (n + 1) x
replicate_push {M = M} f x n ms m are is = mapped ms ∙ ap (λ xs. xs ++ f m ∷ []) are ∙ ap (λ y. replicate n x ++ y ∷ []) is ∙ replicate_more n x
  where
    mapped : (ms : List M) → map f (ms ++ m ∷ []) ≡ map f ms ++ f m ∷ []
    mapped [] = refl
    mapped (k ∷ ms) = ap (λ xs. f k ∷ xs) (mapped ms)
