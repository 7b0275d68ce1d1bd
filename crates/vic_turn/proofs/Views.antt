-- What the rule says of the views, where one of them changes.
use mathlib.Core.Logic.{dite}
use native.Mathlib.Decide.{ℕ_discrete}
use Rattle.std.proofs.Common.{◌≡◌, ◌≢◌, Some, ℕ, zero, suc, ◌+◌, ◌≤◌, List, [], ◌∷◌, ◌++◌, length, set, refl, sym, ap, ◌∙◌, subst, ⊎_elim, ◌⊎◌, inl, inr, arith}
use Rattle.std.specs.List.{sum_by}
use Rattle.std.proofs.lemmas.List.Sums.{sum_by-cons}
use mathlib.Core.Option.{some, some-ne-none, some-injective}
use lib.ListN.{get_elem?}
use Rattle.atomic_table.proofs.Lists.{at_set, set_else, at_longer}
use Rattle.vic_turn.specs.declared.view.View.{View}
use Rattle.vic_change.specs.declared.Change.{Change}
use Rattle.vic_turn.specs.Turns.{Moment, Fits}

-- the sum, where one element changes
pub sum_by_at : {A : Type 0} (f : A → ℕ) (xs : List A) (i : ℕ) (v w : A) → get_elem? xs i ≡ some v → sum_by f (set xs i w) + f v ≡ sum_by f xs + f w
sum_by_at f [] i v w e = absurd (some-ne-none v (sym e))
sum_by_at f (x ∷ xs) zero v w e = omega (arith, ap f (some-injective x v e), sum_by-cons f x xs, sum_by-cons f w xs)
sum_by_at f (x ∷ xs) (suc i) v w e = omega (arith, sum_by_at f xs i v w e, sum_by-cons f x xs, sum_by-cons f x (set xs i w))

pub sum_by_le_at : {A : Type 0} (f : A → ℕ) (xs : List A) (i : ℕ) (v : A) → get_elem? xs i ≡ some v → f v ≤ sum_by f xs
sum_by_le_at f [] i v e = absurd (some-ne-none v (sym e))
sum_by_le_at f (x ∷ xs) zero v e = omega (arith, ap f (some-injective x v e), sum_by-cons f x xs)
sum_by_le_at f (x ∷ xs) (suc i) v e = omega (arith, sum_by_le_at f xs i v e, sum_by-cons f x xs)

-- two different elements are within the sum
pub sum_by_two : {A : Type 0} (f : A → ℕ) (xs : List A) (i j : ℕ) (v w : A) → i ≢ j → get_elem? xs i ≡ some v → get_elem? xs j ≡ some w → f v + f w ≤ sum_by f xs
sum_by_two f [] i j v w n e d = absurd (some-ne-none v (sym e))
sum_by_two f (x ∷ xs) zero zero v w n e d = absurd (n refl)
sum_by_two f (x ∷ xs) zero (suc j) v w n e d = omega (arith, ap f (some-injective x v e), sum_by_le_at f xs j w d, sum_by-cons f x xs)
sum_by_two f (x ∷ xs) (suc i) zero v w n e d = omega (arith, ap f (some-injective x w d), sum_by_le_at f xs i v e, sum_by-cons f x xs)
sum_by_two f (x ∷ xs) (suc i) (suc j) v w n e d = omega (arith, sum_by_two f xs i j v w (λ h. n (ap suc h)) e d, sum_by-cons f x xs)

pub sum_by_mono : {A : Type 0} (f g : A → ℕ) (xs : List A) → ((i : ℕ) (v : A) → get_elem? xs i ≡ some v → f v ≤ g v) → sum_by f xs ≤ sum_by g xs
sum_by_mono f g [] h = omega arith
sum_by_mono f g (x ∷ xs) h = omega (arith, h 0 x refl, sum_by_mono f g xs (λ i v e. h (suc i) v e), sum_by-cons f x xs, sum_by-cons g x xs)

pub set_there : {A : Type 0} (xs : List A) (i : ℕ) (v w : A) → get_elem? xs i ≡ some v → get_elem? (set xs i w) i ≡ some w
set_there [] i v w e = absurd (some-ne-none v (sym e))
set_there (x ∷ xs) zero v w e = refl
set_there (x ∷ xs) (suc i) v w e = set_there xs i v w e

-- the last of a list, or one before
pub at_more : {A : Type 0} (xs : List A) (a b : A) (j : ℕ) → get_elem? (xs ++ a ∷ []) j ≡ some b → (get_elem? xs j ≡ some b) ⊎ ((j ≡ length xs) × (a ≡ b))
at_more [] a b zero e = inr (refl, some-injective a b e)
at_more [] a b (suc j) e = absurd (some-ne-none b (sym e))
at_more (x ∷ xs) a b zero e = inl e
at_more (x ∷ xs) a b (suc j) e = ⊎_elim (λ h. inl h) (λ (h : (j ≡ length xs) × (a ≡ b)). inr (ap suc h.0, h.1)) (at_more xs a b j e)

-- that one view knows the history
abbrev pub Knower : {F : Type 0} → List (View F) → List Change → Type 0
Knower {F} views log = (j : ℕ) × (u : View F) × (get_elem? views j ≡ some u) × (u.known ≡ Some log)

pub knower_set : {F : Type 0} (views : List (View F)) (id : ℕ) (v w : View F) (log : List Change) → get_elem? views id ≡ some v → w.known ≡ v.known → Knower views log → Knower (set views id w) log
knower_set views id v w log at same k =
    dite (ℕ_discrete k.0 id)
    (λ e. (id, w, set_there views id v w at, same ∙ ap (λ (u : View _). u.known) (some-injective v k.1 (sym at ∙ subst (λ i. get_elem? views i ≡ some k.1) e k.2)) ∙ k.3))
    (λ ne. (k.0, k.1, set_else views id k.0 w ne ∙ k.2, k.3))

module _ {F : Type 0} (m : Moment F) where
  -- the others fit still, and the new view fits
  pub fits_set : (views : List (View F)) (id : ℕ) (w : View F) → ((j : ℕ) (u : View F) → j ≢ id → get_elem? views j ≡ some u → Fits m j u) → Fits m id w
      → (j : ℕ) (u : View F) → get_elem? (set views id w) j ≡ some u → Fits m j u
  fits_set views id w others mine j u e =
      ⊎_elim
      (λ (x : (j ≡ id) × (w ≡ u)). subst (λ (y : ℕ × View F). Fits m y.0 y.1) (λ i. (sym x.0 i, x.1 i)) mine)
      (λ (x : (j ≢ id) × (get_elem? views j ≡ some u)). others j u x.0 x.1)
      (at_set views id j w u e)

  -- and where a view joins
  pub fits_more : (views : List (View F)) (w : View F) → ((j : ℕ) (u : View F) → get_elem? views j ≡ some u → Fits m j u) → Fits m (length views) w
      → (j : ℕ) (u : View F) → get_elem? (views ++ w ∷ []) j ≡ some u → Fits m j u
  fits_more views w others mine j u e =
      ⊎_elim
      (λ h. others j u h)
      (λ (x : (j ≡ length views) × (w ≡ u)). subst (λ (y : ℕ × View F). Fits m y.0 y.1) (λ i. (sym x.0 i, x.1 i)) mine)
      (at_more views w u j e)

pub sum_by_more : {A : Type 0} (f : A → ℕ) (xs : List A) (w : A) → sum_by f (xs ++ w ∷ []) ≡ sum_by f xs + f w
sum_by_more f [] w = omega (arith, sum_by-cons f w [])
sum_by_more f (x ∷ xs) w = omega (arith, sum_by_more f xs w, sum_by-cons f x xs, sum_by-cons f x (xs ++ w ∷ []))

pub knower_more : {F : Type 0} (views : List (View F)) (w : View F) (log : List Change) → Knower views log → Knower (views ++ w ∷ []) log
knower_more views w log k = (k.0, k.1, at_longer views (w ∷ []) k.0 k.1 k.2, k.3)
