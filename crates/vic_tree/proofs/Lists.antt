-- Lists of pairs: their keys, what is found in them, and when they are sorted.
use Rattle.std.proofs.Common.{◌≡◌, ℕ, Bool, true, false, cond, T, ◌&&◌, List, [], ◌∷◌, ◌++◌, Option, Some, None, refl, sym, ap, subst, ◌∙◌, inl, inr, ◌⊎◌}
use Rattle.std.specs.declared.cmp.Ordering.{Ordering}
use Rattle.std.specs.declared.cmp.Ordering.TheVariants.{Less, Equal, Greater}
use Rattle.std.specs.Ordering.{nat_cmp, is_eq, is_lt, eq_by_cmp}
use Rattle.std.specs.Cmp.{tied_itself}
use Rattle.std.specs.Cmp.Lexicographic.{slice_cmp, nat_list_cmp_total}
use Rattle.std.specs.FinMap.{nat_cmp-IsAntisymmetric, slice_cmp-IsAntisymmetric}
use Rattle.std.specs.FinMap.Entries.{find, is_sorted, below_all}
use Rattle.vic_wire.specs.Bits.{key_bit, same_bit}
use Rattle.vic_wire.specs.Trees.{Pair, side}
use Rattle.vic_tree.specs.Grown.{HasKey}

-- the order of keys
abbrev pub key_cmp : List ℕ → List ℕ → Ordering
key_cmp = slice_cmp nat_cmp

-- what is found at a key
abbrev pub found : List ℕ → List Pair → Option (List ℕ)
found k ps = find key_cmp k ps

pub tied : (a b : List ℕ) → key_cmp a b ≡ Equal → a ≡ b
tied a b e = slice_cmp-IsAntisymmetric nat_cmp-IsAntisymmetric a b e

-- ---- keys

pub HasKey-left : (ps qs : List Pair) (k : List ℕ) → HasKey ps k → HasKey (ps ++ qs) k
HasKey-left [] qs k h = absurd h
HasKey-left (p ∷ ps) qs k (inl e) = inl e
HasKey-left (p ∷ ps) qs k (inr h) = inr (HasKey-left ps qs k h)

pub HasKey-right : (ps qs : List Pair) (k : List ℕ) → HasKey qs k → HasKey (ps ++ qs) k
HasKey-right [] qs k h = h
HasKey-right (p ∷ ps) qs k h = inr (HasKey-right ps qs k h)

pub HasKey-cases : (ps qs : List Pair) (k : List ℕ) → HasKey (ps ++ qs) k → HasKey ps k ⊎ HasKey qs k
HasKey-cases [] qs k h = inr h
HasKey-cases (p ∷ ps) qs k (inl e) = inl (inl e)
HasKey-cases (p ∷ ps) qs k (inr h) = elim (HasKey-cases ps qs k h) [ inl a ↦ inl (inr a) | inr b ↦ inr b ]

-- ---- finding

abbrev pub or_else : Option (List ℕ) → Option (List ℕ) → Option (List ℕ)
or_else None o = o
or_else (Some v) o = Some v

or_else-cond : (b : Bool) (v : List ℕ) (x y : Option (List ℕ)) → cond b (Some v) (or_else x y) ≡ or_else (cond b (Some v) x) y
or_else-cond true v x y = refl
or_else-cond false v x y = refl

pub found-append : (k : List ℕ) (ps qs : List Pair) → found k (ps ++ qs) ≡ or_else (found k ps) (found k qs)
found-append k [] qs = refl
found-append k (p ∷ ps) qs = ap (cond (eq_by_cmp key_cmp k p.0) (Some p.1)) (found-append k ps qs) ∙ or_else-cond (eq_by_cmp key_cmp k p.0) p.1 (found k ps) (found k qs)

pub or_else-none : (o : Option (List ℕ)) → or_else o None ≡ o
or_else-none None = refl
or_else-none (Some v) = refl

equal_of : (o : Ordering) → is_eq o ≡ true → o ≡ Equal
equal_of Less e = cc
equal_of Equal e = refl
equal_of Greater e = cc

pub same_key : (a b : List ℕ) → eq_by_cmp key_cmp a b ≡ true → a ≡ b
same_key a b e = tied a b (equal_of (key_cmp a b) e)

pub key_same : (a : List ℕ) → eq_by_cmp key_cmp a a ≡ true
key_same a = ap is_eq (tied_itself nat_list_cmp_total a)

pub key_other : (a b : List ℕ) → (a ≡ b → ⊥) → eq_by_cmp key_cmp a b ≡ false
key_other a b ne = by (eq_by_cmp key_cmp a b) refl
  where
    by : (t : Bool) → eq_by_cmp key_cmp a b ≡ t → eq_by_cmp key_cmp a b ≡ false
    by true e = absurd (ne (same_key a b e))
    by false e = e

pub found-none : (k : List ℕ) (ps : List Pair) → (HasKey ps k → ⊥) → found k ps ≡ None
found-none k [] absent = refl
found-none k (p ∷ ps) absent =
    ap (λ b. cond b (Some p.1) (found k ps)) (key_other k p.0 (λ e. absent (inl (sym e)))) ∙ found-none k ps (λ h. absent (inr h))

-- ---- sorted

abbrev pub IsBelowAll : List ℕ → List Pair → Type 0
IsBelowAll k ps = T (below_all key_cmp k ps)

both : (a b : Bool) → T a → T b → T (a && b)
both true b p q = q
both false b p q = p

pub first : (a b : Bool) → T (a && b) → T a
first true b p = tt
first false b p = p

pub second : (a b : Bool) → T (a && b) → T b
second true b p = p
second false b p = absurd p

pub below_each : (k : List ℕ) (ps : List Pair) → ((q : List ℕ) → HasKey ps q → key_cmp k q ≡ Less) → IsBelowAll k ps
below_each k [] h = tt
below_each k (p ∷ ps) h = both _ _ (subst (λ o. T (is_lt o)) (sym (h p.0 (inl refl))) tt) (below_each k ps (λ q g. h q (inr g)))

below_all-append : (k : List ℕ) (ps qs : List Pair) → IsBelowAll k ps → IsBelowAll k qs → IsBelowAll k (ps ++ qs)
below_all-append k [] qs h g = g
below_all-append k (p ∷ ps) qs h g = both _ _ (first _ _ h) (below_all-append k ps qs (second _ _ h) g)

abbrev pub IsSorted : List Pair → Type 0
IsSorted ps = T (is_sorted key_cmp ps)

pub sorted-append : (ps qs : List Pair) → IsSorted ps → IsSorted qs → ((a b : List ℕ) → HasKey ps a → HasKey qs b → key_cmp a b ≡ Less) → IsSorted (ps ++ qs)
sorted-append [] qs h g less = g
sorted-append (p ∷ ps) qs h g less =
    both _ _ (below_all-append p.0 ps qs (first _ _ h) (below_each p.0 qs (λ b hb. less p.0 b (inl refl) hb)))
    (sorted-append ps qs (second _ _ h) g (λ a b ha hb. less a b (inr ha) hb))

-- ---- sides

pub side-append : (bit : Bool) (i : ℕ) (ps qs : List Pair) → side bit i (ps ++ qs) ≡ side bit i ps ++ side bit i qs
side-append bit i [] qs = refl
side-append bit i (p ∷ ps) qs =
    elim (same_bit (key_bit p.0 i) bit) as (λ t. cond t (p ∷ side bit i (ps ++ qs)) (side bit i (ps ++ qs)) ≡ cond t (p ∷ side bit i ps) (side bit i ps) ++ side bit i qs) [
      | true ↦ ap (λ xs. p ∷ xs) (side-append bit i ps qs)
      | false ↦ side-append bit i ps qs
    ]

pub side-all : (bit : Bool) (i : ℕ) (ps : List Pair) → ((k : List ℕ) → HasKey ps k → same_bit (key_bit k i) bit ≡ true) → side bit i ps ≡ ps
side-all bit i [] h = refl
side-all bit i (p ∷ ps) h = ap (λ t. cond t (p ∷ side bit i ps) (side bit i ps)) (h p.0 (inl refl)) ∙ ap (λ xs. p ∷ xs) (side-all bit i ps (λ k g. h k (inr g)))

pub side-none : (bit : Bool) (i : ℕ) (ps : List Pair) → ((k : List ℕ) → HasKey ps k → same_bit (key_bit k i) bit ≡ false) → side bit i ps ≡ []
side-none bit i [] h = refl
side-none bit i (p ∷ ps) h = ap (λ t. cond t (p ∷ side bit i ps) (side bit i ps)) (h p.0 (inl refl)) ∙ side-none bit i ps (λ k g. h k (inr g))
