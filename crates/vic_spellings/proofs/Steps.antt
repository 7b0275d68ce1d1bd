-- The steps of a reader, and what it took from the front of the bytes.
use Rattle.std.proofs.Common.{◌≡◌, ℕ, ◌+◌, Bool, true, false, cond, eqb, List, [], ◌∷◌, ◌++◌, length, Some, Result, Ok, Err, refl, sym, ap, subst, ◌∙◌, append_assoc, inl, inr, ◌⊎◌}
use Rattle.std.proofs.lemmas.Bool.{eqb-true}
use Rattle.std.proofs.lemmas.List.{nil_from_length}
use Rattle.vic_dict.specs.Lists.{AreBytes}
use Rattle.vic_wire.specs.Reading.{FieldFault, ◌>>=◌, if_allowed, if_ended, some_read}

-- ---- steps

-- the value of a step that did not fail
pub bind_ok : {A B : Type 0} (r : Result A FieldFault) (f : A → Result B FieldFault) (y : B) → (r >>= f) ≡ Ok y → (x : A) × (r ≡ Ok x) × (f x ≡ Ok y)
bind_ok (Ok x) f y e = (x, refl, e)
bind_ok (Err d) f y e = absurd cc

-- a test for too few bytes that did not fail
pub guard_ok : {A : Type 0} (b : Bool) (d : FieldFault) (x y : A) → cond b (Err d) (Ok x) ≡ Ok y → (b ≡ false) × (x ≡ y)
guard_ok true d x y e = absurd cc
guard_ok false d x y e = (refl, cc)

-- a value that was allowed
pub allowed_ok : {A : Type 0} (b : Bool) (x y : A) → if_allowed b x ≡ Ok y → (b ≡ true) × (x ≡ y)
allowed_ok true x y e = (refl, cc)
allowed_ok false x y e = absurd cc

-- which way a choice went
pub chosen : {A : Type 0} (b : Bool) (x y z : A) → cond b x y ≡ z → ((b ≡ true) × (x ≡ z)) ⊎ ((b ≡ false) × (y ≡ z))
chosen true x y z e = inl (refl, e)
chosen false x y z e = inr (refl, e)

abbrev done : {A : Type 0} → A → Result A FieldFault
done x = Ok x

abbrev fails : {A : Type 0} → FieldFault → Result A FieldFault
fails d = Err d

pub ok_is : {A : Type 0} (x y : A) → done x ≡ done y → x ≡ y
ok_is x y e = cc

-- a choice by the number of a kind
pub by_kind : {A : Type 0} (P : ℕ → Type 0) (kind n : ℕ) (x y z : A) → cond (eqb kind n) x y ≡ z → (x ≡ z → P n) → (y ≡ z → P kind) → P kind
by_kind P kind n x y z e f g =
    elim (chosen (eqb kind n) x y z e) [
      | inl h ↦ subst P (sym (eqb-true kind n h.0)) (f h.1)
      | inr h ↦ g h.1
    ]

pub err_is_none : {A : Type 0} (d : FieldFault) (x : A) → fails d ≡ done x → ⊥
err_is_none d x e = absurd cc

-- a value after which nothing followed
pub ended_ok : {A : Type 0} (x : A × List ℕ) (y : A) → if_ended x ≡ Ok y → (x.1 ≡ []) × (x.0 ≡ y)
ended_ok x y e = let a = allowed_ok (eqb (length x.1) 0) x.0 y e in (nil_from_length x.1 (eqb-true (length x.1) 0 a.0), a.1)

pub some_ok : {A : Type 0} (r : Result A FieldFault) (x : A) → some_read r ≡ Some x → r ≡ Ok x
some_ok (Ok y) x e = cc
some_ok (Err d) x e = absurd cc

-- ---- what a reader took from the front

pub record Takes (bytes text rest : List ℕ) : Type 0 where
  pub parts : bytes ≡ text ++ rest
  pub rest_fits : AreBytes rest

pub Takes-none : (a : List ℕ) → AreBytes a → Takes a [] a
Takes-none a h = record { parts = refl; rest_fits = h }

pub Takes-then : (a x b y c : List ℕ) → Takes a x b → Takes b y c → Takes a (x ++ y) c
Takes-then a x b y c p q = record { parts = p.parts ∙ ap (λ (t : List ℕ). x ++ t) q.parts ∙ sym (append_assoc x y c); rest_fits = q.rest_fits }

-- the same where a byte stands before
pub Takes-cons : (n : ℕ) (a x b : List ℕ) → Takes a x b → Takes (n ∷ a) (n ∷ x) b
Takes-cons n a x b p = record { parts = ap (λ (t : List ℕ). n ∷ t) p.parts; rest_fits = p.rest_fits }
