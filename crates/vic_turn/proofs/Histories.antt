-- Beginnings of histories, and the changes of one seat.
use Rattle.std.proofs.Common.{◌≡◌, ◌≢◌, ℕ, ◌<◌, ◌≤◌, ◌⊎◌, ⊎_elim, inl, inr, List, [], ◌∷◌, ◌++◌, length, Bool, true, false, cond, eqb, eq-eqb, ne_eqb, leb, refl, ap, sym, ◌∙◌, arith, append_assoc, append-nil}
use mathlib.Core.List.{IsPrefix}
use Rattle.std.proofs.lemmas.Bool.Decides.{leb_tells}
use Rattle.vic_change.specs.declared.Change.{Change}
use Rattle.vic_change.specs.Changes.{of_seat}
use Rattle.vic_turn.specs.Changes.{Each}
use Rattle.vic_turn.specs.Told.{longer_list, IsLonger}

pub bool_cases : (b : Bool) → (b ≡ true) ⊎ (b ≡ false)
bool_cases true = inl refl
bool_cases false = inr refl

pub cond_same : (n a b : ℕ) → cond (eqb n n) a b ≡ a
cond_same n a b = ap (λ t. cond t a b) (eq-eqb n n refl)

pub cond_other : (k n a b : ℕ) → k ≢ n → cond (eqb k n) a b ≡ b
cond_other k n a b ne = ap (λ t. cond t a b) (ne_eqb k n ne)

module _ {A : Type 0} where
  pub each_map : (P Q : A → Type 0) → ((x : A) → P x → Q x) → (xs : List A) → Each P xs → Each Q xs
  each_map P Q f [] e = tt
  each_map P Q f (x ∷ xs) e = (f x e.0, each_map P Q f xs e.1)

  pub each_append : (P : A → Type 0) (xs ys : List A) → Each P xs → Each P ys → Each P (xs ++ ys)
  each_append P [] ys e d = d
  each_append P (x ∷ xs) ys e d = (e.0, each_append P xs ys e.1 d)

  pub prefix_self : (xs : List A) → IsPrefix xs xs
  prefix_self xs = ([], append-nil xs)

  pub prefix_trans : (xs ys zs : List A) → IsPrefix xs ys → IsPrefix ys zs → IsPrefix xs zs
  prefix_trans xs ys zs p q = (p.0 ++ q.0, sym (append_assoc xs p.0 q.0) ∙ (ap (λ w. w ++ q.0) p.1 ∙ q.1))

  pub append_cancel : (xs ys zs : List A) → xs ++ ys ≡ xs ++ zs → ys ≡ zs
  append_cancel [] ys zs e = e
  append_cancel (x ∷ xs) ys zs e = append_cancel xs ys zs (cc e)

  -- of two beginnings of one list the shorter begins the longer
  pub prefix_shorter : (xs ys zs : List A) → IsPrefix xs zs → IsPrefix ys zs → length xs ≤ length ys → IsPrefix xs ys
  prefix_shorter [] ys zs p q le = (ys, refl)
  prefix_shorter (x ∷ xs) [] zs p q le = absurd (omega arith)
  prefix_shorter (x ∷ xs) (y ∷ ys) [] p q le = absurd (cc (p.1))
  prefix_shorter (x ∷ xs) (y ∷ ys) (z ∷ zs) p q le =
      let heads : x ≡ y = cc (p.1, q.1) in
      let rest = prefix_shorter xs ys zs (p.0, cc (p.1)) (q.0, cc (q.1)) (omega arith) in
      (rest.0, cc (heads, rest.1))

pub longer_begins : (xs ys zs : List Change) → IsPrefix xs zs → IsPrefix ys zs → IsPrefix (longer_list xs ys) zs
longer_begins xs ys zs p q = chosen (leb (length ys) (length xs))
  where
    chosen : (b : Bool) → IsPrefix (cond b xs ys) zs
    chosen true = p
    chosen false = q

pub of_seat-append : (n : ℕ) (xs ys : List Change) → of_seat n (xs ++ ys) ≡ of_seat n xs ++ of_seat n ys
of_seat-append n [] ys = refl
of_seat-append n (c ∷ xs) ys = picked (eqb n c.seat) (of_seat-append n xs ys)
  where
    picked : (b : Bool) → of_seat n (xs ++ ys) ≡ of_seat n xs ++ of_seat n ys → cond b (c ∷ of_seat n (xs ++ ys)) (of_seat n (xs ++ ys)) ≡ cond b (c ∷ of_seat n xs) (of_seat n xs) ++ of_seat n ys
    picked true e = ap (λ l. c ∷ l) e
    picked false e = e

-- changes of one seat alone
pub of_seat_own : (n : ℕ) (xs : List Change) → Each (λ c. c.seat ≡ n) xs → of_seat n xs ≡ xs
of_seat_own n [] e = refl
of_seat_own n (c ∷ xs) e = ap (λ b. cond b (c ∷ of_seat n xs) (of_seat n xs)) (eq-eqb n c.seat (sym e.0)) ∙ ap (λ l. c ∷ l) (of_seat_own n xs e.1)

pub of_seat_others : (k n : ℕ) (xs : List Change) → k ≢ n → Each (λ c. c.seat ≡ n) xs → of_seat k xs ≡ []
of_seat_others k n [] ne e = refl
of_seat_others k n (c ∷ xs) ne e = ap (λ b. cond b (c ∷ of_seat k xs) (of_seat k xs)) (ne_eqb k c.seat (λ h. ne (h ∙ e.0))) ∙ of_seat_others k n xs ne e.1

-- a number that no change has
pub of_seat_none : (k made : ℕ) (xs : List Change) → made < k → Each (λ c. (0 < c.seat) × (c.seat ≤ made)) xs → of_seat k xs ≡ []
of_seat_none k made [] a e = refl
of_seat_none k made (c ∷ xs) a e = ap (λ b. cond b (c ∷ of_seat k xs) (of_seat k xs)) (ne_eqb k c.seat (λ h. omega (arith, e.0, h))) ∙ of_seat_none k made xs a e.1

pub longer_is : (xs ys zs : List Change) → IsPrefix xs zs → IsPrefix ys zs → IsLonger xs ys (longer_list xs ys)
longer_is xs ys zs p q =
    ⊎_elim
    (λ (h : (leb (length ys) (length xs) ≡ true) × (length ys ≤ length xs)). inl (prefix_shorter ys xs zs q p h.1, ap (λ b. cond b xs ys) h.0))
    (λ (h : (leb (length ys) (length xs) ≡ false) × (length xs < length ys)). inr (prefix_shorter xs ys zs p q (omega (arith, h.1)), ap (λ b. cond b xs ys) h.0))
    (leb_tells (length ys) (length xs))
