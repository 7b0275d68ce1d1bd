-- The order of bits is the order of bytes, and two keys part at the length of their longest common prefix of bits.
use Rattle.std.proofs.Common.{◌≡◌, ◌≢◌, ℕ, zero, suc, ◌+◌, ◌*◌, ◌/◌, ◌%◌, ◌^◌, ◌<◌, ◌≤◌, Bool, true, false, List, [], ◌∷◌, ◌++◌, length, drop, get_or, refl, sym, ap, subst, ◌∙◌, arith, add-one, inl, inr, ◌⊎◌, eqb}
use Rattle.std.proofs.Math.Arith.{mod-mul}
use Rattle.std.proofs.Math.Nat.{mod-lt}
use Rattle.std.proofs.lemmas.List.{length-drop}
use Rattle.std.proofs.Math.Seq.{drop-cons}
use Rattle.std.proofs.lemmas.Nat.{pow_pos}
use Rattle.std.specs.declared.cmp.Ordering.{Ordering}
use Rattle.std.specs.declared.cmp.Ordering.TheVariants.{Less, Equal, Greater}
use Rattle.std.specs.Ordering.{nat_cmp, ordering_then, MatchOrdering}
use Rattle.std.specs.Cmp.{nat_cmp_is, ranks}
use Rattle.std.specs.Cmp.Lexicographic.{slice_cmp}
use Rattle.std.specs.FinMap.{nat_cmp-IsAntisymmetric}
use Rattle.vic_wire.specs.Bits.{is_odd, bits_of_byte, key_bits, bit_of, key_bit, shared_front, shared_bits}
use Rattle.vic_wire.proofs.KeyBits.{bit_of-right}
use Rattle.vic_tree.specs.Grown.{bit_cmp, PartsAt}
use Rattle.vic_dict.specs.Lists.{AreBytes}
use Rattle.vic_dict.proofs.ByteLists.{AreBytes-tail}
use Rattle.vic_tree.proofs.KeyBits.{bit_of-left}

-- ---- the order of bytes

then_assoc : (a b c : Ordering) → ordering_then a (ordering_then b c) ≡ ordering_then (ordering_then a b) c
then_assoc Less b c = refl
then_assoc Equal b c = refl
then_assoc Greater b c = refl

pub slice_cmp-append : {K : Type 0} (R : K → K → Ordering) (xs ys us vs : List K) → length xs ≡ length ys → slice_cmp R (xs ++ us) (ys ++ vs) ≡ ordering_then (slice_cmp R xs ys) (slice_cmp R us vs)
slice_cmp-append R [] [] us vs e = refl
slice_cmp-append R [] (y ∷ ys) us vs e = absurd (omega arith)
slice_cmp-append R (x ∷ xs) [] us vs e = absurd (omega arith)
slice_cmp-append R (x ∷ xs) (y ∷ ys) us vs e = ap (ordering_then (R x y)) (slice_cmp-append R xs ys us vs (omega arith)) ∙ then_assoc (R x y) (slice_cmp R xs ys) (slice_cmp R us vs)

moved : (p x y : ℕ) (r : Ordering) → MatchOrdering r (x < y) (x ≡ y) (y < x) → MatchOrdering r (p + x < p + y) (p + x ≡ p + y) (p + y < p + x)
moved p x y Less h = omega arith
moved p x y Equal h = omega arith
moved p x y Greater h = omega arith

nat_cmp-moved : (p x y : ℕ) → nat_cmp x y ≡ nat_cmp (p + x) (p + y)
nat_cmp-moved p x y = nat_cmp_is (p + x) (p + y) (nat_cmp x y) (moved p x y (nat_cmp x y) (ranks x y))

-- the highest bit decides, and else the others
high_first : (p g h x y : ℕ) → g < 2 → h < 2 → x < p → y < p → ordering_then (bit_cmp (eqb g 1) (eqb h 1)) (nat_cmp x y) ≡ nat_cmp (g * p + x) (h * p + y)
high_first p zero zero x y gs hs xs ys = nat_cmp-moved (0 * p) x y
high_first p zero (suc zero) x y gs hs xs ys = nat_cmp_is (0 * p + x) (1 * p + y) Less (omega arith)
high_first p (suc zero) zero x y gs hs xs ys = nat_cmp_is (1 * p + x) (0 * p + y) Greater (omega arith)
high_first p (suc zero) (suc zero) x y gs hs xs ys = nat_cmp-moved (1 * p) x y
high_first p zero (suc (suc h)) x y gs hs xs ys = absurd (omega arith)
high_first p (suc zero) (suc (suc h)) x y gs hs xs ys = absurd (omega arith)
high_first p (suc (suc g)) h x y gs hs xs ys = absurd (omega arith)

-- the lowest n bits of a number, the highest first
low_bits : ℕ → ℕ → List Bool
low_bits zero b = []
low_bits (suc n) b = is_odd (b / 2 ^ n) ∷ low_bits n b

two_pow : (n : ℕ) → 0 < 2 ^ n
two_pow n = pow_pos n

split_mod : (n x : ℕ) → x % 2 ^ suc n ≡ (x / 2 ^ n % 2) * 2 ^ n + x % 2 ^ n
split_mod n x = let e : 2 ^ suc n ≡ 2 * 2 ^ n = omega arith in ap (λ m. x % m) e ∙ mod-mul x (omega arith) (two_pow n)

low_order : (n x y : ℕ) → slice_cmp bit_cmp (low_bits n x) (low_bits n y) ≡ nat_cmp (x % 2 ^ n) (y % 2 ^ n)
unfolding low_bits
low_order zero x y = let a : x % 1 ≡ 0 = omega arith in let b : y % 1 ≡ 0 = omega arith in (λ i. nat_cmp (sym a i) (sym b i))
low_order (suc n) x y =
    ap (ordering_then (bit_cmp (is_odd (x / 2 ^ n)) (is_odd (y / 2 ^ n)))) (low_order n x y)
    ∙ high_first (2 ^ n) (x / 2 ^ n % 2) (y / 2 ^ n % 2) (x % 2 ^ n) (y % 2 ^ n) (mod-lt (x / 2 ^ n) (omega arith)) (mod-lt (y / 2 ^ n) (omega arith)) (mod-lt x (two_pow n)) (mod-lt y (two_pow n))
    ∙ (λ i. nat_cmp (sym (split_mod n x) i) (sym (split_mod n y) i))

bits-low : (b : ℕ) → bits_of_byte b ≡ low_bits 8 b
unfolding low_bits bits_of_byte
bits-low b = refl

small : (x : ℕ) → x < 256 → x % 2 ^ 8 ≡ x
small x h = omega arith

pub byte_order : (x y : ℕ) → x < 256 → y < 256 → slice_cmp bit_cmp (bits_of_byte x) (bits_of_byte y) ≡ nat_cmp x y
byte_order x y h g = (λ i. slice_cmp bit_cmp (bits-low x i) (bits-low y i)) ∙ low_order 8 x y ∙ (λ i. nat_cmp (small x h i) (small y g i))

pub bit_order : (a b : List ℕ) → AreBytes a → AreBytes b → slice_cmp bit_cmp (key_bits a) (key_bits b) ≡ slice_cmp nat_cmp a b
unfolding key_bits bits_of_byte
bit_order [] [] h g = refl
bit_order [] (y ∷ ys) h g = refl
bit_order (x ∷ xs) [] h g = refl
bit_order (x ∷ xs) (y ∷ ys) h g =
    slice_cmp-append bit_cmp (bits_of_byte x) (bits_of_byte y) (key_bits xs) (key_bits ys) refl
    ∙ (λ i. ordering_then (byte_order x y (h 0) (g 0) i) (bit_order xs ys (AreBytes-tail x xs h) (AreBytes-tail y ys g) i))

bit_cmp-same : (b c : Bool) → bit_cmp b c ≡ Equal → b ≡ c
bit_cmp-same true true e = refl
bit_cmp-same true false e = cc
bit_cmp-same false true e = cc
bit_cmp-same false false e = refl

bit_cmp-self : (b : Bool) → bit_cmp b b ≡ Equal
bit_cmp-self true = refl
bit_cmp-self false = refl

slice_cmp-self : (bs : List Bool) → slice_cmp bit_cmp bs bs ≡ Equal
slice_cmp-self [] = refl
slice_cmp-self (b ∷ bs) = ap (λ o. ordering_then o (slice_cmp bit_cmp bs bs)) (bit_cmp-self b) ∙ slice_cmp-self bs

-- bytes of the same bits are one
pub same_byte : (x y : ℕ) → x < 256 → y < 256 → bits_of_byte x ≡ bits_of_byte y → x ≡ y
same_byte x y h g e = nat_cmp-IsAntisymmetric x y (sym (byte_order x y h g) ∙ ap (slice_cmp bit_cmp (bits_of_byte x)) (sym e) ∙ slice_cmp-self (bits_of_byte x))

-- ---- where lists of bits part

abbrev pub Differ : ℕ → List Bool → List Bool → Type 0
Differ i bs cs = ((bit_of bs i ≡ false) × (bit_of cs i ≡ true)) ⊎ ((bit_of bs i ≡ true) × (bit_of cs i ≡ false))

shared_front-below : (bs cs : List Bool) (j : ℕ) → j < length (shared_front bs cs) → bit_of bs j ≡ bit_of cs j
shared_front-below [] cs j h = absurd (omega arith)
shared_front-below (b ∷ bs) [] j h = absurd (omega arith)
shared_front-below (true ∷ bs) (true ∷ cs) zero h = refl
shared_front-below (true ∷ bs) (true ∷ cs) (suc j) h = shared_front-below bs cs j (omega arith)
shared_front-below (false ∷ bs) (false ∷ cs) zero h = refl
shared_front-below (false ∷ bs) (false ∷ cs) (suc j) h = shared_front-below bs cs j (omega arith)
shared_front-below (true ∷ bs) (false ∷ cs) j h = absurd (omega arith)
shared_front-below (false ∷ bs) (true ∷ cs) j h = absurd (omega arith)

pub length-shared_front-front : (bs ks ls : List Bool) → length (shared_front (bs ++ ks) (bs ++ ls)) ≡ length bs + length (shared_front ks ls)
length-shared_front-front [] ks ls = omega arith
length-shared_front-front (true ∷ bs) ks ls = omega (arith, length-shared_front-front bs ks ls)
length-shared_front-front (false ∷ bs) ks ls = omega (arith, length-shared_front-front bs ks ls)

pub same_or_differ : (bs cs ks ls : List Bool) → length bs ≡ length cs → (bs ≡ cs) ⊎ ((length (shared_front (bs ++ ks) (cs ++ ls)) ≡ length (shared_front bs cs)) × (length (shared_front bs cs) < length bs) × Differ (length (shared_front bs cs)) bs cs)
same_or_differ [] [] ks ls e = inl refl
same_or_differ [] (c ∷ cs) ks ls e = absurd (omega arith)
same_or_differ (b ∷ bs) [] ks ls e = absurd (omega arith)
same_or_differ (true ∷ bs) (true ∷ cs) ks ls e = elim (same_or_differ bs cs ks ls (omega arith)) [ inl q ↦ inl (ap (λ xs. true ∷ xs) q) | inr d ↦ inr (ap suc d.0, omega (arith, d.1), d.2) ]
same_or_differ (false ∷ bs) (false ∷ cs) ks ls e = elim (same_or_differ bs cs ks ls (omega arith)) [ inl q ↦ inl (ap (λ xs. false ∷ xs) q) | inr d ↦ inr (ap suc d.0, omega (arith, d.1), d.2) ]
same_or_differ (true ∷ bs) (false ∷ cs) ks ls e = inr (refl, omega arith, inr (refl, refl))
same_or_differ (false ∷ bs) (true ∷ cs) ks ls e = inr (refl, omega arith, inl (refl, refl))

Differ-left : (i : ℕ) (bs cs ks ls : List Bool) → i < length bs → i < length cs → Differ i bs cs → Differ i (bs ++ ks) (cs ++ ls)
Differ-left i bs cs ks ls h g (inl d) = inl (bit_of-left bs ks i h ∙ d.0, bit_of-left cs ls i g ∙ d.1)
Differ-left i bs cs ks ls h g (inr d) = inr (bit_of-left bs ks i h ∙ d.0, bit_of-left cs ls i g ∙ d.1)

Differ-right : (i : ℕ) (bs ks ls : List Bool) → Differ i ks ls → Differ (length bs + i) (bs ++ ks) (bs ++ ls)
Differ-right i bs ks ls (inl d) = inl (bit_of-right bs ks i ∙ d.0, bit_of-right bs ls i ∙ d.1)
Differ-right i bs ks ls (inr d) = inr (bit_of-right bs ks i ∙ d.0, bit_of-right bs ls i ∙ d.1)

pub shared_bits-first : (x : ℕ) (xs ys : List ℕ) → shared_bits (x ∷ xs) (x ∷ ys) ≡ 9 + shared_bits xs ys
unfolding key_bits bits_of_byte
shared_bits-first x xs ys = length-shared_front-front (true ∷ bits_of_byte x) (key_bits xs) (key_bits ys)

-- at bytes that differ the first keys part within the byte
pub shared_bits-differ : (x y : ℕ) (xs ys : List ℕ) → x < 256 → y < 256 → (x ≡ y → ⊥) → shared_bits (x ∷ xs) (y ∷ ys) ≡ 1 + length (shared_front (bits_of_byte x) (bits_of_byte y))
unfolding key_bits bits_of_byte
shared_bits-differ x y xs ys h g ne = elim (same_or_differ (bits_of_byte x) (bits_of_byte y) (key_bits xs) (key_bits ys) refl) [
  | inl q ↦ absurd (ne (same_byte x y h g q))
  | inr d ↦ omega (arith, d.0)
]

same_or_part : (a b : List ℕ) → AreBytes a → AreBytes b → (a ≡ b) ⊎ Differ (shared_bits a b) (key_bits a) (key_bits b)
unfolding key_bits bits_of_byte
same_or_part [] [] h g = inl refl
same_or_part [] (y ∷ ys) h g = inr (inl (refl, refl))
same_or_part (x ∷ xs) [] h g = inr (inr (refl, refl))
same_or_part (x ∷ xs) (y ∷ ys) h g =
    elim (same_or_differ (true ∷ bits_of_byte x) (true ∷ bits_of_byte y) (key_bits xs) (key_bits ys) refl) [
      | inl q ↦
          let e = same_byte x y (h 0) (g 0) (ap rest q) in
          elim (same_or_part xs ys (AreBytes-tail x xs h) (AreBytes-tail y ys g)) [
            | inl r ↦ inl (λ i. e i ∷ r i)
            | inr d ↦
                let n = sym (length-shared_front-front (true ∷ bits_of_byte x) (key_bits xs) (key_bits ys)) in
                let at : Differ (shared_bits (x ∷ xs) (x ∷ ys)) (key_bits (x ∷ xs)) (key_bits (x ∷ ys)) = subst (λ (n : ℕ). Differ n (key_bits (x ∷ xs)) (key_bits (x ∷ ys))) n (Differ-right (shared_bits xs ys) (true ∷ bits_of_byte x) (key_bits xs) (key_bits ys) d) in
                inr (subst (λ (z : ℕ). Differ (shared_bits (x ∷ xs) (z ∷ ys)) (key_bits (x ∷ xs)) (key_bits (z ∷ ys))) e at)
          ]
      | inr d ↦ inr (subst (λ (n : ℕ). Differ n (key_bits (x ∷ xs)) (key_bits (y ∷ ys))) (sym d.0) (Differ-left _ (true ∷ bits_of_byte x) (true ∷ bits_of_byte y) (key_bits xs) (key_bits ys) d.1 d.1 d.2))
    ]
  where
    rest : List Bool → List Bool
    rest [] = []
    rest (b ∷ bs) = bs

-- two keys are one, or they part where their longest common prefix of bits ends
pub parts : (a b : List ℕ) → AreBytes a → AreBytes b → (a ≡ b) ⊎ (PartsAt (shared_bits a b) a b ⊎ PartsAt (shared_bits a b) b a)
unfolding key_bit
parts a b h g = elim (same_or_part a b h g) [
  | inl e ↦ inl e
  | inr d ↦ elim d [
    | inl p ↦ inr (inl (record { same = λ j k. shared_front-below (key_bits a) (key_bits b) j k; left = p.0; right = p.1 }))
    | inr p ↦ inr (inr (record { same = λ j k. sym (shared_front-below (key_bits a) (key_bits b) j k); left = p.1; right = p.0 }))
  ]
]

-- ---- the key with the 0 is the less

below-bits : (i : ℕ) (bs cs : List Bool) → ((j : ℕ) → j < i → bit_of bs j ≡ bit_of cs j) → bit_of bs i ≡ false → bit_of cs i ≡ true → slice_cmp bit_cmp bs cs ≡ Less
below-bits i [] [] s l r = cc
below-bits i [] (c ∷ cs) s l r = refl
below-bits zero (b ∷ bs) [] s l r = cc
below-bits (suc i) (b ∷ bs) [] s l r = cc
below-bits zero (b ∷ bs) (c ∷ cs) s l r = (λ i. ordering_then (bit_cmp (l i) (r i)) (slice_cmp bit_cmp bs cs))
below-bits (suc i) (b ∷ bs) (c ∷ cs) s l r =
    ap (λ o. ordering_then o (slice_cmp bit_cmp bs cs)) (ap (bit_cmp b) (sym (s 0 (omega arith))) ∙ bit_cmp-self b)
    ∙ below-bits i bs cs (λ j h. s (suc j) (omega arith)) l r

pub PartsAt-less : (i : ℕ) (a b : List ℕ) → AreBytes a → AreBytes b → PartsAt i a b → slice_cmp nat_cmp a b ≡ Less
unfolding key_bit
PartsAt-less i a b h g p = sym (bit_order a b h g) ∙ below-bits i (key_bits a) (key_bits b) p.same p.left p.right

-- ---- where a step over the bytes of two keys leaves them

pub shared_at : (a b : List ℕ) (n : ℕ) → n < length a → n < length b → get_or a n 0 ≡ get_or b n 0
    → (shared_bits (drop n a) (drop n b) ≡ 9 + shared_bits (drop (n + 1) a) (drop (n + 1) b)) × (drop (n + 1) a ≡ drop (n + 1) b → drop n a ≡ drop n b)
shared_at a b n h g e = rw add-one (
    let p = drop-cons a n 0 h in let q = drop-cons b n 0 g ∙ ap (λ x. x ∷ drop (suc n) b) (sym e) in
    ((λ i. shared_bits (p i) (q i)) ∙ shared_bits-first (get_or a n 0) (drop (suc n) a) (drop (suc n) b), λ r. p ∙ ap (λ xs. get_or a n 0 ∷ xs) r ∙ sym q))

pub shared_apart : (a b : List ℕ) (n : ℕ) → n < length a → n < length b → AreBytes a → AreBytes b → (get_or a n 0 ≡ get_or b n 0 → ⊥)
    → shared_bits (drop n a) (drop n b) ≡ 1 + length (shared_front (bits_of_byte (get_or a n 0)) (bits_of_byte (get_or b n 0)))
shared_apart a b n h g fa fb e = (λ i. shared_bits (drop-cons a n 0 h i) (drop-cons b n 0 g i)) ∙ shared_bits-differ _ _ _ _ (fa n) (fb n) e

shared_ended : (a b : List ℕ) → length a ≢ length b → (length a ≡ 0) ⊎ (length b ≡ 0) → shared_bits a b ≡ 0
unfolding key_bits
shared_ended [] [] ne e = absurd (ne refl)
shared_ended [] (y ∷ ys) ne e = refl
shared_ended (x ∷ xs) [] ne e = refl
shared_ended (x ∷ xs) (y ∷ ys) ne (inl e) = absurd (omega arith)
shared_ended (x ∷ xs) (y ∷ ys) ne (inr e) = absurd (omega arith)

pub shared_end : (a b : List ℕ) (n : ℕ) → length a ≢ length b → (n ≡ length a) ⊎ (n ≡ length b) → n ≤ length a → n ≤ length b → shared_bits (drop n a) (drop n b) ≡ 0
shared_end a b n ne (inl e) p q = shared_ended (drop n a) (drop n b) (λ r. ne (omega (arith, length-drop n a, length-drop n b, r))) (inl (omega (arith, length-drop n a)))
shared_end a b n ne (inr e) p q = shared_ended (drop n a) (drop n b) (λ r. ne (omega (arith, length-drop n a, length-drop n b, r))) (inr (omega (arith, length-drop n b)))
