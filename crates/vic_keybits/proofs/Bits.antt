-- The bits of keys, at a place, and up to the first difference.
use Rattle.std.proofs.Common.{◌≡◌, ℕ, zero, suc, ◌+◌, ◌-◌, ◌*◌, ◌/◌, ◌%◌, ◌^◌, ◌<◌, ◌≤◌, Bool, true, false, List, [], ◌∷◌, ◌++◌, length, get_or, refl, sym, ap, subst, ◌∙◌, arith}
use Rattle.std.proofs.Common.{inl, inr}
use Rattle.std.proofs.lemmas.Bool.{cases_lt}
use Rattle.std.proofs.lemmas.List.{take_all}
use Rattle.std.proofs.lemmas.Bool.Decides.{nat_tests}
use Rattle.vic_wire.specs.Bits.{is_odd, bits_of_byte, key_bits, key_bit, bit_of, shared_front, shared_bits}
use Rattle.vic_wire.proofs.KeyBits.{key_bit-later, key_bit-nothing}
use Rattle.vic_keybits.specs.LowBits.{low_bits}
use Rattle.vic_keybits.specs.Apart.{AreApartAt}

-- all bits of a byte
pub low_bits_all : (b : ℕ) → bits_of_byte b ≡ low_bits 8 b
unfolding bits_of_byte
low_bits_all b = refl

pub same_at : (f : ℕ → Bool) (m n : ℕ) → m ≡ n → f m ≡ f n
same_at f m n e = ap f e

-- bits that were passed
pub bit_of-skip : (ps qs : List Bool) (i : ℕ) → bit_of (ps ++ qs) (length ps + i) ≡ bit_of qs i
bit_of-skip [] qs i = same_at (bit_of qs) (0 + i) i (omega arith)
bit_of-skip (p ∷ ps) qs i = same_at (bit_of (p ∷ (ps ++ qs))) (suc (length ps) + i) (suc (length ps + i)) (omega arith) ∙ bit_of-skip ps qs i

length-low_bits : (k b : ℕ) → length (low_bits k b) ≡ k
length-low_bits zero b = refl
length-low_bits (suc k) b = ap suc (length-low_bits k b)

-- a bit of a byte, counted from the highest
pub bit_of-low : (k b j : ℕ) (rest : List Bool) → j < k → bit_of (low_bits k b ++ rest) j ≡ is_odd (b / 2 ^ (k - 1 - j))
bit_of-low zero b j rest h = absurd (omega arith)
bit_of-low (suc k) b zero rest h = ap (λ n. is_odd (b / 2 ^ n)) (omega arith)
bit_of-low (suc k) b (suc j) rest h = bit_of-low k b j rest (omega arith) ∙ ap (λ n. is_odd (b / 2 ^ n)) (omega arith)

pub key_bit-mark : (b : ℕ) (key : List ℕ) → key_bit (b ∷ key) 0 ≡ true
unfolding key_bit key_bits
key_bit-mark b key = refl

pub key_bit-byte : (b : ℕ) (key : List ℕ) (j : ℕ) → j < 8 → key_bit (b ∷ key) (suc j) ≡ is_odd (b / 2 ^ (7 - j))
unfolding key_bit key_bits bits_of_byte
key_bit-byte b key j h = bit_of-low 8 b j (key_bits key) h

-- the mark of a byte, a bit of a byte, and the zeros after the key
pub key_bit-mark_at : (key : List ℕ) (place : ℕ) → place < length key → key_bit key (9 * place) ≡ true
key_bit-mark_at [] place h = absurd (omega arith)
key_bit-mark_at (b ∷ key) zero h = key_bit-mark b key
key_bit-mark_at (b ∷ key) (suc place) h = same_at (key_bit (b ∷ key)) (9 * suc place) (9 + 9 * place) (omega arith) ∙ key_bit-later b key (9 * place) ∙ key_bit-mark_at key place (omega arith)

pub key_bit-byte_at : (key : List ℕ) (place j d : ℕ) → place < length key → j < 8 → key_bit key (9 * place + suc j) ≡ is_odd (get_or key place d / 2 ^ (7 - j))
key_bit-byte_at [] place j d h small = absurd (omega arith)
key_bit-byte_at (b ∷ key) zero j d h small = same_at (key_bit (b ∷ key)) (9 * 0 + suc j) (suc j) (omega arith) ∙ key_bit-byte b key j small
key_bit-byte_at (b ∷ key) (suc place) j d h small = same_at (key_bit (b ∷ key)) (9 * suc place + suc j) (9 + (9 * place + suc j)) (omega arith) ∙ key_bit-later b key (9 * place + suc j) ∙ key_bit-byte_at key place j d (omega arith) small

pub key_bit-past : (key : List ℕ) (i : ℕ) → 9 * length key ≤ i → key_bit key i ≡ false
key_bit-past [] i h = key_bit-nothing i
key_bit-past (b ∷ key) i h =
    let e : i ≡ 9 + (i - 9) = omega arith in
    ap (key_bit (b ∷ key)) e ∙ key_bit-later b key (i - 9) ∙ key_bit-past key (i - 9) (omega arith)

-- ---- the first difference

-- what two texts of bits have in common after bits that are the same
common_after : (ps us vs : List Bool) → length (shared_front (ps ++ us) (ps ++ vs)) ≡ length ps + length (shared_front us vs)
common_after [] us vs = omega arith
common_after (true ∷ ps) us vs = ap suc (common_after ps us vs) ∙ omega arith
common_after (false ∷ ps) us vs = ap suc (common_after ps us vs) ∙ omega arith

pub shared_later : (b : ℕ) (x y : List ℕ) → shared_bits (b ∷ x) (b ∷ y) ≡ 9 + shared_bits x y
unfolding key_bits bits_of_byte
shared_later b x y = common_after (true ∷ low_bits 8 b) (key_bits x) (key_bits y)

pub shared_end_left : (y : ℕ) (ys : List ℕ) → shared_bits [] (y ∷ ys) ≡ 0
unfolding key_bits
shared_end_left y ys = refl

pub shared_end_right : (x : ℕ) (xs : List ℕ) → shared_bits (x ∷ xs) [] ≡ 0
unfolding key_bits
shared_end_right x xs = refl

pub shared_here : (x y : ℕ) (xs ys : List ℕ) (n : ℕ) → ((r s : List Bool) → n ≡ length (shared_front (low_bits 8 x ++ r) (low_bits 8 y ++ s))) → shared_bits (x ∷ xs) (y ∷ ys) ≡ suc n
unfolding key_bits bits_of_byte
shared_here x y xs ys n h = ap suc (sym (h (key_bits xs) (key_bits ys)))

pub common_apart : (b c : Bool) (bs cs : List Bool) → (b ≡ c → ⊥) → length (shared_front (b ∷ bs) (c ∷ cs)) ≡ 0
common_apart true true bs cs e = absurd (e refl)
common_apart false false bs cs e = absurd (e refl)
common_apart true false bs cs e = refl
common_apart false true bs cs e = refl

-- where two numbers are the same but for the last bit, that bit tells them apart
pub last_bit : (m n : ℕ) → m / 2 ≡ n / 2 → is_odd m ≡ is_odd n → m ≡ n
last_bit m n h e = let r : m % 2 ≡ n % 2 = grind (arith, nat_tests) in omega arith

-- texts that are apart at a place
pub shared_at : (a b : List ℕ) (place : ℕ) (n : ℕ) → AreApartAt a b place → place < length a → place < length b
    → ((r s : List Bool) → n ≡ length (shared_front (low_bits 8 (get_or a place 0) ++ r) (low_bits 8 (get_or b place 0) ++ s)))
    → 9 * place + 1 + n ≡ shared_bits a b
shared_at [] b place n h la lb e = absurd (omega arith)
shared_at (x ∷ xs) [] place n h la lb e = absurd (omega arith)
shared_at (x ∷ xs) (y ∷ ys) zero n h la lb e = omega (arith, shared_here x y xs ys n e)
shared_at (x ∷ xs) (y ∷ ys) (suc place) n h la lb e =
    let heads : x ≡ y = cc (h.same) in
    let rest = shared_at xs ys place n (record { within_first = omega (arith, h.within_first); within_second = omega (arith, h.within_second); same = cc (h.same); apart = λ p q f. h.apart (omega arith) (omega arith) f }) (omega arith) (omega arith) e in
    omega (arith, rest, ap (λ z. shared_bits (x ∷ xs) (z ∷ ys)) heads, shared_later x xs ys)

pub shared_ended : (a b : List ℕ) (place : ℕ) → AreApartAt a b place → (length a ≡ length b → ⊥) → (place < length a → place < length b → ⊥) → 9 * place ≡ shared_bits a b
shared_ended [] [] place h differ ended = absurd (differ refl)
shared_ended [] (y ∷ ys) place h differ ended = let w = h.within_first in omega (arith, shared_end_left y ys)
shared_ended (x ∷ xs) [] place h differ ended = let w = h.within_second in omega (arith, shared_end_right x xs)
shared_ended (x ∷ xs) (y ∷ ys) zero h differ ended = absurd (ended (omega arith) (omega arith))
shared_ended (x ∷ xs) (y ∷ ys) (suc place) h differ ended =
    let heads : x ≡ y = cc (h.same) in
    let rest = shared_ended xs ys place (record { within_first = omega (arith, h.within_first); within_second = omega (arith, h.within_second); same = cc (h.same); apart = λ p q f. h.apart (omega arith) (omega arith) f }) (λ e. differ (omega arith)) (λ p q. ended (omega arith) (omega arith)) in
    omega (arith, rest, ap (λ z. shared_bits (x ∷ xs) (z ∷ ys)) heads, shared_later x xs ys)

full_at : (m n : ℕ) → m ≤ n → (m < n → ⊥) → m ≡ n
full_at m n h g = elim (cases_lt m n) [ inl p ↦ absurd (g p) | inr p ↦ omega arith ]

pub same_ended : (a b : List ℕ) (place : ℕ) → AreApartAt a b place → length a ≡ length b → (place < length a → place < length b → ⊥) → a ≡ b
same_ended a b place h e ended =
    let wa = h.within_first in
    let full : place ≡ length a = full_at place (length a) wa (λ p. ended p (omega arith)) in
    sym (take_all place a (omega arith)) ∙ h.same ∙ take_all place b (omega arith)

-- ---- where two bytes differ

-- half of a number's upper bits is one bit less
half : (k n : ℕ) → k < 8 → n / 2 ^ k / 2 ≡ n / 2 ^ suc k
half zero n h = omega arith
half (suc zero) n h = omega arith
half (suc (suc zero)) n h = omega arith
half (suc (suc (suc zero))) n h = omega arith
half (suc (suc (suc (suc zero)))) n h = omega arith
half (suc (suc (suc (suc (suc zero))))) n h = omega arith
half (suc (suc (suc (suc (suc (suc zero)))))) n h = omega arith
half (suc (suc (suc (suc (suc (suc (suc zero))))))) n h = omega arith
half (suc (suc (suc (suc (suc (suc (suc (suc k)))))))) n h = absurd (omega arith)

pub apart_first : (left below x y : ℕ) (r s : List Bool) → left ≡ suc below → below < 8 → x / 2 ^ left ≡ y / 2 ^ left → (x / 2 ^ below ≡ y / 2 ^ below → ⊥) → 0 ≡ length (shared_front (low_bits left x ++ r) (low_bits left y ++ s))
apart_first left below x y r s e small same apart =
    let upper : x / 2 ^ suc below ≡ y / 2 ^ suc below = subst (λ n. x / 2 ^ n ≡ y / 2 ^ n) e same in
    let first : 0 ≡ length (shared_front (low_bits (suc below) x ++ r) (low_bits (suc below) y ++ s)) =
    sym (common_apart _ _ _ _ (λ bits. apart (last_bit _ _ (half below x small ∙ upper ∙ sym (half below y small)) bits))) in
    subst (λ n. 0 ≡ length (shared_front (low_bits n x ++ r) (low_bits n y ++ s))) (sym e) first
