-- Bits of lists and of keys.
use Rattle.std.proofs.Common.{◌≡◌, ℕ, zero, suc, ◌+◌, ◌-◌, ◌*◌, ◌/◌, ◌%◌, ◌^◌, ◌<◌, ◌≤◌, Bool, true, false, List, [], ◌∷◌, ◌++◌, length, drop, get_or, refl, ap, ◌∙◌, arith, add-one, eqb}
use Rattle.std.proofs.Math.Nat.{mod-lt}
use Rattle.vic_wire.specs.Bits.{is_odd, bits_of_byte, key_bits, bit_of, key_bit, shared_front}
use Rattle.vic_wire.proofs.KeyBits.{key_bit-later, key_bit-nothing, shared_front-same}

-- ---- a bit by its byte

pub bit_of-left : (bs cs : List Bool) (i : ℕ) → i < length bs → bit_of (bs ++ cs) i ≡ bit_of bs i
bit_of-left [] cs i h = absurd (omega arith)
bit_of-left (b ∷ bs) cs zero h = refl
bit_of-left (b ∷ bs) cs (suc i) h = bit_of-left bs cs i (omega arith)

pub key_bit-first : (b : ℕ) (key : List ℕ) (i : ℕ) → i < 9 → key_bit (b ∷ key) i ≡ bit_of (true ∷ bits_of_byte b) i
unfolding key_bit key_bits bits_of_byte
key_bit-first b key i h = bit_of-left (true ∷ bits_of_byte b) (key_bits key) i h

-- bit i of a key lies in the byte i / 9
pub key_bit-at : (key : List ℕ) (q r : ℕ) → r < 9 → q < length key → key_bit key (9 * q + r) ≡ bit_of (true ∷ bits_of_byte (get_or key q 0)) r
key_bit-at [] q r h g = absurd (omega arith)
key_bit-at (b ∷ key) zero r h g = ap (key_bit (b ∷ key)) {x = 9 * 0 + r} {y = r} (omega arith) ∙ key_bit-first b key r h
key_bit-at (b ∷ key) (suc q) r h g = ap (key_bit (b ∷ key)) {x = 9 * suc q + r} {y = 9 + (9 * q + r)} (omega arith) ∙ key_bit-later b key (9 * q + r) ∙ key_bit-at key q r h (omega arith)

pub key_bit-past : (key : List ℕ) (q r : ℕ) → length key ≤ q → key_bit key (9 * q + r) ≡ false
key_bit-past [] q r h = key_bit-nothing (9 * q + r)
key_bit-past (b ∷ key) zero r h = absurd (omega arith)
key_bit-past (b ∷ key) (suc q) r h = ap (key_bit (b ∷ key)) {x = 9 * suc q + r} {y = 9 + (9 * q + r)} (omega arith) ∙ key_bit-later b key (9 * q + r) ∙ key_bit-past key q r (omega arith)

-- one bit of a byte
pub byte_bit : (b r : ℕ) → 0 < r → r < 9 → bit_of (true ∷ bits_of_byte b) r ≡ is_odd (b / 2 ^ (8 - r))
unfolding bits_of_byte
byte_bit b zero p h = absurd (omega arith)
byte_bit b (suc zero) p h = refl
byte_bit b (suc (suc zero)) p h = refl
byte_bit b (suc (suc (suc zero))) p h = refl
byte_bit b (suc (suc (suc (suc zero)))) p h = refl
byte_bit b (suc (suc (suc (suc (suc zero))))) p h = refl
byte_bit b (suc (suc (suc (suc (suc (suc zero)))))) p h = refl
byte_bit b (suc (suc (suc (suc (suc (suc (suc zero))))))) p h = refl
byte_bit b (suc (suc (suc (suc (suc (suc (suc (suc zero)))))))) p h = refl
byte_bit b (suc (suc (suc (suc (suc (suc (suc (suc (suc r))))))))) p h = absurd (omega arith)

-- ---- the bits of a byte, one after another

pub drop-bits : (b n : ℕ) → n < 8 → drop n (bits_of_byte b) ≡ is_odd (b / 2 ^ (7 - n)) ∷ drop (suc n) (bits_of_byte b)
unfolding bits_of_byte
drop-bits b zero h = refl
drop-bits b (suc zero) h = refl
drop-bits b (suc (suc zero)) h = refl
drop-bits b (suc (suc (suc zero))) h = refl
drop-bits b (suc (suc (suc (suc zero)))) h = refl
drop-bits b (suc (suc (suc (suc (suc zero))))) h = refl
drop-bits b (suc (suc (suc (suc (suc (suc zero)))))) h = refl
drop-bits b (suc (suc (suc (suc (suc (suc (suc zero))))))) h = refl
drop-bits b (suc (suc (suc (suc (suc (suc (suc (suc n)))))))) h = absurd (omega arith)

shared_front-differ : (g h : ℕ) (bs cs : List Bool) → g < 2 → h < 2 → (g ≡ h → ⊥) → length (shared_front (eqb g 1 ∷ bs) (eqb h 1 ∷ cs)) ≡ 0
shared_front-differ zero zero bs cs p q e = absurd (e refl)
shared_front-differ zero (suc zero) bs cs p q e = refl
shared_front-differ (suc zero) zero bs cs p q e = refl
shared_front-differ (suc zero) (suc zero) bs cs p q e = absurd (e refl)
shared_front-differ zero (suc (suc h)) bs cs p q e = absurd (omega arith)
shared_front-differ (suc zero) (suc (suc h)) bs cs p q e = absurd (omega arith)
shared_front-differ (suc (suc g)) h bs cs p q e = absurd (omega arith)

pub alike_more : (n x y : ℕ) → n < 8 → x / 2 ^ (7 - n) % 2 ≡ y / 2 ^ (7 - n) % 2 → length (shared_front (drop n (bits_of_byte x)) (drop n (bits_of_byte y))) ≡ suc (length (shared_front (drop (n + 1) (bits_of_byte x)) (drop (n + 1) (bits_of_byte y))))
alike_more n x y h e = rw add-one ((λ i. length (shared_front (drop-bits x n h i) (drop-bits y n h i))) ∙ shared_front-same _ _ _ _ (ap (λ m. eqb m 1) e))

pub alike_none : (n x y : ℕ) → n < 8 → (x / 2 ^ (7 - n) % 2 ≡ y / 2 ^ (7 - n) % 2 → ⊥) → length (shared_front (drop n (bits_of_byte x)) (drop n (bits_of_byte y))) ≡ 0
alike_none n x y h e = (λ i. length (shared_front (drop-bits x n h i) (drop-bits y n h i))) ∙ shared_front-differ _ _ _ _ (mod-lt (x / 2 ^ (7 - n)) (omega arith)) (mod-lt (y / 2 ^ (7 - n)) (omega arith)) e

pub alike_end : (n x y : ℕ) → n ≡ 8 → length (shared_front (drop n (bits_of_byte x)) (drop n (bits_of_byte y))) ≡ 0
unfolding bits_of_byte
alike_end n x y e = ap (λ m. length (shared_front (drop m (bits_of_byte x)) (drop m (bits_of_byte y)))) e
