-- The bits of a key tell the key, and the bits of one key are never the front of those of another.
use Rattle.std.proofs.Common.{◌≡◌, ℕ, ◌+◌, ◌*◌, ◌/◌, ◌%◌, ◌<◌, List, [], ◌∷◌, length, arith, refl}
use Rattle.std.proofs.lemmas.Bool.Decides.{nat_tests}
use Rattle.vic_dict.specs.Lists.{AreBytes}
use Rattle.vic_dict.proofs.ByteLists.{AreBytes-head, AreBytes-tail}
use Rattle.vic_wire.specs.Bits.{is_odd, bits_of_byte, key_bits}
use Rattle.vic_roots.proofs.Fronts.{IsFront}

-- numbers with the same last bit have the same remainder
pub same_remainder : (m n : ℕ) → is_odd m ≡ is_odd n → m % 2 ≡ n % 2
same_remainder m n e = grind (arith, nat_tests)

-- a byte is told by its bits
pub same_byte : (x y : ℕ) → x < 256 → y < 256
    → is_odd (x / 128) ≡ is_odd (y / 128) → is_odd (x / 64) ≡ is_odd (y / 64) → is_odd (x / 32) ≡ is_odd (y / 32) → is_odd (x / 16) ≡ is_odd (y / 16)
    → is_odd (x / 8) ≡ is_odd (y / 8) → is_odd (x / 4) ≡ is_odd (y / 4) → is_odd (x / 2) ≡ is_odd (y / 2) → is_odd (x / 1) ≡ is_odd (y / 1) → x ≡ y
same_byte x y small_x small_y a b c d e f g h =
    let a1 = same_remainder (x / 128) (y / 128) a in
    let q1 : x / 128 ≡ y / 128 = omega arith in
    let b1 = same_remainder (x / 64) (y / 64) b in
    let q2 : x / 64 ≡ y / 64 = omega arith in
    let c1 = same_remainder (x / 32) (y / 32) c in
    let q3 : x / 32 ≡ y / 32 = omega arith in
    let d1 = same_remainder (x / 16) (y / 16) d in
    let q4 : x / 16 ≡ y / 16 = omega arith in
    let e1 = same_remainder (x / 8) (y / 8) e in
    let q5 : x / 8 ≡ y / 8 = omega arith in
    let f1 = same_remainder (x / 4) (y / 4) f in
    let q6 : x / 4 ≡ y / 4 = omega arith in
    let g1 = same_remainder (x / 2) (y / 2) g in
    let q7 : x / 2 ≡ y / 2 = omega arith in
    let h1 = same_remainder (x / 1) (y / 1) h in
    omega arith

-- how many bits a key has
pub length-key_bits : (k : List ℕ) → length (key_bits k) ≡ 9 * length k + 1
unfolding key_bits bits_of_byte
length-key_bits [] = refl
length-key_bits (b ∷ k) = omega (arith, length-key_bits k)

-- the bits of a key are the front of those of no other
pub same_from_front : (a b : List ℕ) → AreBytes a → AreBytes b → IsFront (key_bits a) (key_bits b) → a ≡ b
unfolding key_bits bits_of_byte
same_from_front [] [] g h front = refl
same_from_front [] (y ∷ ys) g h front = absurd (cc front.0)
same_from_front (x ∷ xs) [] g h front = absurd (cc front.0)
same_from_front (x ∷ xs) (y ∷ ys) g h front =
    let bits = front.1 in
    let first = same_byte x y (AreBytes-head x xs g) (AreBytes-head y ys h) bits.0 bits.1.0 bits.1.1.0 bits.1.1.1.0 bits.1.1.1.1.0 bits.1.1.1.1.1.0 bits.1.1.1.1.1.1.0 bits.1.1.1.1.1.1.1.0 in
    let rest = same_from_front xs ys (AreBytes-tail x xs g) (AreBytes-tail y ys h) bits.1.1.1.1.1.1.1.1 in
    cc (first, rest)
