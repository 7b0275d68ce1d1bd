-- Bits of keys, byte by byte, and the front that two lists of bits share.
use Rattle.std.proofs.Common.{◌≡◌, ℕ, zero, suc, ◌+◌, ◌-◌, ◌*◌, Bool, true, false, List, [], ◌∷◌, ◌++◌, length, refl, ap, ◌∙◌, arith}
use Rattle.vic_wire.specs.Bits.{bits_of_byte, key_bits, bit_of, key_bit, shared_front}

pub bit_of-right : (bs cs : List Bool) (i : ℕ) → bit_of (bs ++ cs) (length bs + i) ≡ bit_of cs i
bit_of-right [] cs i = ap (bit_of cs) (omega arith)
bit_of-right (b ∷ bs) cs i = ap (bit_of (b ∷ (bs ++ cs))) {x = suc (length bs) + i} {y = suc (length bs + i)} (omega arith) ∙ bit_of-right bs cs i

pub key_bit-later : (b : ℕ) (key : List ℕ) (i : ℕ) → key_bit (b ∷ key) (9 + i) ≡ key_bit key i
unfolding key_bit key_bits bits_of_byte
key_bit-later b key i = bit_of-right (true ∷ bits_of_byte b) (key_bits key) i

pub key_bit-nothing : (i : ℕ) → key_bit [] i ≡ false
unfolding key_bit key_bits
key_bit-nothing zero = refl
key_bit-nothing (suc i) = refl

pub length-key_bits : (key : List ℕ) → length (key_bits key) ≡ 9 * length key + 1
unfolding key_bits bits_of_byte
length-key_bits [] = refl
length-key_bits (b ∷ key) = omega (arith, length-key_bits key)

pub shared_front-same : (b c : Bool) (bs cs : List Bool) → b ≡ c → length (shared_front (b ∷ bs) (c ∷ cs)) ≡ suc (length (shared_front bs cs))
shared_front-same true true bs cs e = refl
shared_front-same false false bs cs e = refl
shared_front-same true false bs cs e = cc
shared_front-same false true bs cs e = cc
