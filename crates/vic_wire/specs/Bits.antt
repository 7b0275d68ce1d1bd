-- The bits of a key: nine for each byte, a 1 and then the byte's bits, the highest first; one 0 ends the key, and zeros follow.
use Rattle.std.specs.Prelude.{ℕ, zero, suc, ◌/◌, ◌%◌, Bool, true, false, List, [], ◌∷◌, ◌++◌, length, nat_eq, if◌then◌else◌}

abbrev pub is_odd : ℕ → Bool
is_odd n = nat_eq (n % 2) 1

unfoldable pub bits_of_byte : ℕ → List Bool
bits_of_byte b =
    is_odd (b / 128) ∷ is_odd (b / 64) ∷ is_odd (b / 32) ∷ is_odd (b / 16)
    ∷ is_odd (b / 8) ∷ is_odd (b / 4) ∷ is_odd (b / 2) ∷ is_odd (b / 1) ∷ []

-- the bits of a key, as many as it has
unfoldable pub key_bits : List ℕ → List Bool
key_bits [] = false ∷ []
key_bits (b ∷ key) = true ∷ bits_of_byte b ++ key_bits key

-- a bit of a list; past the end it is 0
abbrev pub bit_of : List Bool → ℕ → Bool
bit_of [] i = false
bit_of (b ∷ bits) zero = b
bit_of (b ∷ bits) (suc i) = bit_of bits i

-- bit i of a key, counted from 0
unfoldable pub key_bit : List ℕ → ℕ → Bool
key_bit key i = bit_of (key_bits key) i

abbrev pub same_bit : Bool → Bool → Bool
same_bit true true = true
same_bit true false = false
same_bit false true = false
same_bit false false = true

-- the longest common prefix of two lists of bits
abbrev pub shared_front : List Bool → List Bool → List Bool
shared_front [] cs = []
shared_front (b ∷ bs) [] = []
shared_front (b ∷ bs) (c ∷ cs) = if same_bit b c then b ∷ shared_front bs cs else []

-- how many bits two keys have in common at their front
abbrev pub shared_bits : List ℕ → List ℕ → ℕ
shared_bits a b = length (shared_front (key_bits a) (key_bits b))
