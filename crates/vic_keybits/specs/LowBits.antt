-- The low bits of a byte, the highest of them first.
use Rattle.std.specs.Prelude.{ℕ, zero, suc, ◌/◌, ◌^◌, Bool, List, [], ◌∷◌}
use Rattle.vic_wire.specs.Bits.{is_odd}

abbrev pub low_bits : ℕ → ℕ → List Bool
low_bits zero b = []
low_bits (suc k) b = is_odd (b / 2 ^ k) ∷ low_bits k b
