-- What is shown of the order of keys and of their bits.
use Rattle.std.specs.Prelude.{◌≡◌, ◌↔◌, ℕ, Bool, true, false, List, ◌++◌, take, slice_get, Some}
use Rattle.std.specs.declared.cmp.Ordering.TheVariants.{Less}
use Rattle.vic_dict.specs.Lists.{AreBytes}
use Rattle.vic_dict.specs.Rows.{bytes_cmp}
use Rattle.vic_wire.specs.Bits.{key_bits}

-- at the first place at which the bits differ, the first have a 0 and the second a 1
pub record BitsLess (bs cs : List Bool) : Type 0 where
  pub place : ℕ
  pub same : take place bs ≡ take place cs
  pub clear : slice_get bs place ≡ Some false
  pub set : slice_get cs place ≡ Some true

-- the order of bytes is the order of bits
abbrev pub BitOrder : Type 0
BitOrder = (a b : List ℕ) → AreBytes a → AreBytes b → (bytes_cmp a b ≡ Less) ↔ BitsLess (key_bits a) (key_bits b)

-- the bits of a key begin those of no other key
abbrev pub NoneIsPrefix : Type 0
NoneIsPrefix = (a b : List ℕ) (rest : List Bool) → AreBytes a → AreBytes b → key_bits a ++ rest ≡ key_bits b → a ≡ b
