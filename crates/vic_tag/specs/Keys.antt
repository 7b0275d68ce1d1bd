-- Keys in hexadecimal text: which fault a text has, if it has one.
use Rattle.std.specs.Prelude.{ℕ, ◌%◌, Bool, not, ◌&&◌, List, length, Option, Some, nat_le, ◌==◌, if◌then◌else◌, position}
use Rattle.std.specs.Option.{option_map}
use Rattle.hex.specs.Hex.{is_hex_digit}
use Rattle.vic_tag.specs.declared.key.KeyFault.{KeyFault}
use Rattle.vic_tag.specs.declared.key.KeyFault.TheVariants as fault

-- an even number of 2 to 128 characters
abbrev pub is_key_length : ℕ → Bool
is_key_length n = nat_le 2 n && (nat_le n 128 && n % 2 == 0)

-- the first character that is no hexadecimal digit
abbrev pub bad_digit : List ℕ → Option KeyFault
bad_digit cs = option_map fault.Digit (position (λ c. not (is_hex_digit c)) cs)

-- the fault of a text of these characters, but for memory; its length is looked at first
abbrev pub fault_in : List ℕ → Option KeyFault
fault_in cs = if is_key_length (length cs) then bad_digit cs else Some fault.Length
