-- What single words of a command line ask for.
use Rattle.std.specs.Prelude.{ℕ, ◌&&◌, Bool, List, length, Option, Some, None, nat_le, if◌then◌else◌, codes}
use Rattle.std.specs.Str.{bytes_eq}
use Rattle.vic_dict.specs.declared.op.Mode.{Mode}
use Rattle.vic_dict.specs.declared.op.Mode.TheVariants as mode
use Rattle.vic_script.specs.Words.{word_number, word_capped}
use Rattle.vic_text.specs.Numbers.{at_most}

-- 1 to 255 bytes; what they mean is the adapter's
abbrev pub is_address : List ℕ → Bool
is_address word = nat_le 1 (length word) && nat_le (length word) 255

abbrev pub up_to : ℕ → Option ℕ → Option ℕ
up_to most None = None
up_to most (Some n) = if nat_le 1 n && nat_le n most then Some n else None

-- a number from 1 up to the greatest, in decimal without leading zeros
abbrev pub number_in : ℕ → List ℕ → Option ℕ
number_in most word = up_to most (word_capped word)

-- one of clients or of connections
abbrev pub small_number : List ℕ → Option ℕ
small_number word = number_in 64 word

-- a number of four bytes, in decimal without leading zeros
abbrev pub whole_number : List ℕ → Option ℕ
whole_number word = at_most 4294967295 (word_number word)

-- a number from 1 to 100,000, in decimal without leading zeros
abbrev pub calls_number : List ℕ → Option ℕ
calls_number word = number_in 100000 word

-- the kind of a group
abbrev pub mode_of : List ℕ → Option Mode
mode_of word =
    if bytes_eq word (codes "plain") then Some mode.Plain
    else if bytes_eq word (codes "objects") then Some mode.Objects
    else None
