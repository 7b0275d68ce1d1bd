-- The words of a script: byte words and numbers, and how operations, answers and outcomes are printed in them.
use Rattle.std.specs.Prelude.{ℕ, ◌+◌, ◌-◌, ◌*◌, Bool, false, not, ◌&&◌, ◌||◌, List, [], ◌∷◌, ◌++◌, length, Option, Some, None, nat_eq, nat_le, if◌then◌else◌, codes, fold, min, take}
use Rattle.std.specs.List.{flat_map, list_all}
use Rattle.std.specs.Result.{result_ok}
use Rattle.std.specs.Fmt.{decimal}
use Rattle.hex.specs.Hex.{encode_lower, decode_of}
use Rattle.vic_rules.specs.declared.object.ObjectOutcome.{ObjectOutcome}
use Rattle.vic_rules.specs.declared.object.ObjectOutcome.TheVariants as ended
use Rattle.vic_dict.specs.declared.op.Op.{Op}
use Rattle.vic_dict.specs.declared.op.Op.TheVariants as op
use Rattle.vic_dict.specs.declared.op.Answer.{Answer}
use Rattle.vic_dict.specs.declared.op.Answer.TheVariants as answer
use Rattle.vic_dict.specs.declared.op.Outcome.{Outcome}
use Rattle.vic_dict.specs.declared.op.Outcome.TheVariants as outcome

abbrev pub is_between : ℕ → ℕ → ℕ → Bool
is_between low high c = nat_le low c && nat_le c high

-- a letter, a digit, a full stop, a low line, a hyphen or a slash
abbrev pub is_plain : ℕ → Bool
is_plain c = is_between 97 122 c || (is_between 65 90 c || (is_between 48 57 c || (nat_eq c 46 || (nat_eq c 95 || (nat_eq c 45 || nat_eq c 47)))))

-- a lower-case hexadecimal digit
abbrev pub is_lower_hex : ℕ → Bool
is_lower_hex c = is_between 48 57 c || is_between 97 102 c

abbrev pub is_percent : ℕ → Bool
is_percent c = nat_eq c 37

-- the bytes that hexadecimal digits spell, two digits a byte
abbrev pub hex_word : List ℕ → Option (List ℕ)
hex_word digits = if list_all is_lower_hex digits then result_ok (decode_of digits) else None

-- what a byte word spells: plain characters, which stand for themselves, or a per cent sign and two digits a byte
abbrev pub word_bytes : List ℕ → Option (List ℕ)
word_bytes [] = None
word_bytes (c ∷ cs) =
    if is_percent c
    then hex_word cs
    else (if list_all is_plain (c ∷ cs) then Some (c ∷ cs) else None)

-- how bytes are printed: in plain characters where these can spell them
abbrev pub bytes_word : List ℕ → List ℕ
bytes_word [] = 37 ∷ []
bytes_word (b ∷ bs) = if list_all is_plain (b ∷ bs) then b ∷ bs else 37 ∷ encode_lower (b ∷ bs)

abbrev pub is_digit : ℕ → Bool
is_digit c = is_between 48 57 c

-- the number of decimal digits, the highest first
abbrev pub number_of : List ℕ → ℕ
number_of digits = fold (λ n c. 10 * n + (c - 48)) 0 digits

-- some digits, the first of which is 0 only where it is the only one
abbrev pub is_number : List ℕ → Bool
is_number [] = false
is_number (c ∷ cs) = list_all is_digit (c ∷ cs) && (not (nat_eq c 48) || nat_eq (length cs) 0)

-- the number that a word spells, in decimal without leading zeros
abbrev pub word_number : List ℕ → Option ℕ
word_number word = if is_number word then Some (number_of word) else None

-- a number of four bytes, of which those past the end stand as the last
abbrev pub word_capped : List ℕ → Option ℕ
word_capped word = if is_number word then Some (min (number_of word) 4294967295) else None

-- ---- what is printed

abbrev pub space : List ℕ
space = 32 ∷ []

abbrev pub newline : List ℕ
newline = 10 ∷ []

-- an operation, as in a line that calls it
abbrev pub op_words : Op → List ℕ
op_words (op.Put k v) = codes "put " ++ bytes_word k ++ space ++ bytes_word v
op_words (op.Get k) = codes "get " ++ bytes_word k
op_words (op.Del k) = codes "del " ++ bytes_word k
op_words (op.List p) = codes "list " ++ bytes_word p

abbrev pub answer_words : Answer → List ℕ
answer_words answer.Stored = codes "stored"
answer_words (answer.Found v) = codes "value " ++ bytes_word v
answer_words answer.NotFound = codes "none"
answer_words answer.Removed = codes "removed"
answer_words answer.Absent = codes "absent"
answer_words (answer.Names names) = codes "names" ++ flat_map (λ k. space ++ bytes_word k) names

abbrev pub outcome_words : Outcome → List ℕ
outcome_words (outcome.Done a) = codes "done " ++ answer_words a
outcome_words (outcome.Aborted u) = codes "aborted " ++ decimal u
outcome_words (outcome.Refused r) = codes "refused " ++ decimal r
outcome_words (outcome.Halted k) = codes "halted " ++ decimal k

-- of a content its length and its first 32 bytes, or fewer
abbrev pub object_words : ObjectOutcome → List ℕ
object_words ended.Stored = codes "object stored"
object_words (ended.Content c) = codes "object content " ++ decimal (length c) ++ space ++ bytes_word (take 32 c)
object_words ended.Missing = codes "object missing"
object_words ended.Removed = codes "object removed"
object_words ended.Absent = codes "object absent"
object_words (ended.Names names) = codes "object names" ++ flat_map (λ k. space ++ bytes_word k) names
object_words (ended.Aborted u) = codes "object aborted " ++ decimal u
object_words (ended.Refused r) = codes "object refused " ++ decimal r
