-- The lines of a script, from bytes to words and from words to lines.
use Rattle.std.specs.Prelude.{ℕ, ◌%◌, Bool, true, ◌&&◌, List, [], ◌∷◌, length, Option, Some, None, is_some, option_map, nat_eq, nat_lt, nat_le, if◌then◌else◌, codes, drop, replicate}
use Rattle.std.specs.List.{list_all, starts_with}
use Rattle.std.specs.Str.{bytes_eq}
use Rattle.hex.specs.Hex.{is_hex_digit}
use Rattle.vic_dict.specs.declared.limits.TheConstants.{LONGEST_CONTENT, LONGEST_KEY, LONGEST_VALUE, MOST_CLIENTS}
use Rattle.vic_dict.specs.declared.op.Op.{Op}
use Rattle.vic_dict.specs.declared.op.Op.TheVariants as op
use Rattle.vic_dict.specs.declared.op.Mode.{Mode}
use Rattle.vic_dict.specs.declared.op.Mode.TheVariants as mode
use Rattle.vic_rules.specs.declared.object.ObjectCall.{ObjectCall}
use Rattle.vic_rules.specs.declared.object.ObjectCall.TheVariants as object
use Rattle.vic_attacks.specs.declared.HostileKind.{HostileKind}
use Rattle.vic_attacks.specs.declared.HostileKind.TheVariants as kind
use Rattle.vic_script.specs.declared.line.Line.{Line}
use Rattle.vic_script.specs.declared.line.Line.TheVariants as line
use Rattle.vic_script.specs.Words.{word_bytes, word_number, word_capped}

-- a byte before the first of the pieces
abbrev pub put_first : ℕ → List (List ℕ) → List (List ℕ)
put_first b [] = (b ∷ []) ∷ []
put_first b (piece ∷ pieces) = (b ∷ piece) ∷ pieces

-- the lines of a script, without the byte 0a that ends each; the last one may lack it
unfoldable pub lines_of : List ℕ → List (List ℕ)
lines_of [] = []
lines_of (b ∷ bs) = if nat_eq b 10 then [] ∷ lines_of bs else put_first b (lines_of bs)

-- the words of a line: what stands before, between and behind its spaces
unfoldable pub words_of : List ℕ → List (List ℕ)
words_of [] = [] ∷ []
words_of (b ∷ bs) = if nat_eq b 32 then [] ∷ words_of bs else put_first b (words_of bs)

-- bytes of a word that are few enough
abbrev pub word_within : ℕ → ℕ → Option (List ℕ) → Option (List ℕ)
word_within least most None = None
word_within least most (Some bytes) = if nat_le least (length bytes) && nat_le (length bytes) most then Some bytes else None

abbrev pub key_of : List ℕ → Option (List ℕ)
key_of word = word_within 1 LONGEST_KEY (word_bytes word)

abbrev pub value_of : List ℕ → Option (List ℕ)
value_of word = word_within 0 LONGEST_VALUE (word_bytes word)

abbrev pub prefix_of : List ℕ → Option (List ℕ)
prefix_of word = word_within 0 LONGEST_KEY (word_bytes word)

abbrev pub put_of : Option (List ℕ) → Option (List ℕ) → Option Op
put_of (Some k) (Some v) = Some (op.Put k v)
put_of (Some k) None = None
put_of None v = None

-- the operation that words name
abbrev pub op_of : List (List ℕ) → Option Op
op_of (name ∷ a ∷ []) =
    if bytes_eq name (codes "get") then option_map op.Get (key_of a)
    else if bytes_eq name (codes "del") then option_map op.Del (key_of a)
    else if bytes_eq name (codes "list") then option_map op.List (prefix_of a)
    else None
op_of (name ∷ a ∷ b ∷ []) = if bytes_eq name (codes "put") then put_of (key_of a) (value_of b) else None
op_of words = None

abbrev pub call_of : Option ℕ → Option Op → Option Line
call_of (Some i) (Some o) = Some (line.Call i o)
call_of (Some i) None = None
call_of None o = None

-- a header's first line, of a group with so many clients
abbrev pub group_line : (ℕ → Line) → Option ℕ → Option Line
group_line make None = None
group_line make (Some n) = if nat_lt 0 n && nat_le n MOST_CLIENTS then Some (make n) else None

-- ---- calls on objects

abbrev pub at_most : ℕ → Option ℕ → Option ℕ
at_most most None = None
at_most most (Some n) = if nat_le n most then Some n else None

-- so many zero bytes
abbrev pub zeros_of : List ℕ → Option (List ℕ)
zeros_of digits = option_map (λ n. replicate n 0) (at_most LONGEST_CONTENT (word_number digits))

-- a content: so many zero bytes, or a byte word
abbrev pub content_of : List ℕ → Option (List ℕ)
content_of word =
    if starts_with nat_eq word (codes "zeros:") then zeros_of (drop 6 word) else word_within 0 LONGEST_CONTENT (word_bytes word)

abbrev pub store_of : Option (List ℕ) → Option (List ℕ) → Option ObjectCall
store_of (Some k) (Some c) = Some (object.Store k c)
store_of (Some k) None = None
store_of None c = None

-- the call on objects that words name
abbrev pub object_of : List (List ℕ) → Option ObjectCall
object_of (name ∷ a ∷ []) =
    if bytes_eq name (codes "load") then option_map object.Load (key_of a)
    else if bytes_eq name (codes "erase") then option_map object.Erase (key_of a)
    else if bytes_eq name (codes "names") then option_map object.Names (prefix_of a)
    else None
object_of (name ∷ a ∷ b ∷ []) = if bytes_eq name (codes "store") then store_of (key_of a) (content_of b) else None
object_of words = None

abbrev pub object_call_of : Option ℕ → Option ObjectCall → Option Line
object_call_of (Some i) (Some c) = Some (line.Object i c)
object_call_of (Some i) None = None
object_call_of None c = None

-- a line of one name and one number
abbrev pub named_line : List ℕ → List ℕ → Option Line
named_line name a =
    if bytes_eq name (codes "poll") then option_map line.Poll (word_capped a)
    else if bytes_eq name (codes "sync") then option_map line.Sync (word_capped a)
    else if bytes_eq name (codes "serve") then option_map line.Serve (word_capped a)
    else if bytes_eq name (codes "take") then option_map line.Take (word_capped a)
    else if bytes_eq name (codes "run") then option_map line.Run (word_capped a)
    else if bytes_eq name (codes "again") then option_map line.Again (word_capped a)
    else if bytes_eq name (codes "resend") then option_map line.Resend (word_capped a)
    else None

abbrev pub give_of : Option ℕ → Option (List ℕ) → Option Line
give_of (Some i) (Some payload) = Some (line.Give i payload)
give_of (Some i) None = None
give_of None payload = None

abbrev pub pair_of : (ℕ → ℕ → Line) → Option ℕ → Option ℕ → Option Line
pair_of make (Some i) (Some n) = Some (make i n)
pair_of make (Some i) None = None
pair_of make None n = None

-- a server from 1 to 4
abbrev pub is_server_number : ℕ → Bool
is_server_number n = nat_lt 0 n && nat_le n 4

abbrev pub copy_of : Option ℕ → Option ℕ → Option Line
copy_of (Some n) (Some t) = if is_server_number t then Some (line.Copy n t) else None
copy_of (Some n) None = None
copy_of None t = None

-- a line of one name and two words
abbrev pub paired_line : List ℕ → List ℕ → List ℕ → Option Line
paired_line name a b =
    if bytes_eq name (codes "give") then give_of (word_capped a) (word_bytes b)
    else if bytes_eq name (codes "flip") then pair_of line.Flip (word_capped a) (word_capped b)
    else if bytes_eq name (codes "copy") then copy_of (word_capped a) (word_number b)
    else if bytes_eq name (codes "move") then pair_of line.Move (word_capped a) (word_capped b)
    else None

-- the first line of a header
abbrev pub header_of : List (List ℕ) → Option Line
header_of (name ∷ a ∷ []) =
    if bytes_eq name (codes "clients") then group_line line.Clients (word_number a)
    else if bytes_eq name (codes "objects") then group_line line.Objects (word_number a)
    else None
header_of words = None

-- the digits of a group's key: 2 to 128 hexadecimal digits in an even number, capital or small
abbrev pub is_key_digits : List ℕ → Bool
is_key_digits word = nat_le 2 (length word) && (nat_le (length word) 128 && (nat_eq (length word % 2) 0 && list_all is_hex_digit word))

abbrev pub key_line : List ℕ → Option Line
key_line word = if is_key_digits word then Some (line.Key word) else None

-- the kind of hostile servers that a name tells
abbrev pub kind_named : List ℕ → Option HostileKind
kind_named name =
    if bytes_eq name (codes "rollback") then Some kind.Rollback
    else if bytes_eq name (codes "fork") then Some kind.Fork
    else if bytes_eq name (codes "replay") then Some kind.Replay
    else if bytes_eq name (codes "swap") then Some kind.Swap
    else if bytes_eq name (codes "badproof") then Some kind.BadProof
    else if bytes_eq name (codes "stale") then Some kind.Stale
    else if bytes_eq name (codes "truncate") then Some kind.Truncate
    else None

-- such a name, and after how many requests a server misbehaves, at most 1,000,000
abbrev pub hostile_line : List ℕ → Option ℕ → Option Line
hostile_line name None = None
hostile_line name (Some n) = if is_some (kind_named name) && nat_le n 1000000 then Some (line.Hostile name n) else None

-- a line of a header behind its first one
abbrev pub next_header_of : List (List ℕ) → Option Line
next_header_of (name ∷ a ∷ []) = if bytes_eq name (codes "key") then key_line a else None
next_header_of (name ∷ a ∷ b ∷ []) = if bytes_eq name (codes "hostile") then hostile_line a (word_number b) else None
next_header_of words = None

-- a call: in a group of mode plain of an operation on the dictionary, in one of mode objects on objects
abbrev pub called_line : Mode → List ℕ → List ℕ → List (List ℕ) → Option Line
called_line mode.Plain name a others = if bytes_eq name (codes "call") then call_of (word_capped a) (op_of others) else None
called_line mode.Objects name a others = if bytes_eq name (codes "call") then object_call_of (word_capped a) (object_of others) else None

-- a line that says what happens in a group of this mode
abbrev pub event_of : Mode → List (List ℕ) → Option Line
event_of kind (name ∷ a ∷ []) = named_line name a
event_of kind (name ∷ a ∷ b ∷ []) = paired_line name a b
event_of kind (name ∷ a ∷ b ∷ c ∷ others) = called_line kind name a (b ∷ c ∷ others)
event_of kind words = None

abbrev pub or_line : Option Line → Option Line → Option Line
or_line (Some l) other = Some l
or_line None other = other

-- the line that words spell, if they spell one; before the mode is known only the header's first line does
abbrev pub line_in : Option Mode → List (List ℕ) → Option Line
line_in None words = header_of words
line_in (Some kind) words = or_line (header_of words) (or_line (next_header_of words) (event_of kind words))

-- an empty line, or a comment, which begins with #
abbrev pub is_skipped : List ℕ → Bool
is_skipped [] = true
is_skipped (b ∷ bs) = nat_eq b 35

-- the line that a text spells, if it spells one
unfoldable pub line_of : Option Mode → List ℕ → Option Line
line_of kind text = if is_skipped text then Some line.Skip else line_in kind (words_of text)
