-- The lines of a client's script.
use Rattle.std.specs.Prelude.{ℕ, ◌&&◌, List, [], ◌∷◌, Option, Some, None, option_map, nat_le, if◌then◌else◌, codes}
use Rattle.std.specs.Str.{bytes_eq}
use Rattle.vic_dict.specs.declared.op.Mode.{Mode}
use Rattle.vic_dict.specs.declared.op.Mode.TheVariants as mode
use Rattle.vic_script.specs.Lines.{words_of, op_of, object_of, is_skipped}
use Rattle.vic_script.specs.Words.{word_number}
use Rattle.vic_text.specs.declared.client_line.ClientLine.{ClientLine}
use Rattle.vic_text.specs.declared.client_line.ClientLine.TheVariants as line

abbrev pub or_line : Option ClientLine → Option ClientLine → Option ClientLine
or_line (Some l) other = Some l
or_line None other = other

abbrev pub settle_of : Option ℕ → Option ClientLine
settle_of None = None
settle_of (Some n) = if nat_le 1 n && nat_le n 1000 then Some (line.Settle n) else None

-- a line that no mode changes
abbrev pub plain_line : List (List ℕ) → Option ClientLine
plain_line (name ∷ []) =
    if bytes_eq name (codes "poll") then Some line.Poll
    else if bytes_eq name (codes "sync") then Some line.Sync
    else None
plain_line (name ∷ a ∷ []) = if bytes_eq name (codes "settle") then settle_of (word_number a) else None
plain_line words = None

-- a call: in a group of mode plain of an operation on the dictionary, in one of mode objects on objects
abbrev pub call_line : Mode → List (List ℕ) → Option ClientLine
call_line mode.Plain words = option_map line.Call (op_of words)
call_line mode.Objects words = option_map line.Object (object_of words)

abbrev pub client_line_in : Mode → List (List ℕ) → Option ClientLine
client_line_in kind words = or_line (plain_line words) (call_line kind words)

-- the line that a text spells, if it spells one
unfoldable pub client_line_of : Mode → List ℕ → Option ClientLine
client_line_of kind text = if is_skipped text then Some line.Skip else client_line_in kind (words_of text)
