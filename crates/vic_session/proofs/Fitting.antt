-- The calls that texts spell are within the limits and hold bytes, and a script has few lines.
use Rattle.std.proofs.Common.{◌≡◌, ℕ, Bool, true, false, ◌&&◌, List, [], ◌∷◌, Option, Some, None, refl, subst}
use Rattle.std.specs.Prelude.{if◌then◌else◌, nat_le, option_map, codes}
use Rattle.std.specs.Str.{bytes_eq}
use Rattle.vic_dict.specs.declared.op.Op.{Op}
use Rattle.vic_dict.specs.declared.op.Mode.{Mode}
use Rattle.vic_dict.specs.declared.op.Mode.TheVariants as mode
use Rattle.vic_dict.specs.Dictionary.{Fits, AreBytesIn}
use Rattle.vic_script.specs.Words.{word_number}
use Rattle.vic_rules.specs.declared.object.ObjectCall.{ObjectCall}
use Rattle.vic_rules.specs.Objects.{FitsObject, AreBytesInObject}
use Rattle.vic_script.specs.Lines.{words_of, op_of, object_of, is_skipped}
use Rattle.vic_script.proofs.Lines.{FitsOp, op-fits, FitsObjectIn, object-fits}
use Rattle.vic_text.specs.declared.client_line.ClientLine.{ClientLine}
use Rattle.vic_text.specs.declared.client_line.ClientLine.TheVariants as line
use Rattle.vic_text.specs.ClientLines.{client_line_of, client_line_in, plain_line, call_line, or_line, settle_of}
use Rattle.vic_session.specs.Talking.{CanBegin}

-- ---- lines

-- a line may be begun in a group of this mode, and its call holds bytes
abbrev pub MayCall : ClientLine → Mode → Type 0
MayCall (line.Call o) kind = (kind ≡ mode.Plain) × (Fits o × AreBytesIn o)
MayCall (line.Object c) kind = (kind ≡ mode.Objects) × (FitsObject c × AreBytesInObject c)
MayCall line.Poll kind = Unit {0}
MayCall line.Sync kind = Unit {0}
MayCall (line.Settle n) kind = Unit {0}
MayCall line.Skip kind = Unit {0}

abbrev pub CanIn : Option ClientLine → Mode → Type 0
CanIn None kind = Unit {0}
CanIn (Some l) kind = MayCall l kind

can-either : (kind : Mode) (b : Bool) (x y : Option ClientLine) → CanIn x kind → CanIn y kind → CanIn (if b then x else y) kind
can-either kind true x y h k = h
can-either kind false x y h k = k

settle-can : (kind : Mode) (n : Option ℕ) → CanIn (settle_of n) kind
settle-can kind None = tt
settle-can kind (Some n) = can-either kind (nat_le 1 n && nat_le n 1000) (Some (line.Settle n)) None tt tt

plain-can : (kind : Mode) (words : List (List ℕ)) → CanIn (plain_line words) kind
plain-can kind [] = tt
plain-can kind (name ∷ []) =
    can-either kind (bytes_eq name (codes "poll")) (Some line.Poll) (if bytes_eq name (codes "sync") then Some line.Sync else None) tt
    (can-either kind (bytes_eq name (codes "sync")) (Some line.Sync) None tt tt)
plain-can kind (name ∷ a ∷ []) = can-either kind (bytes_eq name (codes "settle")) (settle_of (word_number a)) None (settle-can kind (word_number a)) tt
plain-can kind (name ∷ a ∷ b ∷ others) = tt

called-can : (o : Option Op) → FitsOp o → CanIn (option_map line.Call o) mode.Plain
called-can None h = tt
called-can (Some o) h = (refl, h)

object-can : (o : Option ObjectCall) → FitsObjectIn o → CanIn (option_map line.Object o) mode.Objects
object-can None h = tt
object-can (Some c) h = (refl, h)

call-can : (kind : Mode) (words : List (List ℕ)) → CanIn (call_line kind words) kind
call-can mode.Plain words = called-can (op_of words) (op-fits words)
call-can mode.Objects words = object-can (object_of words) (object-fits words)

or-can : (kind : Mode) (x y : Option ClientLine) → CanIn x kind → CanIn y kind → CanIn (or_line x y) kind
or-can kind (Some l) y h k = h
or-can kind None y h k = k

pub spelled-can : (kind : Mode) (text : List ℕ) → CanIn (client_line_of kind text) kind
unfolding client_line_of
spelled-can kind text =
    can-either kind (is_skipped text) (Some line.Skip) (client_line_in kind (words_of text)) tt
    (or-can kind (plain_line (words_of text)) (call_line kind (words_of text)) (plain-can kind (words_of text)) (call-can kind (words_of text)))

can-begin : (l : ClientLine) (kind : Mode) → MayCall l kind → CanBegin l kind
can-begin (line.Call o) kind h = (h.0, h.1.0)
can-begin (line.Object c) kind h = (h.0, h.1.0)
can-begin line.Poll kind h = tt
can-begin line.Sync kind h = tt
can-begin (line.Settle n) kind h = tt
can-begin line.Skip kind h = tt

-- a line that a text spells may be begun
pub line_can : (kind : Mode) (text : List ℕ) (l : ClientLine) → client_line_of kind text ≡ Some l → CanBegin l kind
line_can kind text l is = can-begin l kind (subst (λ (o : Option ClientLine). CanIn o kind) is (spelled-can kind text))
