-- Which attacks the lines of a script name.
use Rattle.std.proofs.Common.{◌≡◌, ℕ, Bool, true, false, List, [], ◌∷◌, ◌++◌, Option, Some, None, refl, sym, ap, ◌∙◌}
use Rattle.std.specs.Prelude.{if◌then◌else◌, codes, option_map}
use Rattle.std.specs.Str.{bytes_eq}
use Rattle.std.specs.List.{AllByRecursion}
use Rattle.vic_dict.specs.declared.op.Op.{Op}
use Rattle.vic_dict.specs.declared.op.Mode.{Mode}
use Rattle.vic_dict.specs.declared.op.Mode.TheVariants as mode
use Rattle.vic_rules.specs.declared.object.ObjectCall.{ObjectCall}
use Rattle.vic_order.specs.Scenes.{SceneOf}
use Rattle.vic_attacks.specs.declared.HostileKind.{HostileKind}
use Rattle.vic_attacks.specs.Hostile.{Hostile}
use Rattle.vic_script.specs.declared.line.Line.{Line}
use Rattle.vic_script.specs.declared.line.Line.TheVariants as line
use Rattle.vic_script.specs.Words.{word_number, word_capped}
use Rattle.vic_script.specs.Lines.{words_of, op_of, call_of, group_line, object_of, object_call_of, header_of, next_header_of, called_line, event_of, or_line, line_in, is_skipped, line_of}
use Rattle.vic_script.specs.Scenes.{bad_kind}
use Rattle.vic_script.specs.Run.{Attack, is_honest}
use Rattle.vic_script_runs.specs.Claims.{attack_after, attack_in, attacks_in}

none-either : (b : Bool) (x y : Option Line) → attack_in x ≡ [] → attack_in y ≡ [] → attack_in (if b then x else y) ≡ []
none-either true x y h k = h
none-either false x y h k = k

-- ---- the same in each mode

call-none : (i : Option ℕ) (o : Option Op) → attack_in (call_of i o) ≡ []
call-none (Some i) (Some o) = refl
call-none (Some i) None = refl
call-none None o = refl

object_call-none : (i : Option ℕ) (c : Option ObjectCall) → attack_in (object_call_of i c) ≡ []
object_call-none (Some i) (Some c) = refl
object_call-none (Some i) None = refl
object_call-none None c = refl

called_line-none : (kind : Mode) (name a : List ℕ) (others : List (List ℕ)) → attack_in (called_line kind name a others) ≡ []
called_line-none mode.Plain name a others = none-either (bytes_eq name (codes "call")) (call_of (word_capped a) (op_of others)) None (call-none (word_capped a) (op_of others)) refl
called_line-none mode.Objects name a others = none-either (bytes_eq name (codes "call")) (object_call_of (word_capped a) (object_of others)) None (object_call-none (word_capped a) (object_of others)) refl

event-alike : (kind : Mode) (words : List (List ℕ)) → attack_in (event_of kind words) ≡ attack_in (event_of mode.Plain words)
event-alike kind [] = refl
event-alike kind (name ∷ []) = refl
event-alike kind (name ∷ a ∷ []) = refl
event-alike kind (name ∷ a ∷ b ∷ []) = refl
event-alike kind (name ∷ a ∷ b ∷ c ∷ others) = called_line-none kind name a (b ∷ c ∷ others) ∙ sym (called_line-none mode.Plain name a (b ∷ c ∷ others))

or-alike : (x y z : Option Line) → attack_in y ≡ attack_in z → attack_in (or_line x y) ≡ attack_in (or_line x z)
or-alike (Some l) y z e = refl
or-alike None y z e = e

either-alike : (b : Bool) (x y z : Option Line) → attack_in y ≡ attack_in z → attack_in (if b then x else y) ≡ attack_in (if b then x else z)
either-alike true x y z e = refl
either-alike false x y z e = e

pub names_alike : (kind : Mode) (text : List ℕ) → attack_in (line_of (Some mode.Plain) text) ≡ attack_in (line_of (Some kind) text)
unfolding line_of
names_alike kind text =
    let words : List (List ℕ) = words_of text in
    either-alike (is_skipped text) (Some line.Skip) (line_in (Some mode.Plain) words) (line_in (Some kind) words)
    (or-alike (header_of words) (or_line (next_header_of words) (event_of mode.Plain words)) (or_line (next_header_of words) (event_of kind words))
    (or-alike (next_header_of words) (event_of mode.Plain words) (event_of kind words) (sym (event-alike kind words))))

-- ---- a header's first line names none

group-none : (make : ℕ → Line) → ((n : ℕ) → attack_in (Some (make n)) ≡ []) → (o : Option ℕ) → attack_in (group_line make o) ≡ []
group-none make each None = refl
group-none make each (Some n) = none-either _ (Some (make n)) None (each n) refl

header-none : (words : List (List ℕ)) → attack_in (header_of words) ≡ []
header-none [] = refl
header-none (name ∷ []) = refl
header-none (name ∷ a ∷ []) =
    let objects : Option Line = if bytes_eq name (codes "objects") then group_line line.Objects (word_number a) else None in
    none-either (bytes_eq name (codes "clients")) (group_line line.Clients (word_number a)) objects (group-none line.Clients (λ n. refl) (word_number a))
    (none-either (bytes_eq name (codes "objects")) (group_line line.Objects (word_number a)) None (group-none line.Objects (λ n. refl) (word_number a)) refl)
header-none (name ∷ a ∷ b ∷ others) = refl

or-none : (o other : Option Line) (m : Line) → o ≡ Some m → attack_in o ≡ [] → attack_in (or_line o other) ≡ []
or-none (Some l) other m e none = none
or-none None other m e none = absurd cc

skip-none : (b : Bool) (o other : Option Line) (m : Line) → (if b then Some line.Skip else o) ≡ Some m → attack_in o ≡ [] → attack_in (if b then Some line.Skip else or_line o other) ≡ []
skip-none true o other m e none = refl
skip-none false o other m e none = or-none o other m e none

-- nor does a text that spells a line where no header has begun
pub first_names_none : (text : List ℕ) (m : Line) → line_of None text ≡ Some m → attack_in (line_of (Some mode.Plain) text) ≡ []
unfolding line_of
first_names_none text m e =
    let words : List (List ℕ) = words_of text in
    skip-none (is_skipped text) (header_of words) (or_line (next_header_of words) (event_of mode.Plain words)) m e (header-none words)

-- ---- nor a line that isn't bad behind the header, nor an honest one

pub good_names_none : (s : SceneOf Hostile) (l : Line) → bad_kind s l ≡ None → attack_in (Some l) ≡ []
unfolding bad_kind
good_names_none s (line.Hostile name n) good = absurd cc
good_names_none s l good = refl

honest_names_none : (o : Option Line) → is_honest o ≡ true → attack_in o ≡ []
honest_names_none (Some (line.Hostile name n)) honest = absurd cc
honest_names_none o honest = refl

pub honest_texts_name_none : (texts : List (List ℕ)) → AllByRecursion (λ text. is_honest (line_of (Some mode.Plain) text) ≡ true) texts → attacks_in texts ≡ []
honest_texts_name_none [] honest = refl
honest_texts_name_none (text ∷ texts) honest =
    ap (λ front. front ++ attacks_in texts) (honest_names_none (line_of (Some mode.Plain) text) honest.0) ∙ honest_texts_name_none texts honest.1

-- ---- a header and what its lines have named

-- they named this, or nothing
abbrev pub IsNamed : List Attack → Option Attack → Type 0
IsNamed named None = named ≡ []
IsNamed named (Some a) = named ≡ a ∷ []

pub turned_named : (n : ℕ) (o : Option HostileKind) → IsNamed (attack_after n o) (option_map (λ k. record { kind = k; after = n }) o)
turned_named n None = refl
turned_named n (Some k) = refl
