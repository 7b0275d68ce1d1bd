-- The print of a run: what its lines printed, and then the views, how far they agree, and whether every tag that was taken was
-- made before; or the bad line.
use Rattle.std.specs.Prelude.{ℕ, zero, suc, ◌+◌, ◌-◌, Bool, true, false, not, ◌&&◌, List, [], ◌∷◌, ◌++◌, length, reverse, Option, Some, None, is_some, nat_eq, if◌then◌else◌, codes}
use Rattle.std.specs.List.{flat_map, list_any}
use Rattle.std.specs.Str.{bytes_eq}
use Rattle.std.specs.Cmp.Lexicographic.{pointwise}
use Rattle.std.specs.Fmt.{decimal}
use Rattle.vic_dict.specs.declared.op.Answer.{Answer}
use Rattle.vic_dict.specs.declared.op.Answer.TheVariants as answer
use Rattle.vic_dict.specs.declared.op.Outcome.{Outcome}
use Rattle.vic_dict.specs.declared.op.Outcome.TheVariants as outcome
use Rattle.vic_wire.specs.Hashes.{Group}
use Rattle.vic_rules.specs.declared.trace.TraceStep.{TraceStep}
use Rattle.vic_rules.specs.declared.trace.Shown.{Shown}
use Rattle.vic_rules.specs.Client.{same_entry}
use Rattle.vic_rules.specs.Views.{view_of}
use Rattle.vic_rules.specs.Trust.{texts_taken, texts_made}
use Rattle.vic_script.specs.Words.{op_words, outcome_words, space, newline}
use Rattle.vic_script.specs.Run.{Bad, ScriptRun, run_of, group_in, history_in}

-- ---- views

-- a call of a view: client, number, operation and outcome
abbrev pub shown_line : Shown → List ℕ
shown_line x = decimal x.entry.client ++ codes "." ++ decimal x.entry.seq ++ space ++ op_words x.entry.op ++ codes " = " ++ outcome_words x.outcome ++ newline

-- a client's view, the oldest call first
abbrev pub view_lines : Group → List TraceStep → ℕ → List ℕ
view_lines g h i = codes "view " ++ decimal i ++ newline ++ flat_map shown_line (reverse (view_of g i h))

-- the numbers from the first on, so many
abbrev pub numbers_from : ℕ → ℕ → List ℕ
numbers_from first zero = []
numbers_from first (suc n) = first ∷ numbers_from (first + 1) n

abbrev pub all_views : Group → List TraceStep → List ℕ
all_views g h = flat_map (view_lines g h) (numbers_from 1 g.count)

-- ---- how far views agree

abbrev pub same_answer : Answer → Answer → Bool
same_answer answer.Stored answer.Stored = true
same_answer (answer.Found v) (answer.Found w) = bytes_eq v w
same_answer answer.NotFound answer.NotFound = true
same_answer answer.Removed answer.Removed = true
same_answer answer.Absent answer.Absent = true
same_answer (answer.Names ks) (answer.Names ls) = pointwise bytes_eq ks ls
same_answer _ _ = false

abbrev pub same_outcome : Outcome → Outcome → Bool
same_outcome (outcome.Done a) (outcome.Done b) = same_answer a b
same_outcome (outcome.Aborted u) (outcome.Aborted v) = nat_eq u v
same_outcome (outcome.Refused r) (outcome.Refused q) = nat_eq r q
same_outcome (outcome.Halted k) (outcome.Halted l) = nat_eq k l
same_outcome _ _ = false

abbrev pub same_shown : Shown → Shown → Bool
same_shown x y = same_entry x.entry y.entry && same_outcome x.outcome y.outcome

-- how many calls two views have in common at their front; here the oldest call stands first
abbrev pub agreement : List Shown → List Shown → ℕ
agreement [] w = 0
agreement (x ∷ v) [] = 0
agreement (x ∷ v) (y ∷ w) = if same_shown x y then agreement v w + 1 else 0

abbrev pub agree_line : Group → List TraceStep → ℕ → ℕ → List ℕ
agree_line g h i j =
    codes "agree " ++ decimal i ++ space ++ decimal j ++ space ++ decimal (agreement (reverse (view_of g i h)) (reverse (view_of g j h))) ++ newline

-- each pair of clients, the lower number first
abbrev pub all_agreements : Group → List TraceStep → List ℕ
all_agreements g h = flat_map (λ i. flat_map (agree_line g h i) (numbers_from (i + 1) (g.count - i))) (numbers_from 1 g.count)

-- ---- whether every text that was taken was made before

abbrev pub is_among : List (List ℕ) → List ℕ → Bool
is_among texts text = list_any (bytes_eq text) texts

abbrev pub takes_forged : Group → List TraceStep → TraceStep → Bool
takes_forged g past x = list_any (λ t. not (is_among (texts_made g past) t)) (texts_taken g past x)

-- a step, counted from 1, the oldest first, and a text that was taken there and made at no step before
pub record ForgedText : Type 0 where
  -- the step of the history, from 1 on
  pub step : ℕ
  -- the bytes that were to be tagged
  pub text : List ℕ

-- the first text that isn't among those that were made
abbrev pub first_forged_of : List (List ℕ) → List (List ℕ) → Option (List ℕ)
first_forged_of made [] = None
first_forged_of made (t ∷ texts) = if is_among made t then first_forged_of made texts else Some t

abbrev pub forged_text_at : ℕ → Option (List ℕ) → Option ForgedText
forged_text_at n None = None
forged_text_at n (Some t) = Some (record { step = n; text = t })

abbrev pub or_forged_text : Option ForgedText → Option ForgedText → Option ForgedText
or_forged_text (Some u) now = Some u
or_forged_text None now = now

-- the first step at which such a text was taken, and the first such text of its payload
unfoldable pub first_forged : Group → List TraceStep → Option ForgedText
first_forged g [] = None
first_forged g (x ∷ past) = or_forged_text (first_forged g past) (forged_text_at (length (x ∷ past)) (first_forged_of (texts_made g past) (texts_taken g past x)))

-- the history is forged: there is one
unfoldable pub is_forged : Group → List TraceStep → Bool
is_forged g h = is_some (first_forged g h)

abbrev pub tags_line : Bool → List ℕ
tags_line true = codes "tags not made" ++ newline
tags_line false = codes "tags made" ++ newline

-- ---- the whole

abbrev pub kind_text : ℕ → List ℕ
kind_text k =
    if nat_eq k 2 then codes "no such client"
    else if nat_eq k 3 then codes "client has halted"
    else if nat_eq k 4 then codes "client is busy"
    else if nat_eq k 5 then codes "nothing waiting"
    else if nat_eq k 6 then codes "no such server"
    else if nat_eq k 7 then codes "script too long"
    else codes "not a line of this script"

abbrev pub bad_line : Bad → List ℕ
bad_line b = codes "line " ++ decimal b.number ++ codes ": " ++ kind_text b.kind ++ newline

abbrev pub end_text : Group → List TraceStep → Option Bad → List ℕ
end_text g h (Some b) = bad_line b
end_text g h None = all_views g h ++ all_agreements g h ++ tags_line (is_forged g h)

-- the print of a run
unfoldable pub print_of : ScriptRun → List ℕ
print_of p = p.text ++ end_text (group_in p.scene) (history_in p.scene) p.bad

-- what a script prints
abbrev pub print_of_script : List ℕ → List ℕ
print_of_script script = print_of (run_of script)
