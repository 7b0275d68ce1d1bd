-- What the print of a run tells: of a forged tag the first step and text, and of each client its view, of each two how far they agree.
use Rattle.std.specs.Prelude.{◌≡◌, ◌↔◌, ℕ, ◌<◌, ◌≤◌, List, ◌∷◌, ◌++◌, length, Some, None}
use Rattle.vic_dict.specs.Lists.{IsIn}
use Rattle.vic_wire.specs.Hashes.{Group}
use Rattle.vic_rules.specs.declared.trace.TraceStep.{TraceStep}
use Rattle.vic_rules.specs.Trust.{IsForged, texts_taken, texts_made}
use Rattle.vic_script.specs.Run.{script_group, script_history, bad_line_of}
use Rattle.vic_script.specs.Print.{ForgedText, first_forged, view_lines, agree_line, print_of_script}

-- ---- the first text that was taken forged

-- the text was taken at the step and made at none before; each text before it in the payload was made; and no such text was taken earlier
pub record IsFirstForged (g : Group) (h : List TraceStep) (u : ForgedText) : Type 0 where
  pub later : List TraceStep
  pub x : TraceStep
  pub past : List TraceStep
  pub is : h ≡ later ++ x ∷ past
  pub step : u.step ≡ length (x ∷ past)
  pub before : List (List ℕ)
  pub behind : List (List ℕ)
  pub taken : texts_taken g past x ≡ before ++ u.text ∷ behind
  pub made : (t : List ℕ) → IsIn before t → IsIn (texts_made g past) t
  pub forged : IsIn (texts_made g past) u.text → ⊥
  pub first : IsForged g past → ⊥

abbrev pub FirstForgedIs : Type 0
FirstForgedIs = (g : Group) (h : List TraceStep) (u : ForgedText) → (first_forged g h ≡ Some u) ↔ IsFirstForged g h u

-- ---- the end of a print

-- a text stands within another
pub record StandsIn (text piece : List ℕ) : Type 0 where
  pub before : List ℕ
  pub behind : List ℕ
  pub is : text ≡ before ++ (piece ++ behind)

-- a print without a bad line has each client's view
abbrev pub PrintsHaveViews : Type 0
PrintsHaveViews = (script : List ℕ) → bad_line_of script ≡ None → (i : ℕ) → 0 < i → i ≤ (script_group script).count
    → StandsIn (print_of_script script) (view_lines (script_group script) (script_history script) i)

-- and how far each two agree
abbrev pub PrintsHaveAgreements : Type 0
PrintsHaveAgreements = (script : List ℕ) → bad_line_of script ≡ None → (i j : ℕ) → 0 < i → i < j → j ≤ (script_group script).count
    → StandsIn (print_of_script script) (agree_line (script_group script) (script_history script) i j)
