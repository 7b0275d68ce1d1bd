-- Which lines tamper.
use Rattle.std.specs.Prelude.{◌≡◌, ◌↔◌, ℕ, false, List}
use Rattle.vic_script.specs.declared.line.Line.{Line}
use Rattle.vic_script.specs.declared.line.Line.TheVariants as line
use Rattle.vic_script.specs.Scenes.{is_honest_line}

-- a line that gives, repeats or changes what a client takes, sends a request again, copies or changes servers, or makes one hostile
pub data Tampers : Line → Type 0 where
  gives : (i : ℕ) (payload : List ℕ) → Tampers (line.Give i payload)
  repeats : (i : ℕ) → Tampers (line.Again i)
  flips : (i n : ℕ) → Tampers (line.Flip i n)
  resends : (i : ℕ) → Tampers (line.Resend i)
  copies : (n t : ℕ) → Tampers (line.Copy n t)
  moves : (i n : ℕ) → Tampers (line.Move i n)
  turns_hostile : (name : List ℕ) (n : ℕ) → Tampers (line.Hostile name n)

-- the lines that aren't honest are those
abbrev pub HonestLineIs : Type 0
HonestLineIs = (l : Line) → (is_honest_line l ≡ false) ↔ Tampers l
