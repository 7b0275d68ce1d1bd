-- What the command of a drill does: it runs the drill that the words ask for, and prints its summary.
use Rattle.std.specs.Prelude.{◌≡◌, ℕ, List, [], ◌∷◌, Option, Some, None, IsSome, IsSomeAnd, if◌then◌else◌, codes}
use Rattle.std.specs.Str.{bytes_eq}
use Rattle.vic_drill.specs.Drills.{print_of_drill, drill_of}
use Rattle.vic_drill.specs.Laws.{IsHonestDrill}
use Rattle.vic_text.specs.declared.status.Status.{Status}
use Rattle.vic_text.specs.declared.status.Status.TheVariants as status
use Rattle.vic_cli.specs.Command.{Command}
use Rattle.vic_cli.specs.Arguments.{whole_number, small_number, calls_number}
use Rattle.vic_cli.specs.declared.drill.DrillWords.{DrillWords}

-- ---- the words

abbrev pub asked_by : Option ℕ → Option ℕ → Option ℕ → Option DrillWords
asked_by (Some number) (Some clients) (Some calls) = Some (record { number = number; clients = clients; calls = calls })
asked_by (Some number) (Some clients) None = None
asked_by (Some number) None calls = None
asked_by None clients calls = None

-- `drill NUMBER CLIENTS CALLS`
abbrev pub drill_words : List (List ℕ) → Option DrillWords
drill_words (name ∷ number ∷ clients ∷ calls ∷ []) =
    if bytes_eq name (codes "drill") then asked_by (whole_number number) (small_number clients) (calls_number calls) else None
drill_words words = None

-- ---- what is printed

-- what is printed of the drill that was asked for
abbrev pub print_for : DrillWords → List ℕ
print_for a = print_of_drill a.number a.clients a.calls

-- it is an honest run: no client halts, each call returned what becomes of it in the server's log, and more
abbrev pub IsHonestFor : DrillWords → Type 0
IsHonestFor a = IsHonestDrill (drill_of a.number a.clients a.calls)

-- ---- the command's end

-- with status 0 it is about to write the drill's summary
abbrev pub Causes : Option DrillWords → Status → List ℕ → Type 0
Causes asked status.Ok text = IsSomeAnd asked (λ a. text ≡ print_for a)
Causes asked status.NoMemory text = IsSome asked
Causes asked s text = ⊥

abbrev pub drill_command : Option DrillWords → Command
drill_command asked = record {
  right = IsSome asked;
  untouched = Unit {0};
  causes = Causes asked;
  due = λ s. s ≡ status.Ok;
}
