-- What is told of a source and a sink over a command, the text that it is about to write, and how writing it ends.
use Rattle.std.specs.Prelude.{◌≡◌, ℕ, ◌<◌, ◌⊎◌, Bool, true, List, length, Option}
use Rattle.vic_ports.specs.Causes.{Rose, IsSpent, LeavesBehind}
use Rattle.vic_ports.specs.Written.{AppendedAll, AppendedFront}
use Rattle.vic_script.specs.Run.{script_limit}
use Rattle.vic_text.specs.declared.status.Status.{Status}
use Rattle.vic_text.specs.declared.status.Status.TheVariants as status
use Rattle.vic_cli.specs.declared.output.Text.{Text}
use Rattle.vic_cli.specs.declared.output.Text.TheVariants as text

-- what is told of a source before and after: what is left, its count of faults, and whether it has ended
pub record Taken : Type 0 where
  pub old : Option (List ℕ)
  pub new : Option (List ℕ)
  pub before : ℕ
  pub now : ℕ
  pub ended : Bool

abbrev pub taken_of : Option (List ℕ) → Option (List ℕ) → ℕ → ℕ → Bool → Taken
taken_of old new before now ended = record { old = old; new = new; before = before; now = now; ended = ended }

-- by the words in which a source tells it
abbrev pub taken_by : {A : Type 0} → (A → Option (List ℕ)) → (A → ℕ) → (A → Bool) → A → A → Taken
taken_by left faults ended old new = taken_of (left old) (left new) (faults old) (faults new) (ended new)

-- nothing was taken from it, and no read failed
abbrev pub IsUnread : Taken → Type 0
IsUnread t = (t.new ≡ t.old) × (t.now ≡ t.before)

-- it was read to its end, and no read failed
abbrev pub IsReadWhole : Taken → Type 0
IsReadWhole t = (t.now ≡ t.before) × ((t.ended ≡ true) × IsSpent t.new)

-- more was taken than a script may have, and no read failed
abbrev pub IsReadPast : Taken → Type 0
IsReadPast t = (t.now ≡ t.before) × ((bytes : List ℕ) × ((script_limit < length bytes) × LeavesBehind bytes t.old t.new))

-- what is told of a sink before and after
pub record Given : Type 0 where
  pub old : Option (List ℕ)
  pub new : Option (List ℕ)
  pub before : ℕ
  pub now : ℕ

abbrev pub given_of : Option (List ℕ) → Option (List ℕ) → ℕ → ℕ → Given
given_of old new before now = record { old = old; new = new; before = before; now = now }

-- by the words in which a sink tells it
abbrev pub given_by : {A : Type 0} → (A → Option (List ℕ)) → (A → ℕ) → A → A → Given
given_by held faults old new = given_of (held old) (held new) (faults old) (faults new)

-- the bytes of a text
abbrev pub text_bytes : Text → List ℕ
text_bytes (text.Fixed line) = line.now
text_bytes (text.Made bytes) = bytes

-- a text was written whole, and no write failed
abbrev pub WroteAll : List ℕ → Given → Type 0
WroteAll text k = (k.now ≡ k.before) × AppendedAll text k.old k.new

-- a front of a text was written, where the sink found no memory; no write failed
abbrev pub WroteFront : List ℕ → Given → Type 0
WroteFront text k = (k.now ≡ k.before) × AppendedFront text k.old k.new

-- a front of a text was written, and then a write failed
abbrev pub FailedBehind : List ℕ → Given → Type 0
FailedBehind text k = Rose k.before k.now × AppendedFront text k.old k.new

-- a text was written whole, or the sink failed or found no memory
abbrev pub Finishes : Status → List ℕ → Given → Status → Type 0
Finishes planned text k result =
    ((result ≡ planned) × WroteAll text k)
    ⊎ (((result ≡ status.WriteFault) × FailedBehind text k) ⊎ ((result ≡ status.NoMemory) × WroteFront text k))
