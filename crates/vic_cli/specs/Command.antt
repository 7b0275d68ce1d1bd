-- How a command ends, said once for all commands: what it is about to write with which status, and what comes of writing it.
use Rattle.std.specs.Prelude.{◌≡◌, ℕ, ◌⊎◌, List}
use Rattle.vic_ports.specs.Causes.{Rose}
use Rattle.vic_text.specs.declared.status.Status.{Status}
use Rattle.vic_text.specs.declared.status.Status.TheVariants as status
use Rattle.vic_text.specs.Statuses.{usage_line, no_memory_line}
use Rattle.vic_cli.specs.Output.{Given, Finishes}

-- what the end of a command depends on: facts of what one call of it was given, read and did
pub record Command : Type 1 where
  -- its words are right
  pub right : Type 0
  -- nothing was read, and nothing was asked of a link or of doors
  pub untouched : Type 0
  -- what holds where it is about to write this text with this status, the one of wrong words aside
  pub causes : Status → List ℕ → Type 0
  -- what suffices for this status, where its words are right, no write fails and memory is found
  pub due : Status → Type 0

-- a status with its text, before that is written: the usage line where the words are wrong, and then nothing was done; else what
-- the command causes. Only memory may run out before it is known what the words are
abbrev pub Plans : Command → Status → List ℕ → Type 0
Plans c status.Usage text = (c.right → ⊥) × (c.untouched × (text ≡ usage_line))
Plans c status.WriteFault text = ⊥
Plans c status.NoMemory text = c.causes status.NoMemory text × (text ≡ no_memory_line)
Plans c s text = c.right × c.causes s text

-- a text was written whole, and the status is the one that was planned; or a write failed, or found no memory, behind a front of
-- the text (`Finishes`)
abbrev pub Ends : Command → Given → Status → Type 0
Ends c k result = (planned : Status) × ((text : List ℕ) × (Plans c planned text × Finishes planned text k result))

-- the status that has to come: with wrong words it is 2
abbrev pub IsDue : Command → Status → Type 0
IsDue c s = ((c.right → ⊥) × (s ≡ status.Usage)) ⊎ (c.right × c.due s)

-- where no write failed, a status that has to come came, or memory ran out
abbrev pub IsComplete : Command → Given → Status → Type 0
IsComplete c k result =
    (Rose k.before k.now → ⊥) → (s : Status) → IsDue c s → (result ≡ s) ⊎ (result ≡ status.NoMemory)
