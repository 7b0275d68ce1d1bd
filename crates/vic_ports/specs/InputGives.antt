-- What reading a whole source gave.
use Rattle.std.specs.Prelude.{◌≡◌, ℕ, ◌<◌, ◌≤◌, List, length, Option, Bool, true}
use Rattle.vic_dict.specs.declared.limits.TheConstants.{LONGEST_SCRIPT}
use Rattle.vic_ports.specs.declared.reading.InputRead.{InputRead}
use Rattle.vic_ports.specs.declared.reading.InputRead.TheVariants as input
use Rattle.vic_ports.specs.Causes.{Rose, LeavesBehind, IsSpent}

-- the most bytes that are taken: those of the limit, and of one read more
abbrev pub most_taken : ℕ
most_taken = 16781312

-- at most so many bytes were taken
abbrev pub TakesAtMost : ℕ → Option (List ℕ) → Option (List ℕ) → Type 0
TakesAtMost most old new = (bytes : List ℕ) × ((length bytes ≤ most) × LeavesBehind bytes old new)

-- all of it with its end, or its front past the limit, and then no read failed; a fault only where the count rose, and nothing is read
-- behind it. What was taken before a fault, or before memory ran out, is gone
abbrev pub InputGives : Option (List ℕ) → Option (List ℕ) → ℕ → ℕ → Bool → InputRead → Type 0
InputGives old new before now ended (input.Whole bytes) = LeavesBehind bytes old new × IsSpent new × (ended ≡ true) × (length bytes ≤ LONGEST_SCRIPT) × (now ≡ before)
InputGives old new before now ended (input.TooLong bytes) = LeavesBehind bytes old new × (LONGEST_SCRIPT < length bytes) × (now ≡ before) × (length bytes ≤ most_taken)
InputGives old new before now ended input.Fault = Rose before now × TakesAtMost LONGEST_SCRIPT old new
InputGives old new before now ended input.NoMemory = (now ≡ before) × TakesAtMost most_taken old new
