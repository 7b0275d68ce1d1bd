-- What writing a whole text did to a sink.
use Rattle.std.specs.Prelude.{◌≡◌, ℕ, List, ◌++◌, Option, Some, None}
use Rattle.vic_ports.specs.declared.writing.Written.{Written}
use Rattle.vic_ports.specs.declared.writing.Written.TheVariants as written
use Rattle.vic_ports.specs.Causes.{Rose}

-- a front of the text has joined what is held, where that is told
abbrev pub AppendedFront : List ℕ → Option (List ℕ) → Option (List ℕ) → Type 0
AppendedFront text None now = now ≡ None
AppendedFront text (Some held) now = (taken rest : List ℕ) × ((text ≡ taken ++ rest) × (now ≡ Some (held ++ taken)))

-- all of it has joined what is held, where that is told
abbrev pub AppendedAll : List ℕ → Option (List ℕ) → Option (List ℕ) → Type 0
AppendedAll text None now = now ≡ None
AppendedAll text (Some held) now = now ≡ Some (held ++ text)

-- all of it; or a front. The count of faults rose where a write failed, and else stands
abbrev pub WritesText : List ℕ → Option (List ℕ) → Option (List ℕ) → ℕ → ℕ → Written → Type 0
WritesText text old new before now written.All = AppendedAll text old new × (now ≡ before)
WritesText text old new before now written.Fault = AppendedFront text old new × Rose before now
WritesText text old new before now written.NoMemory = AppendedFront text old new × (now ≡ before)
