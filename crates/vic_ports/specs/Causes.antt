-- What reads and writes do to what is told of their ends.
use Rattle.std.specs.Prelude.{◌≡◌, ℕ, ◌+◌, ◌-◌, ◌^◌, ◌≤◌, ◌<◌, min, List, ◌++◌, length, take, Option, Some, None, Bool, true}
use Rattle.vic_ports.specs.declared.ports.Got.{Got}
use Rattle.vic_ports.specs.declared.ports.Got.TheVariants as got
use Rattle.vic_ports.specs.declared.ports.Put.{Put}
use Rattle.vic_ports.specs.declared.ports.Put.TheVariants as put

-- a count of faults has risen, or stands at its type's end
abbrev pub Rose : ℕ → ℕ → Type 0
Rose before now = min (before + 1) (2 ^ 64 - 1) ≤ now

-- what is left, where it is told, is what was taken and then what is left now
abbrev pub LeavesBehind : List ℕ → Option (List ℕ) → Option (List ℕ) → Type 0
LeavesBehind taken None now = now ≡ None
LeavesBehind taken (Some l) now = (rest : List ℕ) × (now ≡ Some rest) × (l ≡ taken ++ rest)

-- nothing is left, where it is told
abbrev pub IsSpent : Option (List ℕ) → Type 0
IsSpent None = Unit {0}
IsSpent (Some l) = length l ≡ 0

-- what a read does, by its answer; the count of faults moves only where it failed
abbrev pub ReadGives : List ℕ → Option (List ℕ) → Option (List ℕ) → ℕ → ℕ → Bool → Bool → Got → Type 0
ReadGives into old new before now was is (got.Bytes n) = (0 < n) × (n ≤ length into) × LeavesBehind (take n into) old new × (is ≡ was) × (now ≡ before)
ReadGives into old new before now was is got.End = IsSpent old × (new ≡ old) × (is ≡ true) × (now ≡ before)
ReadGives into old new before now was is got.Failed = Rose before now × (new ≡ old) × (is ≡ was)

-- a piece has joined what is held, where that is told
abbrev pub Appended : List ℕ → Option (List ℕ) → Option (List ℕ) → Type 0
Appended piece None now = now ≡ None
Appended piece (Some held) now = now ≡ Some (held ++ piece)

-- what a write does, by its answer; the count of faults moves only where it failed
abbrev pub WriteGives : List ℕ → Option (List ℕ) → Option (List ℕ) → ℕ → ℕ → Put → Type 0
WriteGives piece old new before now (put.Took n) = (0 < n) × (n ≤ length piece) × Appended (take n piece) old new × (now ≡ before)
WriteGives piece old new before now put.Failed = Rose before now × (new ≡ old)
WriteGives piece old new before now put.NoMemory = (new ≡ old) × (now ≡ before)
