-- A text that is split at its first separator.
use Rattle.std.specs.Prelude.{◌≡◌, ◌≢◌, ℕ, ◌<◌, List, length, slice_index, Option, Some, None}

-- no item before the place is this number
abbrev pub NoneBefore : ℕ → ℕ → List ℕ → Type 0
NoneBefore place c bytes = (k : ℕ) → k < place → slice_index bytes k ≢ c

-- the first place of a number, if it has one
abbrev pub IsFirstPlace : ℕ → List ℕ → Option ℕ → Type 0
IsFirstPlace c bytes None = NoneBefore (length bytes) c bytes
IsFirstPlace c bytes (Some i) = (i < length bytes) × ((slice_index bytes i ≡ c) × NoneBefore i c bytes)
