-- The rows of a dictionary in memory: pairs of a key and a value, their keys rising.
use Rattle.std.specs.Prelude.{◌≤◌, ℕ, suc, ◌<◌, Bool, true, ◌&&◌, List, [], ◌∷◌, length, IsTrue, Result, Ok, Err}
use Rattle.std.specs.Ordering.{nat_cmp, is_lt}
use Rattle.std.specs.declared.cmp.Ordering.{Ordering}
use Rattle.std.specs.Cmp.Lexicographic.{slice_cmp}
use Rattle.std.specs.FinMap.{is_sorted}
use Rattle.std.specs.FinMap.Entries.{by_order}
use Rattle.vic_dict.specs.declared.limits.TheConstants.{LONGEST_VALUE}
use Rattle.vic_dict.specs.Lists.{AreBytes}
use Rattle.vic_dict.specs.Dictionary.{IsKey}

abbrev pub Row : Type 0
Row = List ℕ × List ℕ

-- the order of byte texts
abbrev pub bytes_cmp : List ℕ → List ℕ → Ordering
bytes_cmp = slice_cmp nat_cmp

-- each key and each value is within the limits
abbrev pub AreFit : List Row → Type 0
AreFit [] = Unit {0}
AreFit (e ∷ es) = (IsKey e.0 × (length e.1 ≤ LONGEST_VALUE)) × AreFit es

-- the numbers of each key and each value are bytes
abbrev pub AreByteRows : List Row → Type 0
AreByteRows [] = Unit {0}
AreByteRows (e ∷ es) = (AreBytes e.0 × AreBytes e.1) × AreByteRows es

-- rows with rising keys, all within the limits, all bytes
pub record IsTable (rows : List Row) : Type 0 where
  pub rising : IsTrue (is_sorted bytes_cmp rows)
  pub fit : AreFit rows
  pub bytes : AreByteRows rows

-- how many rows from the front have lower keys
abbrev pub place_in : List ℕ → List Row → ℕ
place_in k [] = 0
place_in k (e ∷ es) = by_order (bytes_cmp k e.0) 0 0 (suc (place_in k es))

-- the same place among one row more
abbrev pub spot_after_row : Result ℕ ℕ → Result ℕ ℕ
spot_after_row (Ok i) = Ok (suc i)
spot_after_row (Err i) = Err (suc i)

-- where a key stands, or else where it would
abbrev pub spot : List ℕ → List Row → Result ℕ ℕ
spot k [] = Err 0
spot k (e ∷ es) = by_order (bytes_cmp k e.0) (Err 0) (Ok 0) (spot_after_row (spot k es))

-- whether a key is above all keys of the rows
abbrev pub is_past : List ℕ → List Row → Bool
is_past k [] = true
is_past k (e ∷ es) = is_lt (bytes_cmp e.0 k) && is_past k es
