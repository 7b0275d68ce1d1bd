-- Texts under hashes.
use Rattle.std.specs.Prelude.{ℕ, Bool, false, not, List, Option, Some, None, if◌then◌else◌}
use Rattle.std.specs.Map.{lookup}
use Rattle.std.specs.BTreeMap.{is_at}
use Rattle.std.specs.Str.{bytes_eq}
use Rattle.std.specs.Ordering.{nat_cmp}
use Rattle.std.specs.Cmp.Lexicographic.{slice_cmp}

-- the text under a hash
abbrev pub text_under : List (List ℕ × List ℕ) → List ℕ → Option (List ℕ)
text_under pairs h = lookup (is_at (slice_cmp nat_cmp h)) pairs

-- another text is there
abbrev pub is_other : Option (List ℕ) → List ℕ → Bool
is_other None text = false
is_other (Some there) text = not (bytes_eq there text)

-- what was there first stays
abbrev pub first_of : Option (List ℕ) → Option (List ℕ) → Option (List ℕ)
first_of None later = later
first_of (Some there) later = Some there

-- the text, if the two hashes are one
abbrev pub if_here : List ℕ → List ℕ → List ℕ → Option (List ℕ)
if_here hash h text = if bytes_eq hash h then Some text else None
