-- Contents in memory, and what holds of them.
use Rattle.std.specs.Prelude.{◌≡◌, ℕ, ◌+◌, ◌<◌, ◌≤◌, Bool, List, length, reverse, Option, Some, None, slice_get}
use Rattle.std.specs.List.{sum_by, find}
use Rattle.std.specs.Str.{bytes_eq}
use Rattle.std.specs.Ordering.{nat_cmp}
use Rattle.std.specs.Cmp.Lexicographic.{slice_cmp}
use Rattle.std.specs.BTreeMap.{BTreeMap, get}
use Rattle.vic_dict.specs.declared.limits.TheConstants.{LONGEST_CONTENT, MOST_CONTENTS, MOST_CONTENT_BYTES}
use Rattle.vic_wire.specs.Hashes.{hash}
use Rattle.vic_wire.specs.Texts.{content_text}

abbrev pub has_hash : List ℕ → List ℕ → Bool
has_hash h c = bytes_eq (hash (content_text c)) h

-- the content that is kept under a hash; contents have the newest first
abbrev pub kept_under : List (List ℕ) → List ℕ → Option (List ℕ)
kept_under contents h = find (has_hash h) contents

-- there is room for a content
abbrev pub IsRoom : List (List ℕ) → List ℕ → Type 0
IsRoom contents c = (length contents < MOST_CONTENTS) × (sum_by length contents + length c ≤ MOST_CONTENT_BYTES)

-- the content at a place, if the index names one
abbrev pub at_place : List (List ℕ) → Option ℕ → Option (List ℕ)
at_place rows None = None
at_place rows (Some place) = slice_get rows place

abbrev pub place_of : BTreeMap (List ℕ) ℕ → List ℕ → Option ℕ
place_of places h = get (slice_cmp nat_cmp) places h

-- the index leads to the content of each hash, and the bytes are counted
pub record IsSound (rows : List (List ℕ)) (places : BTreeMap (List ℕ) ℕ) (counted : ℕ) : Type 0 where
  pub few : length rows ≤ MOST_CONTENTS
  pub indexed : (h : List ℕ) → at_place rows (place_of places h) ≡ kept_under (reverse rows) h
  pub within : (h : List ℕ) (place : ℕ) → place_of places h ≡ Some place → place < length rows
  pub counts : counted ≡ sum_by length (reverse rows)
  pub light : counted ≤ MOST_CONTENT_BYTES
  pub small : (h c : List ℕ) → kept_under (reverse rows) h ≡ Some c → length c ≤ LONGEST_CONTENT
