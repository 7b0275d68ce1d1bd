-- Keys that rise and all have a prefix.
use Rattle.std.specs.Prelude.{◌≡◌, ℕ, ◌-◌, ◌<◌, true, List, [], length, get_or, nat_eq}
use Rattle.std.specs.List.{starts_with}
use Rattle.std.specs.declared.cmp.Ordering.TheVariants.{Less}
use Rattle.vic_dict.specs.Rows.{bytes_cmp}

-- so many of the keys from the front
abbrev pub AreListed : List ℕ → List (List ℕ) → ℕ → Type 0
AreListed p ks n = (i : ℕ) → i < n → (starts_with nat_eq (get_or ks i []) p ≡ true) × (0 < i → bytes_cmp (get_or ks (i - 1) []) (get_or ks i []) ≡ Less)
