-- Which calls of a form in memory are to fail.
use Rattle.std.specs.Prelude.{ℕ, Bool, List, nat_eq}
use Rattle.std.specs.List.{list_any}

-- whether the call with this number is one of them
abbrev pub is_to_fail : List ℕ → ℕ → Bool
is_to_fail fails call = list_any (λ c. nat_eq c call) fails
