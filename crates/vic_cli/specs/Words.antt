-- The words of a command line.
use Rattle.std.specs.Prelude.{ℕ, Bool, false, List, [], ◌∷◌, codes}
use Rattle.std.specs.Str.{bytes_eq}

-- exactly one word, which names the command on a script
abbrev pub is_group : List (List ℕ) → Bool
is_group [] = false
is_group (word ∷ []) = bytes_eq word (codes "group")
is_group (word ∷ other ∷ others) = false
