-- Words on lists that compute by recursion. A list that grows has its newest item first: paths, logs, histories and views do.
use Rattle.std.specs.Prelude.{◌≡◌, ℕ, ◌<◌, ◌-◌, List, [], ◌∷◌, ◌⊎◌, length, drop, Option, Some, None, slice_index}

-- x is in the list
abbrev pub IsIn : {X : Type 0} → List X → X → Type 0
IsIn [] x = ⊥
IsIn (y ∷ ys) x = (y ≡ x) ⊎ IsIn ys x

-- each number of the list is a byte
abbrev pub AreBytes : List ℕ → Type 0
AreBytes bytes = (i : ℕ) → slice_index bytes i < 256

-- the oldest n items of a list that has its newest first; all of it where it has no more
abbrev pub front : {X : Type 0} → ℕ → List X → List X
front n xs = drop (length xs - n) xs

-- the newest item
abbrev pub newest : {X : Type 0} → List X → Option X
newest [] = None
newest (x ∷ xs) = Some x
