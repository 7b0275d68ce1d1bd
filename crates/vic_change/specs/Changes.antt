-- Lists of changes, the oldest first.
use Rattle.std.specs.Prelude.{ℕ, ◌==◌, if◌then◌else◌, List, [], ◌∷◌, Option, Some, None}
use Rattle.vic_change.specs.declared.Change.{Change}

abbrev pub change : ℕ → ℕ → List ℕ → Change
change seat who payload = record { seat = seat; who = who; payload = payload }

-- what is added by a step of this seat: nothing, or one change, by who and payload
abbrev pub change_added : ℕ → Option (ℕ × List ℕ) → List Change
change_added seat None = []
change_added seat (Some c) = change seat c.0 c.1 ∷ []

-- the changes of one seat, in order
abbrev pub of_seat : ℕ → List Change → List Change
of_seat seat [] = []
of_seat seat (c ∷ cs) = if seat == c.seat then c ∷ of_seat seat cs else of_seat seat cs
