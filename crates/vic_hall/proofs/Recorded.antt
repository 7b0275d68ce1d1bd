-- What is recorded is the change that was made.
use Rattle.std.proofs.Common.{◌≡◌, ℕ, List, Bool, true, false, cond, [], ◌∷◌, refl}
use Rattle.vic_change.specs.declared.Change.{Change}
use Rattle.vic_change.specs.Changes.{change, change_added}
use Rattle.vic_hall.specs.Recording.{recorded_if}

pub recorded_is_made : (b : Bool) (seat who : ℕ) (payload : List ℕ) → cond b (change seat who payload ∷ []) [] ≡ change_added seat (recorded_if b who payload)
recorded_is_made true seat who payload = refl
recorded_is_made false seat who payload = refl
