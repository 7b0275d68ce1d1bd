-- The first place at which two texts differ, or one of them ends.
use Rattle.std.specs.Prelude.{◌≡◌, ℕ, ◌<◌, ◌≤◌, List, length, take, slice_index}

pub record AreApartAt (a b : List ℕ) (place : ℕ) : Type 0 where
  pub within_first : place ≤ length a
  pub within_second : place ≤ length b
  pub same : take place a ≡ take place b
  pub apart : place < length a → place < length b → slice_index a place ≡ slice_index b place → ⊥
