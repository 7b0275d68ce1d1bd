-- Clients in a row.
use Rattle.std.specs.Prelude.{ℕ, suc, List, [], ◌∷◌}

-- something holds of each of them and its number: of the first one with this number, and of the others with the numbers after it
abbrev pub AllStand : {M : Type 0} → (M → ℕ → Type 0) → ℕ → List M → Type 0
AllStand Stands i [] = Unit {0}
AllStand Stands i (m ∷ ms) = Stands m i × AllStand Stands (suc i) ms
