-- How long the common prefix of each two of some lines is, by a measure of two of them.
use Rattle.std.specs.Prelude.{◌≡◌, ℕ, ◌≤◌, List, map}

-- what is common to a line and each of two others is common to those two
abbrev pub IsNested : {L : Type 0} → (L → L → ℕ) → Type 0
IsNested {L} common = (n : ℕ) (a b c : L) → n ≤ common a b → n ≤ common b c → n ≤ common a c

abbrev pub IsSymmetric : {L : Type 0} → (L → L → ℕ) → Type 0
IsSymmetric {L} common = (a b : L) → common a b ≡ common b a

-- two lengths are those of one and the same line with each of two others
abbrev pub AreWithOne : {L : Type 0} → (L → L → ℕ) → L → L → ℕ → ℕ → Type 0
AreWithOne {L} common a b with_a with_b = (one : L) × (with_a ≡ common one a) × (with_b ≡ common one b)

-- the lengths of a line with each
abbrev pub row_of : {L : Type 0} → (L → L → ℕ) → List L → L → List ℕ
row_of {L} common lines one = map (common one) lines

-- the lengths are those of some line, which has this one with the line given
abbrev pub IsRowBy : {L : Type 0} → (L → L → ℕ) → List L → L → List ℕ → ℕ → Type 0
IsRowBy {L} common lines a row with_a = (one : L) × (row ≡ row_of common lines one) × (with_a ≡ common one a)

-- those of each line with each
abbrev pub rows_of : {L : Type 0} → (L → L → ℕ) → List L → List (List ℕ)
rows_of {L} common lines = map (row_of common lines) lines
