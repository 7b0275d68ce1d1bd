-- What holds of each item of a list.
use Rattle.std.proofs.Common.{ℕ, zero, suc, ◌<◌, List, [], ◌∷◌, length, replicate, arith}
use Rattle.std.specs.Prelude.{slice_get, slice_set, unwrap_or}
use Rattle.std.specs.List.{AllByRecursion}

-- it holds of each item still after one was set of which it holds
pub all-set : {X : Type 0} (P : X → Type 0) (xs : List X) (i : ℕ) (x : X) → AllByRecursion P xs → P x → AllByRecursion P (slice_set xs i x)
all-set P [] i x all h = tt
all-set P (y ∷ ys) zero x all h = (h, all.1)
all-set P (y ∷ ys) (suc i) x all h = (all.0, all-set P ys i x all.1 h)

-- of an item that may be missing: it holds of what stands for it
pub all-read : {X : Type 0} (P : X → Type 0) (xs : List X) (i : ℕ) (other : X) → AllByRecursion P xs → P other → P (unwrap_or (slice_get xs i) other)
all-read P [] i other all h = h
all-read P (y ∷ ys) zero other all h = all.0
all-read P (y ∷ ys) (suc i) other all h = all-read P ys i other all.1 h

-- of an item that is there
pub all-at : {X : Type 0} (P : X → Type 0) (xs : List X) (i : ℕ) (other : X) → AllByRecursion P xs → i < length xs → P (unwrap_or (slice_get xs i) other)
all-at P [] i other all within = absurd (omega (arith, within))
all-at P (y ∷ ys) zero other all within = all.0
all-at P (y ∷ ys) (suc i) other all within = all-at P ys i other all.1 (omega (arith, within))

-- of copies of one item
pub all-replicate : {X : Type 0} (P : X → Type 0) (n : ℕ) (x : X) → P x → AllByRecursion P (replicate n x)
all-replicate P zero x h = tt
all-replicate P (suc n) x h = (h, all-replicate P n x h)

-- what holds of everything holds of each item
pub all_each : {X : Type 0} (P : X → Type 0) → ((x : X) → P x) → (xs : List X) → AllByRecursion P xs
all_each P each [] = tt
all_each P each (x ∷ xs) = (each x, all_each P each xs)
