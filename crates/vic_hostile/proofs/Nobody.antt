-- Where no answer is kept, nobody was told one.
use Rattle.std.proofs.Common.{◌≡◌, ℕ, zero, suc, ◌-◌, true, false, nat_eq, if◌then◌else◌, List, replicate, refl}
use Rattle.std.specs.Prelude.{Option, None, slice_get}
use Rattle.vic_order.specs.Scenes.{or_none}
use Rattle.vic_attacks.specs.Hostile.{told_to}

abbrev pub nobody : ℕ → List (Option (List ℕ))
nobody n = replicate n None

nobody_at : (n k : ℕ) → or_none (slice_get (nobody n) k) ≡ None
nobody_at zero k = refl
nobody_at (suc n) zero = refl
nobody_at (suc n) (suc k) = nobody_at n k

pub nobody_told : (n who : ℕ) → told_to (nobody n) who ≡ None
nobody_told n who = elim (nat_eq who 0) as (λ b. (if b then None else or_none (slice_get (nobody n) (who - 1))) ≡ None) [ true ↦ refl | false ↦ nobody_at n (who - 1) ]
