-- Where the count stops doesn't matter.
use Rattle.std.proofs.Common.{◌≡◌, ◌+◌, ◌*◌, ◌≤◌, nat_le, nat_lt, arith}
use Rattle.vic_attacks.specs.Hostile.{Hostile, is_late, number}

late_so : (h : Hostile) → h.after ≤ 1000000 → is_late h ≡ nat_lt h.after (h.count + 1)
late_so h few = grind (arith)

again_so : (h : Hostile) → h.after ≤ 1000000 → nat_le (number h) (2 * h.after) ≡ nat_le (h.count + 1) (2 * h.after)
again_so h few = grind (arith)

pub counts : (h : Hostile) → h.after ≤ 1000000 → (is_late h ≡ nat_lt h.after (h.count + 1)) × (nat_le (number h) (2 * h.after) ≡ nat_le (h.count + 1) (2 * h.after))
counts h few = (late_so h few, again_so h few)
