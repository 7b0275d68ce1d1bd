use Rattle.std.proofs.Common.{◌≡◌, ℕ, ◌<◌, ◌≤◌, get_or, bit_xor, length}
use Rattle.vic_tag.proofs.key.masked.Given as goal

-- the bytes so far are joined, and the mask stands behind them
abbrev pub invariant-loop-i : goal.invariant-loop-i
invariant-loop-i l = record {
  whole : length l.block ≡ 64;
  joined : (k : ℕ) → k < l.i → get_or l.block k 0 ≡ bit_xor l.mask (get_or l.key k 0);
  behind : (k : ℕ) → l.i ≤ k → k < 64 → get_or l.block k 0 ≡ l.mask;
}
