use Rattle.std.proofs.Common.{◌≡◌, ℕ, ◌<◌, ◌↔◌, get_or, true}
use Rattle.vic_tag.proofs.key.same_digest.Given as goal

-- the flag tells whether the bytes so far are the same
abbrev pub invariant-loop-i : goal.invariant-loop-i
invariant-loop-i l = (l.same ≡ true) ↔ ((k : ℕ) → k < l.i → get_or l.one.bytes k 0 ≡ get_or l.other.bytes k 0)
