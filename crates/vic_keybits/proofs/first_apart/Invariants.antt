use Rattle.std.proofs.Common.{◌≡◌, ◌≤◌, ◌-◌, length, take}
use Rattle.vic_keybits.proofs.first_apart.Given as goal

abbrev pub invariant-loop-place : goal.invariant-loop-place
invariant-loop-place l = record { first : l.place ≤ length l.a; second : l.place ≤ length l.b; same : take l.place l.a ≡ take l.place l.b }

abbrev pub decreases-loop-place : goal.decreases-loop-place
decreases-loop-place l = length l.a - l.place
