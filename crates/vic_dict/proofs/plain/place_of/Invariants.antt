use Rattle.std.proofs.Common.{◌≤◌, ◌-◌, length}
use Rattle.vic_dict.specs.Rows.{place_in}
use Rattle.vic_dict.proofs.plain.place_of.Given as goal

abbrev pub invariant-loop-low : goal.invariant-loop-low
invariant-loop-low l = record { from : l.low ≤ place_in l.key l.rows; to : place_in l.key l.rows ≤ l.high; within : l.high ≤ length l.rows }

abbrev pub decreases-loop-low : goal.decreases-loop-low
decreases-loop-low l = l.high - l.low
