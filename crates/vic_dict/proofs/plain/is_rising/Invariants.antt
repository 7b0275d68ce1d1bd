use Rattle.std.proofs.Common.{◌≡◌, true, take}
use Rattle.std.specs.FinMap.{is_sorted}
use Rattle.vic_dict.specs.Rows.{bytes_cmp, AreByteRows}
use Rattle.vic_dict.proofs.plain.is_rising.Given as goal

abbrev pub invariant-loop-i : goal.invariant-loop-i
invariant-loop-i l = record { rising : is_sorted bytes_cmp (take l.i l.rows) ≡ true; bytes : AreByteRows (take l.i l.rows) }
