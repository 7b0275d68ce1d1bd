-- The numbers of the kinds of bad lines.
use Rattle.std.specs.Prelude.{ℕ}
use Rattle.vic_text.specs.declared.bad.BadKind.{BadKind}
use Rattle.vic_text.specs.declared.bad.BadKind.TheVariants as bad

-- the number of a kind, as `line_tests` and `kind_text` have it
abbrev pub bad_number : BadKind → ℕ
bad_number bad.NotALine = 1
bad_number bad.NoClient = 2
bad_number bad.Halted = 3
bad_number bad.Busy = 4
bad_number bad.NothingWaits = 5
bad_number bad.NoServer = 6
bad_number bad.ScriptTooLong = 7
