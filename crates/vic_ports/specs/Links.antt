-- What links and doors tell, and what their calls do to it.
use Rattle.std.specs.Prelude.{◌≡◌, ℕ, List, [], ◌∷◌, ◌++◌, length, Option, Some, None, Bool, nat_lt, if◌then◌else◌}
use Rattle.vic_ports.specs.declared.ports.Got.{Got}
use Rattle.vic_ports.specs.declared.ports.Put.{Put}
use Rattle.vic_ports.specs.Causes.{Rose, ReadGives, WriteGives}

-- what is told of a link: what is left to read and what was written, where it tells them; its count of faults; and whether a
-- read has answered that nothing is left
pub record Told : Type 0 where
  pub left : Option (List ℕ)
  pub written : Option (List ℕ)
  pub faults : ℕ
  pub ended : Bool

-- a read does what that of a source does, and what was written stays
abbrev pub LinkReads : List ℕ → Told → Told → Got → Type 0
LinkReads into old new got = ReadGives into old.left new.left old.faults new.faults old.ended new.ended got × (new.written ≡ old.written)

-- a write does what that of a sink does, and what is left stays
abbrev pub LinkWrites : List ℕ → Told → Told → Put → Type 0
LinkWrites piece old new put = WriteGives piece old.written new.written old.faults new.faults put × ((new.left ≡ old.left) × (new.ended ≡ old.ended))

-- the lines that came, as each came, and those that were given back, as each was given back, both in order
pub record Lines : Type 0 where
  pub came : List Told
  pub back : List Told

-- a line came, where the doors tell their lines
abbrev pub ComesIn : Told → Option Lines → Option Lines → Type 0
ComesIn line None now = now ≡ None
ComesIn line (Some old) now = now ≡ Some (record { came = old.came ++ line ∷ []; back = old.back })

-- what an accept does: a line came, or it failed; the count of faults moves only where it failed
abbrev pub Accepts : Option Lines → Option Lines → ℕ → ℕ → Option Told → Type 0
Accepts old new before now (Some line) = ComesIn line old new × (now ≡ before)
Accepts old new before now None = Rose before now × (new ≡ old)

-- the lines given back, with one more where they are fewer than those that came
abbrev pub put_back : Lines → Told → Lines
put_back l line = if nat_lt (length l.back) (length l.came) then record { came = l.came; back = l.back ++ line ∷ [] } else l

-- a line was given back, where the doors tell their lines
abbrev pub GoesBack : Told → Option Lines → Option Lines → Type 0
GoesBack line None now = now ≡ None
GoesBack line (Some old) now = now ≡ Some (put_back old line)
