-- What an accept answered.
use Rattle.std.specs.Prelude.{Option, Some, None}
use Rattle.vic_ports.specs.declared.doors.Came.{Came}
use Rattle.vic_ports.specs.declared.doors.Came.TheVariants as came
use Rattle.vic_ports.specs.Links.{Told}

-- what is told of the line that came, if one came
abbrev pub line_of : {L : Type 0} → (L → Told) → Came L → Option Told
line_of told (came.Line line) = Some (told line)
line_of told came.Failed = None
