-- What a line over the system tells.
use Rattle.std.specs.Prelude.{None}
use Rattle.vic_ports.specs.declared.answers.Tally.{Tally}
use Rattle.vic_ports.specs.Links.{Told}

-- no content; its count of faults, and whether it has ended
abbrev pub told_of_tally : Tally → Told
told_of_tally t = record { left = None; written = None; faults = t.faults; ended = t.ended }
