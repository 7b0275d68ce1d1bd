-- What a link in memory tells.
use Rattle.std.specs.Prelude.{Some, drop}
use Rattle.vic_ports.specs.declared.memory_link.MemoryLink.{MemoryLink}
use Rattle.vic_ports.specs.Links.{Told}

-- all of it
abbrev pub told_of : MemoryLink → Told
told_of l = record { left = Some (drop l.taken l.bytes); written = Some l.written; faults = l.faults; ended = l.ended }
