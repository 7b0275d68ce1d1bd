-- What writing a whole text did to a link.
use Rattle.std.specs.Prelude.{◌≡◌, List, ℕ}
use Rattle.vic_ports.specs.declared.writing.Written.{Written}
use Rattle.vic_ports.specs.Written.{WritesText}
use Rattle.vic_ports.specs.Links.{Told}

-- what it does to a sink; and what is left to read stays
abbrev pub Sends : List ℕ → Told → Told → Written → Type 0
Sends text old new result = WritesText text old.written new.written old.faults new.faults result × ((new.left ≡ old.left) × (new.ended ≡ old.ended))
