use Rattle.std.proofs.Common.{◌≡◌, ◌++◌, ◌-◌, ℕ, List, ◌<◌, length}
use Rattle.vic_ports.specs.Causes.{LeavesBehind}
use Rattle.vic_session.proofs.wire.receive.Given as goal

-- what was read so far stands behind what was fed before; nothing was written, and no call failed
abbrev pub invariant-reads : goal.invariant-reads
invariant-reads g l = record {
  so_far : (read : List ℕ) × (LeavesBehind read (g.L.Link.told l.initial.link).left (g.L.Link.told l.link).left × (l.reader ≡ l.initial.reader ++ read));
  written : (g.L.Link.told l.link).written ≡ (g.L.Link.told l.initial.link).written;
  quiet : (g.L.Link.told l.link).faults ≡ (g.L.Link.told l.initial.link).faults;
  room : 0 < length l.buffer;
}

-- bytes that wait are fewer
abbrev pub decreases-reads : goal.decreases-reads
decreases-reads g l = 16777220 - length l.reader
