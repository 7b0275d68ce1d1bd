use Rattle.std.proofs.Common.{◌≡◌, ◌-◌, ◌≤◌, length}
use Rattle.vic_ports.specs.Causes.{LeavesBehind}
use Rattle.vic_ports.proofs.reading.read_input.Given as goal

-- what was taken so far stood at the front and is at most one read past the limit, and no read failed
abbrev pub invariant-loop-buffer : goal.invariant-loop-buffer
invariant-loop-buffer g l = record {
  so_far : LeavesBehind l.all (g.S.Source.left l.initial.source) (g.S.Source.left l.source);
  few : length l.all ≤ 16781312;
  quiet : g.S.Source.faults l.source ≡ g.S.Source.faults l.initial.source;
}

abbrev pub decreases-loop-buffer : goal.decreases-loop-buffer
decreases-loop-buffer g l = 16777217 - length l.all
