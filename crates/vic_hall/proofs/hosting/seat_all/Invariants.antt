use Rattle.std.proofs.Common.{◌≡◌, ◌+◌, ◌≤◌, length, map, vec_capacity}
use Rattle.vic_hall.specs.Hosting.{HaveCome}
use Rattle.vic_hall.proofs.hosting.seat_all.Given as goal

-- the passes so far have jobs, whose lines came; there is room for the others
abbrev pub invariant-loop-pass : goal.invariant-loop-pass
invariant-loop-pass g l = record {
  passes : map (λ j. j.pass) l.jobs.items ≡ l.yielded;
  came : HaveCome (map (λ j. g.D.Line.Link.told j.link) l.jobs.items) (g.D.Doors.lines l.initial.doors) (g.D.Doors.lines l.doors);
  quiet : g.D.Doors.faults l.doors ≡ g.D.Doors.faults l.initial.doors;
  count : length l.jobs.items + length l.pass-iterator.rest.items ≡ length l.fn.passes;
  room : length l.fn.passes ≤ vec_capacity l.jobs;
}
