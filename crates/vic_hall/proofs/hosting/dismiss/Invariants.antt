use Rattle.std.proofs.Common.{◌≡◌, ◌+◌, ◌≤◌, length, map, vec_capacity}
use Rattle.vic_hall.specs.Hosting.{HaveGone}
use Rattle.vic_hall.proofs.hosting.dismiss.Given as goal

-- the jobs so far were taken apart, and their lines went back; there is room for the others
abbrev pub invariant-loop-job : goal.invariant-loop-job
invariant-loop-job g l = record {
  passes : l.passes.items ≡ map (λ j. j.pass) l.yielded;
  ends : l.ends.items ≡ map (λ j. j.end) l.yielded;
  gone : HaveGone (map (λ j. g.D.Line.Link.told j.link) l.yielded) (g.D.Doors.lines l.initial.doors) (g.D.Doors.lines l.doors);
  quiet : g.D.Doors.faults l.doors ≡ g.D.Doors.faults l.initial.doors;
  count : length l.yielded + length l.job-iterator.rest.items ≡ length l.fn.jobs.items;
  room : (vec_capacity l.passes ≡ vec_capacity l.initial.passes) × (vec_capacity l.ends ≡ vec_capacity l.initial.ends);
}
