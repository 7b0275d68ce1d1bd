use Rattle.vic_gate.specs.Workers.{by_hello}
use Rattle.vic_gate.proofs.Going.{Going}
use Rattle.vic_gate.proofs.worker.work.Given as goal

abbrev pub invariant-loop : goal.invariant-loop
invariant-loop g l = record {
  owns : g.D.Desk.owns l.desk l.pass;
  going : Going by_hello (g.D.Desk.answers l.desk) (g.L.Link.told l.initial.link) l.initial.pass (g.L.Link.told l.link) l.pass l.greeted l.reader;
  can : (goal.iterator-loop g).can_next l.iterator' × (goal.iterator-loop g).is_finite l.iterator';
}
