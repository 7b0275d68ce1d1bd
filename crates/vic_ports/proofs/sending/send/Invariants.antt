use Rattle.std.proofs.Common.{◌≡◌, ◌++◌, ℕ, List, length}
use Rattle.vic_ports.specs.Written.{AppendedAll}
use Rattle.vic_ports.proofs.sending.send.Given as goal

-- what was taken so far has joined what was held, the rest is to come, and no write failed
abbrev pub invariant-loop-rest : goal.invariant-loop-rest
invariant-loop-rest g l = record {
  so_far : (taken : List ℕ) × ((l.text ≡ taken ++ l.rest) × AppendedAll taken (g.L.Link.told l.initial.link).written (g.L.Link.told l.link).written);
  quiet : (g.L.Link.told l.link).faults ≡ (g.L.Link.told l.initial.link).faults;
  left : (g.L.Link.told l.link).left ≡ (g.L.Link.told l.initial.link).left;
  ended : (g.L.Link.told l.link).ended ≡ (g.L.Link.told l.initial.link).ended;
}

abbrev pub decreases-loop-rest : goal.decreases-loop-rest
decreases-loop-rest g l = length l.rest
