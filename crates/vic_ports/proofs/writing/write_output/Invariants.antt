use Rattle.std.proofs.Common.{◌≡◌, ◌++◌, ℕ, List, length}
use Rattle.vic_ports.specs.Written.{AppendedAll}
use Rattle.vic_ports.proofs.writing.write_output.Given as goal

-- what was taken so far has joined what was held, the rest is to come, and no write failed
abbrev pub invariant-loop-rest : goal.invariant-loop-rest
invariant-loop-rest g l = record {
  so_far : (taken : List ℕ) × ((l.text ≡ taken ++ l.rest) × AppendedAll taken (g.K.Sink.held l.initial.sink) (g.K.Sink.held l.sink));
  quiet : g.K.Sink.faults l.sink ≡ g.K.Sink.faults l.initial.sink;
}

abbrev pub decreases-loop-rest : goal.decreases-loop-rest
decreases-loop-rest g l = length l.rest
