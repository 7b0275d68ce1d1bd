use Rattle.std.specs.Io.KnownBytes.{Keeps}
use Rattle.vic_ports.proofs.answers.read_from.Given as goal

-- the reads so far, which signals cut short, did nothing
abbrev pub invariant-loop-left : goal.invariant-loop-left
invariant-loop-left g l = Keeps (g.R.Read.remaining l.initial.input) (g.R.Read.remaining l.input)
