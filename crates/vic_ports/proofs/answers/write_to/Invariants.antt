use Rattle.std.specs.Io.KnownBytes.{Keeps}
use Rattle.vic_ports.proofs.answers.write_to.Given as goal

-- the writes so far, which signals cut short, did nothing
abbrev pub invariant-loop-left : goal.invariant-loop-left
invariant-loop-left g l = Keeps (g.W.Write.contents l.initial.output) (g.W.Write.contents l.output)
