use Rattle.std.proofs.Common.{arith}
use Rattle.vic_proof.proofs.Wholes.{given}
use Rattle.vic_proof.proofs.reading.part_of.Goals as goal

pub returns-clause-grammar : goal.returns-clause-grammar
returns-clause-grammar c = given c.take_part.result c.args.bytes.now (λ i. omega (arith, c.type_inv.bytes i)) c.take_part.ensures
