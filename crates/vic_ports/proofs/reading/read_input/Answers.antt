use Rattle.std.proofs.Common.{◌++◌, ◌∙◌, take, arith}
use Rattle.std.proofs.lemmas.Grind.{common_steps}
use Rattle.vic_ports.proofs.Fronts.{leaves_more, one_more}
use Rattle.vic_ports.proofs.reading.read_input.Goals as goal

pub returns-then-is_err-clause-given : goal.returns-then-is_err-clause-given
returns-then-is_err-clause-given g c =
    let before = c.loop-buffer.invariant in
    let given = c.in-Bytes.ensures.given in (
      given.4 ∙ before.quiet,
      (
        c.loop-buffer.all ++ take c.in-Bytes.n c.read.new.into,
        (one_more c.loop-buffer.all c.read.new.into c.in-Bytes.n (grind (arith, common_steps)) (grind (arith, common_steps)), leaves_more _ _ _ _ _ before.so_far given.2),
      ),
    )

pub returns-then-is_err-clause-taken : goal.returns-then-is_err-clause-taken
returns-then-is_err-clause-taken g c =
    let before = c.loop-buffer.invariant in
    let given = c.in-Bytes.ensures.given in (
      c.loop-buffer.all ++ take c.in-Bytes.n c.read.new.into,
      (one_more c.loop-buffer.all c.read.new.into c.in-Bytes.n (grind (arith, common_steps)) (grind (arith, common_steps)), leaves_more _ _ _ _ _ before.so_far given.2),
    )
