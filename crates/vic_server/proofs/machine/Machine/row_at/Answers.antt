use Rattle.std.proofs.Common.{ap, arith}
use Rattle.vic_server.proofs.Seen.{ordered-row}
use Rattle.vic_server.proofs.machine.Machine.row_at.Goals as goal

pub returns-then-place-len : goal.returns-then-place-len
returns-then-place-len c = ordered-row c.self.inside.rows.items c.args.self.now c.args.position c.index.result.now (ap (λ s. s.log) c.self.view_is) c.requires (omega (arith, c.if-place-len.true, c.len.ensures, c.self.inside.rows.ok)) c.index.ensures
