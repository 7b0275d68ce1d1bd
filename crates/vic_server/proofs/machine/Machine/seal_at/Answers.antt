use Rattle.std.proofs.Common.{ap, ◌∙◌, arith}
use Rattle.vic_server.proofs.Seen.{seal-row, sealed_count-rows}
use Rattle.vic_server.proofs.machine.Machine.seal_at.Goals as goal

pub returns-clause-is : goal.returns-clause-is
returns-clause-is c =
    let seen = ap (λ s. s.seals) c.self.view_is in
    let len = sealed_count-rows c.self.inside.seals.items c.args.self.now seen in
    c.seal.ensures.is ∙ seal-row c.self.inside.seals.items c.args.self.now c.args.position c.index-row.result.now seen
    (omega (arith, c.if-position-eq0.false)) (omega (arith, c.if-position-eq0.false, c.requires, len)) c.index-row.ensures
