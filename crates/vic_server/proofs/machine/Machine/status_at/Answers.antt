use Rattle.std.proofs.Common.{ap, arith}
use Rattle.vic_server.proofs.Seen.{commit_at-past}
use Rattle.vic_server.proofs.machine.Machine.status_at.Goals as goal

pub returns-else-place-len : goal.returns-else-place-len
returns-else-place-len c = commit_at-past c.self.inside.commits.items c.self.inside.statuses.items c.args.self.now c.args.position (ap (λ s. s.commits) c.self.view_is) c.self.invariant.statuses c.requires (omega (arith, c.if-place-len.false, c.len.ensures, c.self.inside.statuses.ok))
