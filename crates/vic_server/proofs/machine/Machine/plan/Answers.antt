use Rattle.std.proofs.Common.{arith}
use Rattle.vic_server.proofs.Polls.{poll-spelled}
use Rattle.vic_server.proofs.machine.Machine.plan.Goals as goal

pub returns-in_err-request-clause-waits : goal.returns-in_err-request-clause-waits
returns-in_err-request-clause-waits c = λ is wait.
    let spelled = poll-spelled c.args.payload.now (λ i. omega (arith, c.type_inv.payload i)) is in
    let read = c.in_err-request.ensures.poll spelled in
    let failed = c.in_err-request.was in
    absurd cc
