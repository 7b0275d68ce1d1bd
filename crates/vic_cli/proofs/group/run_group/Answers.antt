use Rattle.std.proofs.Common.{List, ℕ, subst}
use Rattle.vic_cli.specs.Output.{given_by, taken_by, Finishes, text_bytes}
use Rattle.vic_cli.specs.Command.{Ends}
use Rattle.vic_cli.specs.GroupEnds.{group_command}
use Rattle.vic_cli.proofs.GroupEnds.{group_complete, claimed}
use Rattle.vic_cli.proofs.group.run_group.Goals as goal

pub returns-clause-ends : goal.returns-clause-ends
returns-clause-ends g c =
    let k = given_by g.K.Sink.held g.K.Sink.faults c.args.sink.now c.finish.new.sink in
    let t = taken_by g.S.Source.left g.S.Source.faults g.S.Source.ended c.args.source.now c.compose-composed.new.source in
    let p = c.compose-composed.result in
    let finished = subst (λ (text : List ℕ). Finishes p.status text k c.finish.result) c.as_slice.ensures c.finish.ensures in
    subst (λ right. Ends (group_command right t) k c.finish.result) c.is_right.ensures (p.status, (text_bytes p.text, (c.compose-composed.ensures.plans, finished)))

pub returns-clause-complete : goal.returns-clause-complete
returns-clause-complete g c = group_complete _ _ _ _ (returns-clause-ends g c)

pub returns-clause-claim : goal.returns-clause-claim
returns-clause-claim g c = claimed
