use Rattle.std.proofs.Common.{List, ℕ, subst}
use Rattle.vic_cli.specs.Output.{given_by, text_bytes, Finishes}
use Rattle.vic_cli.proofs.Drilling.{drill_complete}
use Rattle.vic_cli.proofs.drill.run_drill.Goals as goal

pub returns-clause-ends : goal.returns-clause-ends
returns-clause-ends g c =
    let k = given_by g.K.Sink.held g.K.Sink.faults c.args.sink.now c.finish.new.sink in
    let p = c.compose-composed.result in
    let finished = subst (λ (text : List ℕ). Finishes p.status text k c.finish.result) c.as_slice.ensures c.finish.ensures in
    (p.status, (text_bytes p.text, (c.compose-composed.ensures.plans, finished)))

pub returns-clause-complete : goal.returns-clause-complete
returns-clause-complete g c = drill_complete _ _ _ (returns-clause-ends g c)
