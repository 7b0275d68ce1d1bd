use Rattle.std.proofs.Common.{ℕ, List, subst}
use Rattle.vic_cli.specs.Output.{text_bytes, taken_by}
use Rattle.vic_cli.specs.GroupEnds.{TellsRun}
use Rattle.vic_cli.proofs.Sources.{told_whole, takes_nothing}
use Rattle.vic_cli.proofs.GroupEnds.{plans_past, plans_whole}
use Rattle.vic_cli.proofs.group.compose.Goals as goal

pub returns-in-Whole-clause-plans : goal.returns-in-Whole-clause-plans
returns-in-Whole-clause-plans g c =
    let t = taken_by g.S.Source.left g.S.Source.faults g.S.Source.ended c.args.source.now c.read_input.new.source in
    let status = c.compose_run.result.status in
    let text = text_bytes c.compose_run.result.text in
    let told = c.in-Whole.ensures.given in
    let run : TellsRun c.in-Whole.script status text = subst (λ (script : List ℕ). TellsRun script status text) c.as_slice.ensures c.compose_run.ensures in
    rw c.if-not-right.false (plans_whole t c.in-Whole.script text status (told.4, (told.2, told.1)) (told_whole t c.in-Whole.script told.0 told.1) run)

pub returns-in-TooLong-clause-plans : goal.returns-in-TooLong-clause-plans
returns-in-TooLong-clause-plans g c =
    let t = taken_by g.S.Source.left g.S.Source.faults g.S.Source.ended c.args.source.now c.read_input.new.source in
    let status = c.compose_run-in-TooLong.result.status in
    let text = text_bytes c.compose_run-in-TooLong.result.text in
    let told = c.in-TooLong.ensures.given in
    let run : TellsRun c.in-TooLong.front status text = subst (λ (script : List ℕ). TellsRun script status text) c.as_slice-in-TooLong.ensures c.compose_run-in-TooLong.ensures in
    rw c.if-not-right.false (plans_past t c.in-TooLong.front text status told.0 told.1 told.2 run)

pub returns-then-not-right-clause-taken : goal.returns-then-not-right-clause-taken
returns-then-not-right-clause-taken g c = takes_nothing (g.S.Source.left c.args.source.now)
