use Rattle.std.proofs.Common.{◌≡◌, ◌∙◌, ap, subst, reverse, List, IfOk}
use Rattle.vic_rules.specs.declared.trace.TraceStep.{TraceStep}
use Rattle.vic_rules.specs.declared.trace.Shown.{Shown}
use Rattle.vic_view.specs.Transcripts.{transcript_group, transcript_history}
use Rattle.vic_view.specs.Plain.{prefix_of, completed_in}
use Rattle.vic_view.proofs.Plainly.{plain_view}
use Rattle.vic_view.proofs.plain.view_plainly.Goals as goal

pub returns : goal.returns
returns c =
    let all = c.in_ok-all.ensures ∙ ap (λ (xs : List TraceStep). completed_in (reverse xs)) c.as_slice.ensures in
    subst (λ (w : List Shown). IfOk c.confirmed_on.result (λ v. reverse v ≡ w))
    (plain_view (transcript_group c.args.t.now) (transcript_history c.args.t.now) c.requires.steps c.in_ok-all.all c.as_slice-2.result.now all c.as_slice-2.ensures c.args.client
    (prefix_of c.last_path-path.result.now) c.last_path-path.ensures c.as_slice-3.result.now c.as_slice-3.ensures)
    c.confirmed_on.ensures
