use Rattle.std.proofs.Common.{◌≡◌, reverse, List, IfOk, subst}
use Rattle.vic_rules.specs.declared.trace.Shown.{Shown}
use Rattle.vic_view.specs.Transcripts.{transcript_group, transcript_history}
use Rattle.vic_view.proofs.Shows.{view_shown, done_within}
use Rattle.vic_view.proofs.views.view_of.Goals as goal

pub view_among-requires-clause-done : goal.view_among-requires-clause-done
view_among-requires-clause-done c = done_within (transcript_group c.args.t.now) (transcript_history c.args.t.now) c.requires c.args.client c.in_ok-mine.mine c.in_ok-mine.ensures

pub returns : goal.returns
returns c =
    subst (λ (w : List Shown). IfOk c.view_among.result (λ v. reverse v ≡ w))
    (view_shown (transcript_group c.args.t.now) (transcript_history c.args.t.now) c.requires c.in_ok-paths.paths c.as_slice-all.result.now c.as_slice-all.ensures c.in_ok-paths.ensures c.args.client c.in_ok-mine.mine c.in_ok-mine.ensures)
    c.view_among.ensures
