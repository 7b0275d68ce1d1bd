use Rattle.std.proofs.Common.{◌≡◌, ◌≤◌, ◌++◌, List, length, ap, ◌∙◌, arith}
use Rattle.vic_rules.specs.declared.trace.Shown.{Shown}
use Rattle.vic_view.specs.Transcripts.{transcript_group, transcript_history}
use Rattle.vic_view.specs.Printed.{view_texts, agree_texts}
use Rattle.vic_view.proofs.Prints.{length_views, prints_all}
use Rattle.vic_view.proofs.print.put_along.Goals as goal

pub put_agreements-requires : goal.put_agreements-requires
put_agreements-requires c =
    let size : length c.as_slice-2.result.now ≡ c.args.t.now.count =
    ap length (c.as_slice-2.ensures ∙ c.in_ok-views.ensures) ∙ length_views (transcript_group c.args.t.now) (transcript_history c.args.t.now) c.args.t.now.count in
    let few : c.args.t.now.count ≤ 64 = c.requires.lawful.group.count.1 in
    omega arith

pub returns : goal.returns
returns c =
    prints_all (transcript_group c.args.t.now) (transcript_history c.args.t.now) c.in_ok-views.views c.args.forged c.args.out.now c.put_views.new.out c.put_agreements.new.out c.put_tags.new.out
    c.in_ok-views.ensures
    (c.in_ok-put_views.ensures.ok ∙ ap (λ (x : List (List Shown)). c.args.out.now ++ view_texts 1 x) c.as_slice.ensures)
    (c.in_ok-put_agreements.ensures.ok ∙ ap (λ (x : List (List Shown)). c.put_views.new.out ++ agree_texts 1 x) c.as_slice-2.ensures)
    c.in_ok-put_tags.ensures.ok
