use Rattle.std.proofs.Common.{◌≡◌, List, Option, reverse, sym, ap, subst, ◌∙◌}
use Rattle.vic_rules.specs.declared.trace.TraceStep.{TraceStep}
use Rattle.vic_view.specs.Transcripts.{transcript_group}
use Rattle.vic_script.specs.Run.{group_by, group_in, scene_in}
use Rattle.vic_group.specs.declared.header.Header.{Header}
use Rattle.vic_group.specs.Playing.{header_by, progress_by}
use Rattle.vic_group.proofs.Asking.{same_group}
use Rattle.vic_group.proofs.header.without_steps.Goals as goal

pub returns : goal.returns
returns c =
    let t = c.new-2.result in
    let h : Header = c.in-Some.header in
    record {
      group = subst (λ (o : Option Header). transcript_group t ≡ group_in (scene_in (progress_by o))) (sym c.in-Some.is) (same_group t (group_by (header_by h)) c.new-2.ensures.mode c.new-2.ensures.count (c.new-2.ensures.key ∙ c.in_ok-key.ensures));
      history = ap (λ (xs : List TraceStep). reverse xs) c.new-2.ensures.steps;
    }
