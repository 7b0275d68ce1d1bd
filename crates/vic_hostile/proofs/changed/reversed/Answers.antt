use Rattle.std.proofs.Common.{◌≡◌, subst, sym, ap, ◌∙◌, ◌++◌, ◌∷◌, [], List, arith}
use Rattle.std.specs.List.{AllByRecursion}
use Rattle.vic_wire.specs.declared.message.Tagged.{Tagged}
use Rattle.vic_wire.specs.Messages.{IsTagged}
use Rattle.vic_hostile.proofs.Reversed.{all_at, all_more, reverse_more}
use Rattle.vic_hostile.proofs.changed.reversed.Goals as goal

pub loop-done-preserved : goal.loop-done-preserved
loop-done-preserved c =
    let xs = c.args.entries.now in
    let at = c.at.ensures in
    let item : c.in_ok-item.item ≡ c.at.result.now = c.in_ok-item.ensures in
    let more = reverse_more xs c.args.count c.loop-done.done c.at.result.now c.requires.within (omega arith) at in
    let here : IsTagged c.in_ok-item.item = subst IsTagged (sym item) (all_at IsTagged xs _ _ c.requires.spelled at) in
    record {
      is = c.in_ok-push.ensures.ok ∙ ap (λ (t : Tagged). c.loop-done.made ++ t ∷ []) item
          ∙ ap (λ (ms : List Tagged). ms ++ c.at.result.now ∷ []) c.loop-done.invariant.is ∙ sym more;
      spelled = subst (AllByRecursion IsTagged) (sym c.in_ok-push.ensures.ok) (all_more IsTagged c.loop-done.made c.in_ok-item.item c.loop-done.invariant.spelled here);
    }
