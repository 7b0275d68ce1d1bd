use Rattle.std.proofs.Common.{◌≡◌, ◌<◌, List, length, get_or, sym, ap, ◌∙◌, arith}
use Rattle.vic_view.specs.declared.replay.Place.{Place}
use Rattle.vic_apart.specs.Sealed.{lengths_with}
use Rattle.vic_apart.proofs.Leaving.{leaves_start, leaves_next}
use Rattle.vic_apart.proofs.sealed.put_left_texts.Goals as goal

pub loop-number-init : goal.loop-number-init
loop-number-init c =
    leaves_start c.args.all.now c.args.mine.now.path c.args.texts.now c.put_tree_texts.new.texts c.new-dict.result c.new-dict.ensures c.in_ok-put_tree_texts.ensures

pub loop-number-preserved : goal.loop-number-preserved
loop-number-preserved c =
    let lengths : c.as_slice.result.now ≡ lengths_with c.args.mine.now.path c.args.all.now =
    c.as_slice.ensures.value ∙ c.in_ok-lengths.ensures ∙ ap (λ (ps : List Place). lengths_with ps c.args.all.now) c.as_slice-path.ensures in
    let within : c.loop-number.number < length c.args.mine.now.path = omega (arith, c.loop-number-test.true, c.requires.within) in
    let is = c.index-path-number.is ∙ ap (λ (ps : List Place). get_or ps c.loop-number.number c.index-path-number.result) c.as_slice-path.ensures in
    leaves_next c.args.all.now c.args.mine.now.path c.args.texts.now c.loop-number.texts c.put_tree_texts-in-loop-number.new.texts c.loop-number.dict c.leave.new.dict
    c.loop-number.number c.index-path-number.result (get_or c.as_slice-path.result.now c.loop-number.number c.index-path-number.result).entry c.as_slice.result.now c.is_done_by-done.result
    within is (ap (λ (p : Place). p.entry) (sym c.index-path-number.is)) lengths c.is_done_by-done.ensures c.loop-number.invariant c.in_ok-leave.ensures.ok c.in_ok-leave.ensures.weighs c.in_ok-put_tree_texts-2.ensures
