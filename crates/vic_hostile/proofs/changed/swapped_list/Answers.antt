use Rattle.std.proofs.Common.{◌≡◌, ℕ, List, Some, subst, sym, ap, ◌∙◌, ◌++◌, ◌∷◌, [], ◌-◌, take, reverse, length, arith}
use Rattle.std.specs.Prelude.{slice_get}
use Rattle.std.specs.List.{AllByRecursion}
use Rattle.vic_wire.specs.declared.message.Tagged.{Tagged}
use Rattle.vic_wire.specs.Messages.{IsTagged}
use Rattle.vic_hostile.proofs.Reversed.{all_at, all_more, last_alone}
use Rattle.vic_hostile.proofs.changed.swapped_list.Goals as goal

pub returns-clause-is : goal.returns-clause-is
returns-clause-is c =
    let xs = c.args.entries.now in
    let t = c.at.result.now in
    let n : c.len-last.result - 1 ≡ length xs - 1 = omega (arith, c.len-last.ensures) in
    let at : slice_get xs (length xs - 1) ≡ Some t = subst (λ (k : ℕ). slice_get xs k ≡ Some t) n c.at.ensures in
    c.in_ok-push.ensures.ok ∙ ap (λ (y : Tagged). c.in_ok-made.made ++ y ∷ []) c.in_ok-own.ensures
    ∙ ap (λ (ms : List Tagged). ms ++ t ∷ []) (c.in_ok-made.ensures.is ∙ ap (λ (k : ℕ). reverse (take k xs)) n)
    ∙ ap (λ (ts : List Tagged). reverse (take (length xs - 1) xs) ++ ts) (sym (last_alone xs t at))

pub returns-clause-spelled : goal.returns-clause-spelled
returns-clause-spelled c =
    let here : IsTagged c.in_ok-own.own = subst IsTagged (sym c.in_ok-own.ensures) (all_at IsTagged c.args.entries.now _ _ c.requires.spelled c.at.ensures) in
    subst (AllByRecursion IsTagged) (sym c.in_ok-push.ensures.ok) (all_more IsTagged c.in_ok-made.made c.in_ok-own.own c.in_ok-made.ensures.spelled here)
