use Rattle.std.proofs.Common.{refl, sym, ap, ◌∙◌, ◌≤◌, length, arith}
use Rattle.std.specs.Prelude.{nat_lt, if◌then◌else◌}
use Rattle.std.specs.FinMap as map
use Rattle.vic_dict.specs.declared.op.Op.TheVariants as op
use Rattle.vic_wire.specs.Parts.{walked}
use Rattle.vic_prune.specs.Parts.{part}
use Rattle.vic_rules.specs.Client.{done_op}
use Rattle.vic_checks.specs.Finding.{left_at}
use Rattle.vic_checks.proofs.Decisions.{laid_more, laid_end}
use Rattle.vic_checks.proofs.Finding.{left_is}
use Rattle.vic_checks.proofs.contents.found_above.Goals as goal

pub loop-i-init : goal.loop-i-init
loop-i-init c = (walked (part c.args.part.now) (op.Get c.args.key.now), (refl, c.get-value.ensures))

pub loop-i-preserved : goal.loop-i-preserved
loop-i-preserved c =
    let w = c.loop-i.invariant in
    let x = c.at.result.now in (
      (if nat_lt c.args.base x.position then done_op w.0 x else w.0),
      (
        laid_more c.args.own.now c.loop-i.i c.args.base w.0 _ x c.at.ensures.item refl ∙ w.1.0,
        c.found_after-value.ensures ∙ (ap (left_at c.args.base x c.args.key.now) w.1.1 ∙ left_is c.args.base x c.args.key.now w.0),
      ),
    )

pub returns : goal.returns
returns c =
    let w = c.loop-i.invariant in
    let past : length c.args.own.now ≤ c.loop-i.i = omega (arith, c.loop-i-test.false, c.len-i-end.ensures) in
    w.1.1 ∙ ap (λ d. map.get d c.args.key.now) (sym (laid_end c.args.own.now c.loop-i.i c.args.base w.0 past) ∙ w.1.0)
