use Rattle.std.proofs.Common.{sym, ap, ◌∙◌, arith}
use Rattle.vic_dict.specs.Rows.{bytes_cmp}
use Rattle.vic_dict.proofs.Rows.{place-le, place_past, place_before}
use Rattle.vic_dict.proofs.plain.place_of.Goals as goal

pub loop-low-init : goal.loop-low-init
loop-low-init c = record { from = omega arith; to = place-le c.args.key.now c.args.rows.now; within = omega arith }

pub loop-low-preserved-in-Greater : goal.loop-low-preserved-in-Greater
loop-low-preserved-in-Greater c =
    let key_is = sym c.as_slice.ensures in
    let past = place_past c.args.key.now c.args.rows.now _ c.index-rows-middle.result c.requires (omega arith) (ap (bytes_cmp c.args.key.now) key_is ∙ sym c.in-Greater.ensures) in
    record { from = omega (arith, past); to = c.loop-low.invariant.to; within = c.loop-low.invariant.within }

pub loop-low-preserved : goal.loop-low-preserved
loop-low-preserved c =
    let key_is = sym c.as_slice.ensures in
    let before = place_before c.args.key.now c.args.rows.now _ c.index-rows-middle.result (omega arith) (λ p. c.in_default.not-Greater (c.cmp.ensures ∙ ap (bytes_cmp c.args.key.now) (sym key_is) ∙ p)) in
    record { from = c.loop-low.invariant.from; to = before; within = omega arith }
