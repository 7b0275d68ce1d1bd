use Rattle.std.proofs.Common.{◌+◌, ◌-◌, ◌*◌, ◌/◌, ◌%◌, ◌^◌, suc, get_or, sym, ◌∙◌, arith}
use Rattle.vic_wire.specs.Bits.{is_odd, key_bit}
use Rattle.vic_keybits.proofs.Bits.{same_at, key_bit-past, key_bit-mark_at, key_bit-byte_at}
use Rattle.vic_keybits.proofs.bit.Goals as goal

pub returns-then-place-key : goal.returns-then-place-key
returns-then-place-key c = sym (key_bit-past c.args.key.now c.args.i (omega (arith, c.if-place-key.true)))

pub returns-then-within-eq0 : goal.returns-then-within-eq0
returns-then-within-eq0 c =
    sym (key_bit-mark_at c.args.key.now (c.args.i / 9) (omega (arith, c.if-place-key.false))) ∙ same_at (key_bit c.args.key.now) (9 * (c.args.i / 9)) c.args.i (omega (arith, c.if-within-eq0.true))

pub returns : goal.returns
returns c =
    let key = c.args.key.now in
    let place = c.args.i / 9 in
    let j = c.args.i % 9 - 1 in
    same_at (λ n. is_odd (get_or key place 0 / 2 ^ n)) (8 - c.args.i % 9) (7 - j) (omega arith)
    ∙ sym (key_bit-byte_at key place j 0 (omega (arith, c.if-place-key.false)) (omega (arith, c.if-within-eq0.false)))
    ∙ same_at (key_bit key) (9 * place + suc j) c.args.i (omega (arith, c.if-within-eq0.false))
