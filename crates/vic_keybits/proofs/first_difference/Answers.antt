use Rattle.std.proofs.Common.{◌<◌, length, get_or, ap, arith}
use Rattle.vic_keybits.proofs.Bits.{shared_at, shared_ended}
use Rattle.vic_keybits.proofs.first_difference.Goals as goal
use Rattle.vic_keybits.proofs.first_difference.Goals.{else-place-a-via-then-place-a+else-place-b, else-place-a-via-else-place-a}

pub returns-then-place-b-clause-first : goal.returns-then-place-b-clause-first
returns-then-place-b-clause-first c =
    let place = c.first_apart-place.result in (
      λ e. c.first_apart-place.ensures.apart c.if-place-a.true c.if-place-b.true (ap (λ l. get_or l place 0) e),
      shared_at c.args.a.now c.args.b.now place c.bit_apart.result c.first_apart-place.ensures c.if-place-a.true c.if-place-b.true c.bit_apart.ensures.first,
    )

pub returns-else-a-b-clause-first : goal.returns-else-a-b-clause-first
returns-else-a-b-clause-first c =
    let place = c.first_apart-place.result in
    let ended : place < length c.args.a.now → place < length c.args.b.now → ⊥ = elim c.else-place-a.branch [
      | else-place-a-via-then-place-a+else-place-b w ↦ λ p q. omega (arith, q, w.if-place-b.false)
      | else-place-a-via-else-place-a w ↦ λ p q. omega (arith, p, w.if-place-a.false)
    ] in
    (λ e. c.if-a-b.false (ap length e), shared_ended c.args.a.now c.args.b.now place c.first_apart-place.ensures c.if-a-b.false ended)
