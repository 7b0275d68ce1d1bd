use Rattle.std.proofs.Common.{◌≡◌, ◌+◌, ◌-◌, cond, refl, sym, ap, subst, ◌∙◌, arith, Some}
use Rattle.std.specs.Prelude.{IfOk}
use Rattle.vic_dict.specs.Dictionary.{after}
use Rattle.vic_order.specs.Order.{op_weight, ordered_at}
use Rattle.vic_server.specs.Keeping.{turn_from}
use Rattle.vic_server.proofs.Seen.{size-rows, sealed_count-rows, ordered-row, sealed-dictionary, turn-sealed}
use Rattle.vic_server.proofs.Sound.{sound_sealed}
use Rattle.vic_server.proofs.machine.Machine.turn_after.Goals as goal

pub turn_over-requires-clause-light : goal.turn_over-requires-clause-light
turn_over-requires-clause-light c =
    let a = c.self.inside in
    let len = size-rows a.rows.items c.args.self.now (ap (λ s. s.log) c.self.view_is) in
    let sealed = sealed_count-rows a.seals.items c.args.self.now (ap (λ s. s.seals) c.self.view_is) in
    let sound = sound_sealed _ _ _ _ _ _ _ c.args.seal a.dictionary (op_weight c.op.result.now) c.index-row.result.now c.op.result.now (c.args.seal.position - 1) c.self.invariant
    (omega (arith, len, sealed, c.requires.next, c.requires.within)) (omega (arith, sealed, c.requires.next)) c.index-row.ensures c.op.ensures.is refl in
    omega (arith, sound.0.weight, sound.1, c.self.invariant.light)

pub returns-in-Some-clause-is : goal.returns-in-Some-clause-is
returns-in-Some-clause-is c =
    let a = c.self.inside in
    let s = c.args.self.now in
    let seal = c.args.seal in
    let who = c.args.who in
    let next = c.sealed-next.result + 2 in
    let status = c.in-Some.status in
    let len = size-rows a.rows.items s (ap (λ v. v.log) c.self.view_is) in
    let row = c.index-row.result.now in
    let coming = c.index-coming.result.now in
    let found = ordered-row a.rows.items s seal.position row (ap (λ v. v.log) c.self.view_is) (omega (arith, c.requires.next)) (omega (arith, len, c.requires.next, c.requires.within)) c.index-row.ensures in
    let behind = ordered-row a.rows.items s next coming (ap (λ v. v.log) c.self.view_is) (omega arith) (omega (arith, len, c.in-Some.ensures.status.1)) c.index-coming.ensures in
    let over = cond c.args.done (after a.dictionary c.op.result.now) a.dictionary in
    let leaves = ap (λ o. cond c.args.done (after a.dictionary o) a.dictionary) c.op.ensures.is ∙ ap (λ v. cond c.args.done (after v.dictionary row.entry.op) v.dictionary) c.self.view_is in
    let is = ap (λ o. turn_from seal over who o (Some status)) behind ∙ ap (turn_from seal over who (ordered_at s next)) (sym c.in-Some.ensures.status.0)
    ∙ turn-sealed s seal who next over c.requires.next (ap (λ n. n + 2) c.sealed-next.ensures.is) (sealed-dictionary s seal row c.args.done over found c.requires.committed leaves) in
    subst (λ t. IfOk c.turn_over.result (λ answer. answer ≡ t)) is c.turn_over.ensures.is
