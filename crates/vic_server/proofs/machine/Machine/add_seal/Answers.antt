use Rattle.std.proofs.Common.{◌≡◌, ◌-◌, cond, List, [], ◌∷◌, ◌++◌, get_or, reverse, sym, ap, subst, ◌∙◌, arith}
use Rattle.std.proofs.lemmas.List.{reverse-append}
use Rattle.vic_dict.specs.Dictionary.{after}
use Rattle.vic_wire.specs.declared.message.Seal.{Seal}
use Rattle.vic_order.specs.Order.{Server}
use Rattle.vic_server.specs.Keeping.{IsSound}
use Rattle.vic_server.proofs.Seen.{size-rows, sealed_count-rows, ordered-row, with_seal-rows}
use Rattle.vic_server.proofs.Sound.{sound_sealed}
use Rattle.vic_server.proofs.machine.Machine.add_seal.Goals as goal

pub overflow_sub-self : goal.overflow_sub-self
overflow_sub-self c =
    let a = c.self.inside in
    let len = size-rows a.rows.items c.args.self.now (ap (λ s. s.log) c.self.view_is) in
    let sealed = sealed_count-rows a.seals.items c.args.self.now (ap (λ s. s.seals) c.self.view_is) in
    (sound_sealed _ _ _ _ _ _ _ c.args.seal c.apply.new.dictionary c.in-Ok.freed c.index-row.result.now c.op.result.now c.len-place.result c.self.invariant
    (omega (arith, len, sealed, c.requires.next, c.requires.within)) (omega (arith, c.len-place.ensures, a.seals.ok)) c.index-row.ensures c.op.ensures.is c.in-Ok.ensures.freed).1

pub invariant_of-self-in-Ok : goal.invariant_of-self-in-Ok
invariant_of-self-in-Ok c =
    let a = c.self.inside in
    let len = size-rows a.rows.items c.args.self.now (ap (λ s. s.log) c.self.view_is) in
    let sealed = sealed_count-rows a.seals.items c.args.self.now (ap (λ s. s.seals) c.self.view_is) in
    let items : c.push.new.self.items ≡ a.seals.items ++ c.args.seal ∷ [] = ◌∙◌ {A = List Seal} c.in_ok-push.ensures.items (ap (λ x. a.seals.items ++ x ∷ []) c.new.ensures) in
    subst (λ l. IsSound a.rows.items a.commits.items a.statuses.items l c.apply.new.dictionary a.members.items (a.weight - c.in-Ok.freed)) (sym items)
    (sound_sealed _ _ _ _ _ _ _ c.args.seal c.apply.new.dictionary c.in-Ok.freed c.index-row.result.now c.op.result.now c.len-place.result c.self.invariant
    (omega (arith, len, sealed, c.requires.next, c.requires.within)) (omega (arith, c.len-place.ensures, a.seals.ok)) c.index-row.ensures c.op.ensures.is c.in-Ok.ensures.freed).0

pub returns-in-Ok-clause-ok : goal.returns-in-Ok-clause-ok
returns-in-Ok-clause-ok c =
    let a = c.self.inside in
    let s = c.args.self.now in
    let sealed = sealed_count-rows a.seals.items s (ap (λ v. v.seals) c.self.view_is) in
    let place : c.len-place.result ≡ c.args.seal.position - 1 = omega (arith, c.len-place.ensures, a.seals.ok, sealed, c.requires.next) in
    let len = size-rows a.rows.items s (ap (λ v. v.log) c.self.view_is) in
    let row = c.index-row.result.now in
    let found = ordered-row a.rows.items s c.args.seal.position row (ap (λ v. v.log) c.self.view_is) (omega (arith, c.requires.next)) (omega (arith, len, c.requires.next, c.requires.within)) (c.index-row.ensures ∙ ap (λ n. get_or a.rows.items n row) place) in
    let items : reverse c.push.new.self.items ≡ c.args.seal ∷ s.seals =
    ap reverse c.in_ok-push.ensures.items ∙ reverse-append a.seals.items (c.new.result ∷ []) ∙ ap (λ x. x ∷ reverse a.seals.items) c.new.ensures ∙ ap (λ v. c.args.seal ∷ v.seals) c.self.view_is in
    let leaves = c.in-Ok.ensures.after ∙ ap (λ o. cond c.args.done (after a.dictionary o) a.dictionary) c.op.ensures.is ∙ ap (λ v. cond c.args.done (after v.dictionary row.entry.op) v.dictionary) c.self.view_is in
    ap (λ (v : Server). record v { seals = reverse c.push.new.self.items; dictionary = c.apply.new.dictionary }) c.self.view_is
    ∙ with_seal-rows s c.args.seal row c.args.done c.apply.new.dictionary (reverse c.push.new.self.items) items found c.requires.committed leaves
