use Rattle.std.proofs.Common.{◌≡◌, ◌≤◌, refl, sym, ap, ◌∙◌, arith}
use Rattle.vic_tree.specs.Grown.{dictionary_of}
use Rattle.vic_trie.specs.Tries.{top_tree, Grows, Keeps}
use Rattle.vic_trie.proofs.Kept.{put_is, weight_is, room_for, kept_grown, kept_changed}
use Rattle.vic_trie.proofs.trie.Trie.put.Goals as goal

pub invariant_of-self-in-Some : goal.invariant_of-self-in-Some
invariant_of-self-in-Some c =
    let i = c.self.inside in let k = c.self.invariant in
    let light = weight_is (top_tree i.top) c.args.self.now k.tree c.self.view_is in
    let small : i.weight ≤ 4294967295 = omega (arith, k.weighed, light, c.requires.room) in
    let put = put_is (top_tree i.top) c.args.self.now k.tree c.self.view_is c.args.key.now c.args.value.now (top_tree c.put_into.new.top) (λ j. omega (arith, c.type_inv.key j)) c.in_ok-before.ensures.tree in
    let change = rw c.in-Some.is at c.in_ok-before.ensures.change in
    kept_changed i.top c.put_into.new.top i.weight i.count k c.args.key.now c.args.value.now c.in-Some.old c.requires.key c.requires.value small put.0 c.in_ok-before.ensures.sound change.0

pub overflow_add-self-in-None-4 : goal.overflow_add-self-in-None-4
overflow_add-self-in-None-4 c =
    let i = c.self.inside in let k = c.self.invariant in
    let light = weight_is (top_tree i.top) c.args.self.now k.tree c.self.view_is in
    let small : i.weight ≤ 4294967295 = omega (arith, k.weighed, light, c.requires.room) in
    omega (arith, room_for i.top c.put_into.new.top i.weight i.count k small)

pub invariant_of-self-in-None : goal.invariant_of-self-in-None
invariant_of-self-in-None c =
    let i = c.self.inside in let k = c.self.invariant in
    let light = weight_is (top_tree i.top) c.args.self.now k.tree c.self.view_is in
    let small : i.weight ≤ 4294967295 = omega (arith, k.weighed, light, c.requires.room) in
    let put = put_is (top_tree i.top) c.args.self.now k.tree c.self.view_is c.args.key.now c.args.value.now (top_tree c.put_into.new.top) (λ j. omega (arith, c.type_inv.key j)) c.in_ok-before.ensures.tree in
    kept_grown i.top c.put_into.new.top i.weight i.count k c.args.key.now c.args.value.now c.requires.key c.requires.value small put.0 c.in_ok-before.ensures.sound (rw c.in-None.is at c.in_ok-before.ensures.change)

pub returns-in-Some-clause-ok : goal.returns-in-Some-clause-ok
returns-in-Some-clause-ok c =
    let i = c.self.inside in let k = c.self.invariant in
    (put_is (top_tree i.top) c.args.self.now k.tree c.self.view_is c.args.key.now c.args.value.now (top_tree c.put_into.new.top) (λ j. omega (arith, c.type_inv.key j)) c.in_ok-before.ensures.tree).1

pub returns-in-None-clause-ok : goal.returns-in-None-clause-ok
returns-in-None-clause-ok c =
    let i = c.self.inside in let k = c.self.invariant in
    (put_is (top_tree i.top) c.args.self.now k.tree c.self.view_is c.args.key.now c.args.value.now (top_tree c.put_into.new.top) (λ j. omega (arith, c.type_inv.key j)) c.in_ok-before.ensures.tree).1

pub returns-in-Some-clause-weighs : goal.returns-in-Some-clause-weighs
returns-in-Some-clause-weighs c =
    let i = c.self.inside in let k = c.self.invariant in
    let light = weight_is (top_tree i.top) c.args.self.now k.tree c.self.view_is in
    let put = put_is (top_tree i.top) c.args.self.now k.tree c.self.view_is c.args.key.now c.args.value.now (top_tree c.put_into.new.top) (λ j. omega (arith, c.type_inv.key j)) c.in_ok-before.ensures.tree in
    let now = weight_is (top_tree c.put_into.new.top) (dictionary_of (top_tree c.put_into.new.top)) put.0 refl in
    let change = rw c.in-Some.is at c.in_ok-before.ensures.change in
    omega (arith, light, now, change.0.weighs)

pub returns-in-None-clause-weighs : goal.returns-in-None-clause-weighs
returns-in-None-clause-weighs c =
    let i = c.self.inside in let k = c.self.invariant in
    let light = weight_is (top_tree i.top) c.args.self.now k.tree c.self.view_is in
    let put = put_is (top_tree i.top) c.args.self.now k.tree c.self.view_is c.args.key.now c.args.value.now (top_tree c.put_into.new.top) (λ j. omega (arith, c.type_inv.key j)) c.in_ok-before.ensures.tree in
    let now = weight_is (top_tree c.put_into.new.top) (dictionary_of (top_tree c.put_into.new.top)) put.0 refl in
    let change = rw c.in-None.is at c.in_ok-before.ensures.change in
    omega (arith, light, now, change.heavier)
