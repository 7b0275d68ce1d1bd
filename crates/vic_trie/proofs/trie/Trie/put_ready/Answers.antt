use Rattle.std.proofs.Common.{◌≡◌, ◌≤◌, ℕ, List, sym, ap, subst, ◌∙◌, arith}
use Rattle.vic_wire.specs.Walks.{put_in}
use Rattle.vic_trie.specs.Tries.{top_tree, Grows, Keeps}
use Rattle.vic_trie.proofs.Kept.{put_is, weight_is, room_for, kept_grown, kept_changed}
use Rattle.vic_trie.proofs.trie.Trie.put_ready.Goals as goal

pub invariant_of-self : goal.invariant_of-self
invariant_of-self c =
    let i = c.self.inside in let k = c.self.invariant in let key = c.args.ready.key in let value = c.args.ready.value in
    let light = weight_is (top_tree i.top) c.args.self.now k.tree c.self.view_is in
    let small : i.weight ≤ 4294967295 = omega (arith, k.weighed, light, c.requires.room) in
    let is : top_tree c.put_ready_into.new.top ≡ put_in key value (top_tree i.top) = c.put_ready_into.ensures.tree ∙ ap (λ q. put_in q value (top_tree i.top)) c.as_slice.ensures in
    let put = put_is (top_tree i.top) c.args.self.now k.tree c.self.view_is key value (top_tree c.put_ready_into.new.top) c.are_bytes.ensures is in
    rw (c.len-long.ensures) (kept_changed i.top c.put_ready_into.new.top i.weight i.count k key value c.in-Some.old c.requires.ready.key c.requires.ready.value small put.0 c.put_ready_into.ensures.sound c.in-Some.ensures.change.0)

pub returns-in-Some : goal.returns-in-Some
returns-in-Some c =
    let i = c.self.inside in let k = c.self.invariant in let key = c.args.ready.key in let value = c.args.ready.value in
    let is : top_tree c.put_ready_into.new.top ≡ put_in key value (top_tree i.top) = c.put_ready_into.ensures.tree ∙ ap (λ q. put_in q value (top_tree i.top)) c.as_slice.ensures in
    (put_is (top_tree i.top) c.args.self.now k.tree c.self.view_is key value (top_tree c.put_ready_into.new.top) c.are_bytes.ensures is).1

pub overflow_add-self-in-None-4 : goal.overflow_add-self-in-None-4
overflow_add-self-in-None-4 c =
    let i = c.self.inside in let k = c.self.invariant in
    let light = weight_is (top_tree i.top) c.args.self.now k.tree c.self.view_is in
    let small : i.weight ≤ 4294967295 = omega (arith, k.weighed, light, c.requires.room) in
    omega (arith, room_for i.top c.put_ready_into.new.top i.weight i.count k small)

pub invariant_of-self-in-None : goal.invariant_of-self-in-None
invariant_of-self-in-None c =
    let i = c.self.inside in let k = c.self.invariant in let key = c.args.ready.key in let value = c.args.ready.value in
    let light = weight_is (top_tree i.top) c.args.self.now k.tree c.self.view_is in
    let small : i.weight ≤ 4294967295 = omega (arith, k.weighed, light, c.requires.room) in
    let is : top_tree c.put_ready_into.new.top ≡ put_in key value (top_tree i.top) = c.put_ready_into.ensures.tree ∙ ap (λ q. put_in q value (top_tree i.top)) c.as_slice.ensures in
    let put = put_is (top_tree i.top) c.args.self.now k.tree c.self.view_is key value (top_tree c.put_ready_into.new.top) c.are_bytes.ensures is in
    let grows = subst (λ q. Grows (top_tree i.top) (top_tree c.put_ready_into.new.top) q value) c.as_slice.ensures c.in-None.ensures.change in
    rw (c.len.ensures, c.len-long.ensures) (kept_grown i.top c.put_ready_into.new.top i.weight i.count k key value c.requires.ready.key c.requires.ready.value small put.0 c.put_ready_into.ensures.sound grows)

pub returns : goal.returns
returns c =
    let i = c.self.inside in let k = c.self.invariant in let key = c.args.ready.key in let value = c.args.ready.value in
    let is : top_tree c.put_ready_into.new.top ≡ put_in key value (top_tree i.top) = c.put_ready_into.ensures.tree ∙ ap (λ q. put_in q value (top_tree i.top)) c.as_slice.ensures in
    (put_is (top_tree i.top) c.args.self.now k.tree c.self.view_is key value (top_tree c.put_ready_into.new.top) c.are_bytes.ensures is).1
