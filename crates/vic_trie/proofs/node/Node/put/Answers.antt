use Rattle.std.proofs.Common.{◌≡◌, ℕ, List, length, sym, ap, refl, ◌∙◌, arith}
use Rattle.vic_wire.specs.Trees.{Leaf}
use Rattle.vic_wire.specs.Walks.{end_at, tree_with_value, tree_with_fork}
use Rattle.vic_trie.specs.Nodes.{tree}
use Rattle.vic_trie.proofs.Kept.{grows_planted, keeps_revalued}
use Rattle.vic_trie.proofs.node.Node.put.Goals as goal

pub returns-in-None-clause-change : goal.returns-in-None-clause-change
returns-in-None-clause-change c =
    let k = c.args.key.now in let t = tree c.args.self.now in
    let same : c.end.result.0.now ≡ k = sym c.as_slice.ensures ∙ sym c.in-None.ensures.first in
    let e : end_at k t ≡ Leaf k c.end.result.1.now = c.end.ensures.leaf ∙ ap (λ q. Leaf q c.end.result.1.now) same in
    let is : tree c.revalue.new.self ≡ tree_with_value k c.args.value.now t = c.revalue.ensures.tree ∙ ap (λ v. tree_with_value k v t) c.in_ok-held.ensures in
    let long : c.len-old.result ≡ length c.end.result.1.now = c.len-old.ensures in
    (rw (is, long) (keeps_revalued k c.args.value.now c.end.result.1.now t e), omega arith)

pub returns-in_ok-fresh-in-Some-clause-change : goal.returns-in_ok-fresh-in-Some-clause-change
returns-in_ok-fresh-in-Some-clause-change c =
    let k = c.args.key.now in let v = c.args.value.now in let t = tree c.args.self.now in
    let fresh : tree c.in_ok-fresh-in-Some.fresh.value ≡ Leaf k v = ap tree c.in_ok-fresh-in-Some.ensures.ok ∙ (λ i. Leaf (c.in_ok-of-in-Some.ensures i) (c.in_ok-held.ensures i)) in
    rw (c.plant.ensures.tree v fresh) (grows_planted _ k v t)
