use Rattle.std.proofs.Common.{◌≡◌, ℕ, List, length, sym, ap, refl, ◌∙◌, arith}
use Rattle.vic_wire.specs.Trees.{Leaf}
use Rattle.vic_wire.specs.Walks.{end_at, tree_with_value, tree_with_fork}
use Rattle.vic_trie.specs.Nodes.{tree}
use Rattle.vic_trie.proofs.Kept.{grows_planted, keeps_revalued}
use Rattle.vic_trie.proofs.node.Node.put_ready.Goals as goal

pub returns-in-None-clause-change : goal.returns-in-None-clause-change
returns-in-None-clause-change c =
    let k = c.args.key.now in let t = tree c.args.self.now in
    let same : c.end.result.0.now ≡ k = sym c.as_slice.ensures ∙ sym c.in-None.ensures.first in
    let e : end_at k t ≡ Leaf k c.end.result.1.now = c.end.ensures.leaf ∙ ap (λ q. Leaf q c.end.result.1.now) same in
    let is : tree c.revalue.new.self ≡ tree_with_value k c.args.value t = c.revalue.ensures.tree in
    let long : c.len-old.result ≡ length c.end.result.1.now = c.len-old.ensures in
    (rw (is, long) (keeps_revalued k c.args.value c.end.result.1.now t e), omega arith)

pub returns-in-Some-clause-change : goal.returns-in-Some-clause-change
returns-in-Some-clause-change c =
    let k = c.args.key.now in let v = c.args.value in let t = tree c.args.self.now in
    rw (c.plant.ensures.tree v c.requires.fresh.1) (grows_planted _ k v t)
