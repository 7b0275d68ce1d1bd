use Rattle.std.proofs.Common.{◌∙◌}
use Rattle.vic_wire.specs.Trees.{Empty}
use Rattle.vic_trie.specs.Nodes.{tree}
use Rattle.vic_trie.proofs.Kept.{root_is, opened, opened_none}
use Rattle.vic_trie.proofs.trie.Trie.root.Goals as goal

pub returns-in-None : goal.returns-in-None
returns-in-None c = c.empty.ensures ∙ root_is Empty c.args.self.now tt (opened_none c.self.view_is c.in-None.is)

pub returns-in-Some : goal.returns-in-Some
returns-in-Some c =
    let o = opened c.self.invariant c.self.view_is c.in-Some.is in
    c.root.ensures ∙ root_is (tree c.in-Some.node) c.args.self.now o.grown o.view
