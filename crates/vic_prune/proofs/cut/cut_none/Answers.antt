use Rattle.std.proofs.Common.{◌≡◌, refl, sym, ap, subst, ◌∙◌}
use Rattle.vic_wire.specs.Trees.{Tree, Empty, Stub, tree_of}
use Rattle.vic_wire.specs.Cuts.{IsCut, cut_none}
use Rattle.vic_tree.proofs.Stands.{tree_of-empty}
use Rattle.vic_tree.proofs.Made.{cut_none-cut}
use Rattle.vic_prune.proofs.Nodes.{cut_none-tree, cut_of_node}
use Rattle.vic_prune.proofs.cut.cut_none.Goals as goal

pub returns-in-None-clause-part : goal.returns-in-None-clause-part
returns-in-None-clause-part c = sym (ap (λ t. cut_none t) (ap tree_of (c.in-None.ensures.empty.0 refl) ∙ tree_of-empty))

pub returns-in-Some-clause-part : goal.returns-in-Some-clause-part
returns-in-Some-clause-part c =
    ap (λ x. Stub x) c.root.ensures ∙ sym (cut_none-tree c.in-Some.node.now) ∙ ap (λ t. cut_none t) c.in-Some.ensures.tree.1

pub returns-in-None-clause-cut : goal.returns-in-None-clause-cut
returns-in-None-clause-cut c = subst (λ x. IsCut x (tree_of c.args.trie.now)) (sym (returns-in-None-clause-part c)) (cut_none-cut (tree_of c.args.trie.now))

pub returns-in-Some-clause-cut : goal.returns-in-Some-clause-cut
returns-in-Some-clause-cut c = subst (λ x. IsCut x (tree_of c.args.trie.now)) (sym (returns-in-Some-clause-part c)) (cut_none-cut (tree_of c.args.trie.now))

pub returns-in-Some-clause-grammar : goal.returns-in-Some-clause-grammar
returns-in-Some-clause-grammar c =
    let n = c.in-Some.node.now in
    let p = Stub c.root.result.bytes in
    cut_of_node n p c.in-Some.ensures.tree.0 c.in-Some.ensures.grown (subst (λ t. IsCut p t) (sym c.in-Some.ensures.tree.1) (returns-in-Some-clause-cut c))
