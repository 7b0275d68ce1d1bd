use Rattle.std.proofs.Common.{sym, ap, subst, ◌∙◌}
use Rattle.vic_wire.specs.Walks.{reaches}
use Rattle.vic_wire.specs.Cuts.{IsCut}
use Rattle.vic_tree.proofs.Made.{cut_for-reaches, cut_for-cut}
use Rattle.vic_prune.specs.Parts.{part}
use Rattle.vic_prune.proofs.Nodes.{cut_of_node}
use Rattle.vic_trie.specs.Nodes.{tree}
use Rattle.vic_prune.proofs.cut.cut_of.Goals as goal

pub returns-clause-reaches : goal.returns-clause-reaches
returns-clause-reaches c =
    ap (λ t. reaches t c.args.op.now) c.in_ok-part.ensures.part ∙ cut_for-reaches (tree c.args.node.now) c.args.op.now c.requires.tree

pub returns-clause-grammar : goal.returns-clause-grammar
returns-clause-grammar c =
    let t = tree c.args.node.now in
    cut_of_node c.args.node.now (part c.in_ok-part.part) c.requires.sound c.requires.tree (subst (λ x. IsCut x t) (sym c.in_ok-part.ensures.part) (cut_for-cut t c.args.op.now))
