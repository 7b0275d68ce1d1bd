-- The bare part of a node's tree.
use Rattle.std.proofs.Common.{◌≡◌, refl}
use Rattle.vic_wire.specs.Trees.{Tree, Stub, root_of}
use Rattle.vic_wire.specs.Cuts.{IsCut, cut_none}
use Rattle.vic_tree.specs.Grown.{IsTree, LeavesFit}
use Rattle.vic_wire.specs.Parts.{IsPart}
use Rattle.vic_trie.specs.declared.node.Node.{Node}
use Rattle.vic_trie.specs.declared.node.Node.TheVariants.{Leaf, Inner'}
use Rattle.vic_trie.specs.Nodes.{tree, IsSound}
use Rattle.vic_tree.proofs.Grammar.{cut_is_part, tree_is_part}

pub cut_none-tree : (n : Node) → cut_none (tree n) ≡ Stub (root_of (tree n))
cut_none-tree (Leaf k v digest) = refl
cut_none-tree (Inner' i digest p l q r) = refl

pub node_leaves : (n : Node) → IsSound n → LeavesFit (tree n)
node_leaves (Leaf k v digest) s = (s.0, s.1)
node_leaves (Inner' i digest p l q r) s = (node_leaves l s.1, node_leaves r s.2)

-- a part cut from a sound node's tree is one by the grammar
pub cut_of_node : (n : Node) (c : Tree) → IsSound n → IsTree (tree n) → IsCut c (tree n) → IsPart c
cut_of_node n c s g cut = cut_is_part c (tree n) cut (tree_is_part (tree n) g (node_leaves n s))
