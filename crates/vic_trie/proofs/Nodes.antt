-- The tree of a node.
use Rattle.std.proofs.Common.{◌≡◌, false, refl}
use Rattle.vic_wire.specs.Walks.{is_gone}
use Rattle.vic_trie.specs.declared.node.Node.{Node}
use Rattle.vic_trie.specs.declared.node.Node.TheVariants.{Leaf, Inner'}
use Rattle.vic_trie.specs.Nodes.{tree}

-- a node is no empty tree
pub not_gone : (n : Node) → is_gone (tree n) ≡ false
not_gone (Leaf k v digest) = refl
not_gone (Inner' i digest p l q r) = refl
