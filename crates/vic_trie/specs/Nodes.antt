-- The tree of a node, and that its digests are the roots.
use Rattle.std.specs.Prelude.{◌≤◌, ◌≡◌, ℕ, ◌<◌, List, length, Option, Some, None}
use Rattle.vic_dict.specs.declared.limits.TheConstants.{LONGEST_VALUE}
use Rattle.vic_dict.specs.Dictionary.{IsKey}
use Rattle.vic_wire.specs.declared.message.Digest32.{Digest32}
use Rattle.vic_wire.specs.Trees.{Tree, Empty, Leaf as leaf, Inner as inner, root_of}
use Rattle.vic_trie.specs.declared.node.Node.{Node}
use Rattle.vic_trie.specs.declared.node.Node.TheVariants.{Leaf, Inner'}

-- the tree that a node stands for
abbrev pub tree : Node → Tree
tree (Leaf k v digest) = leaf k v
tree (Inner' i digest p l q r) = inner i (tree l) (tree r)

-- keys and values are within the limits, and each digest is the root of its subtree
abbrev pub IsSound : Node → Type 0
IsSound (Leaf k v digest) = IsKey k × (length v ≤ LONGEST_VALUE) × (digest.bytes ≡ root_of (leaf k v))
IsSound (Inner' i digest p l q r) = (digest.bytes ≡ root_of (inner i (tree l) (tree r))) × IsSound l × IsSound r
