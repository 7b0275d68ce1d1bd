-- The cuts of a dictionary without a key, and of a node.
use Rattle.std.proofs.Common.{◌≡◌, ℕ, ◌+◌, ◌≤◌, List, [], ◌∷◌, length, sum_by, refl, ap, ◌∙◌, arith}
use Rattle.vic_dict.specs.declared.op.Op.{Op}
use Rattle.vic_dict.specs.declared.op.Op.TheVariants as op
use Rattle.std.specs.FinMap as map
use Rattle.vic_dict.specs.Dictionary.{Dictionary, nothing}
use Rattle.vic_wire.specs.Trees.{Tree, Empty, Stub, root_of, tree_of}
use Rattle.vic_wire.specs.Cuts.{cut_for, cut_none}
use Rattle.vic_wire.specs.Parts.{node_field}
use Rattle.vic_trie.specs.declared.node.Node.{Node}
use Rattle.vic_trie.specs.Nodes.{tree, IsSound}
use Rattle.vic_trie.specs.declared.node.Node.TheVariants as node
use Rattle.vic_trie.specs.Weights.{pair_weight, weight_of}
use Rattle.vic_wire.specs.Parts.{part_text}
use Rattle.vic_wire.specs.Trees.{pairs_of}
use Rattle.vic_tree.specs.Grown.{IsTree, LeavesFit}
use Rattle.vic_tree.proofs.Short.{part_short, bare_short}
use Rattle.vic_prune.proofs.Nodes.{cut_none-tree}
use Rattle.vic_tree.proofs.Stands.{tree_of-empty}

pub no_tree : (d : Dictionary) → d ≡ map.empty → tree_of d ≡ Empty
no_tree d e = ap tree_of e ∙ tree_of-empty

pub cut_of_nothing : (t : Tree) (o : Op) → t ≡ Empty → node_field (cut_for t o) ≡ 0 ∷ []
cut_of_nothing t (op.Put k v) e = ap (λ x. node_field (cut_for x (op.Put k v))) e
cut_of_nothing t (op.Get k) e = ap (λ x. node_field (cut_for x (op.Get k))) e
cut_of_nothing t (op.Del k) e = ap (λ x. node_field (cut_for x (op.Del k))) e
cut_of_nothing t (op.List p) e = ap (λ x. node_field (cut_for x (op.List p))) e

pub bare_of_nothing : (t : Tree) → t ≡ Empty → node_field (cut_none t) ≡ 0 ∷ []
bare_of_nothing t e = ap (λ x. node_field (cut_none x)) e

pub bare_of_node : (n : Node) → node_field (cut_none (tree n)) ≡ 3 ∷ root_of (tree n)
bare_of_node n = ap node_field (cut_none-tree n)

sound_fits : (n : Node) → IsSound n → LeavesFit (tree n)
sound_fits (node.Leaf k v digest) h = (h.0, h.1)
sound_fits (node.Inner' i digest p l q r) h = (sound_fits l h.1, sound_fits r h.2)

-- the part of a node for an operation is short
pub cut_is_short : (d : Dictionary) (n : Node) (o : Op) → IsSound n → IsTree (tree n) → pairs_of (tree n) ≡ map.entries d → length (node_field (cut_for (tree n) o)) + 1 ≤ weight_of d + 82657
cut_is_short d n o sound grown pairs = omega (arith, part_short (tree n) o grown (sound_fits n sound), ap (sum_by pair_weight) pairs)

pub stub_is_short : (n : Node) → IsSound n → IsTree (tree n) → length (node_field (cut_none (tree n))) + 1 ≤ 34
stub_is_short n sound grown = omega (arith, bare_short (tree n) grown (sound_fits n sound))
