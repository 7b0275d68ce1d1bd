-- The tree of a dictionary over the bits of its keys, and its root. It is meant for dictionaries whose keys are bytes.
use Rattle.std.specs.Prelude.{ℕ, zero, suc, Bool, true, false, List, [], ◌∷◌, ◌++◌, length, filter}
use Rattle.std.specs.FinMap as map
use Rattle.vic_dict.specs.Dictionary.{Dictionary}
use Rattle.vic_wire.specs.Texts.{empty_text, leaf_text, inner_text}
use Rattle.vic_wire.specs.Hashes.{hash}
use Rattle.vic_wire.specs.Bits.{key_bits, key_bit, shared_front, same_bit}

-- a tree, of which subtrees may be cut away and stand by their roots
pub data Tree : Type 0 where
  Empty : Tree
  Leaf : (key : List ℕ) (value : List ℕ) → Tree
  Inner : (index : ℕ) (left : Tree) (right : Tree) → Tree
  Stub : (root : List ℕ) → Tree

-- the root of a tree: the hash of its node text
abbrev pub root_of : Tree → List ℕ
root_of Empty = hash empty_text
root_of (Leaf k v) = hash (leaf_text k v)
root_of (Inner i l r) = hash (inner_text i (root_of l) (root_of r))
root_of (Stub root) = root

-- the texts of its nodes, stubs left out
unfoldable pub node_texts : Tree → List (List ℕ)
node_texts Empty = empty_text ∷ []
node_texts (Leaf k v) = leaf_text k v ∷ []
node_texts (Inner i l r) = inner_text i (root_of l) (root_of r) ∷ node_texts l ++ node_texts r
node_texts (Stub root) = []

-- a key and its value
abbrev pub Pair : Type 0
Pair = List ℕ × List ℕ

-- the pairs at the leaves, from the left
abbrev pub pairs_of : Tree → List Pair
pairs_of Empty = []
pairs_of (Leaf k v) = (k, v) ∷ []
pairs_of (Inner i l r) = pairs_of l ++ pairs_of r
pairs_of (Stub root) = []

-- the longest common prefix of the bits of all keys
unfoldable pub common_bits : List Pair → List Bool
common_bits [] = []
common_bits (p ∷ []) = key_bits p.0
common_bits (p ∷ q ∷ ps) = shared_front (key_bits p.0) (common_bits (q ∷ ps))

-- the pairs whose key has this bit at i
abbrev pub side : Bool → ℕ → List Pair → List Pair
side bit i pairs = filter (λ p. same_bit (key_bit p.0 i) bit) pairs

-- the tree of at most so many pairs: it branches at the first bit at which two of the keys differ
unfoldable pub tree_by : ℕ → List Pair → Tree
tree_by zero pairs = Empty
tree_by (suc n) [] = Empty
tree_by (suc n) (p ∷ []) = Leaf p.0 p.1
tree_by (suc n) (p ∷ q ∷ ps) =
    let i = length (common_bits (p ∷ q ∷ ps)) in
    Inner i (tree_by n (side false i (p ∷ q ∷ ps))) (tree_by n (side true i (p ∷ q ∷ ps)))

-- the tree of a dictionary
unfoldable pub tree_of : Dictionary → Tree
tree_of d = tree_by (map.len d) (map.entries d)

-- the root of a dictionary is that of its tree
unfoldable pub dictionary_root : Dictionary → List ℕ
dictionary_root d = root_of (tree_of d)
