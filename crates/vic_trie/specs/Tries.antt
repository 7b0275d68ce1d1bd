-- What holds of a kept tree.
use Rattle.std.specs.Prelude.{◌≡◌, ◌+◌, ◌≤◌, ℕ, List, Option, Some, None, length, sum_by}
use Rattle.vic_wire.specs.Trees.{Tree, Empty, pairs_of}
use Rattle.vic_tree.specs.Grown.{IsTree}
use Rattle.vic_trie.specs.declared.node.Node.{Node}
use Rattle.vic_trie.specs.Nodes.{tree, IsSound}
use Rattle.vic_trie.specs.Weights.{pair_weight}

abbrev pub top_tree : Option Node → Tree
top_tree None = Empty
top_tree (Some n) = tree n

abbrev pub IsTopSound : Option Node → Type 0
IsTopSound None = Unit {0}
IsTopSound (Some n) = IsSound n

-- a tree over key bits with right digests, weight and count
pub record IsKept (top : Option Node) (weight count : ℕ) : Type 0 where
  pub tree : IsTree (top_tree top)
  pub sound : IsTopSound top
  pub weighed : weight ≡ sum_by pair_weight (pairs_of (top_tree top))
  pub counted : count ≡ length (pairs_of (top_tree top))
  pub room : weight ≤ 4294967295 + 335

-- a pair more
pub record Grows (old new : Tree) (key value : List ℕ) : Type 0 where
  pub longer : length (pairs_of new) ≡ length (pairs_of old) + 1
  pub heavier : sum_by pair_weight (pairs_of new) ≡ sum_by pair_weight (pairs_of old) + pair_weight (key, value)

-- a value in place of one of this length
pub record Keeps (old new : Tree) (value : List ℕ) (before : ℕ) : Type 0 where
  pub as_long : length (pairs_of new) ≡ length (pairs_of old)
  pub weighs : sum_by pair_weight (pairs_of new) + before ≡ sum_by pair_weight (pairs_of old) + length value

-- a pair less, with a value of this length
pub record Shrinks (old new : Tree) (key : List ℕ) (before : ℕ) : Type 0 where
  pub shorter : length (pairs_of new) + 1 ≡ length (pairs_of old)
  pub lighter : sum_by pair_weight (pairs_of new) + (length key + before + 16) ≡ sum_by pair_weight (pairs_of old)
