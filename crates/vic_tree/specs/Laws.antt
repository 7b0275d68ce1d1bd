-- The laws of trees and of parts, over all dictionaries.
use Rattle.std.specs.Prelude.{◌≡◌, ℕ, true, List, ◌++◌, ◌⊎◌}
use Rattle.std.specs.FinMap as map
use Rattle.vic_dict.specs.declared.op.Op.{Op}
use Rattle.vic_dict.specs.Dictionary.{Dictionary, HasByteKeys, IsProper, AreBytesIn, reply, after}
use Rattle.vic_wire.specs.Conflict.{looks_at}
use Rattle.vic_wire.specs.Trees.{Tree, pairs_of, tree_of, root_of, dictionary_root, node_texts}
use Rattle.vic_wire.specs.Walks.{reaches, walked, tree_after}
use Rattle.vic_wire.specs.Cuts.{IsCut, cut_for, cut_none}
use Rattle.vic_wire.specs.Parts.{IsPart}
use Rattle.vic_tree.specs.Binding.{Collides}

-- the leaves of a dictionary's tree are its pairs, in order
abbrev pub TreesHold : Type 0
TreesHold = (d : Dictionary) → HasByteKeys d → pairs_of (tree_of d) ≡ map.entries d

-- a part with the root of a dictionary is a cut of its tree, or two different node texts of the two have one hash
abbrev pub PartsAreBound : Type 0
PartsAreBound = (c : Tree) (d : Dictionary) → IsPart c → HasByteKeys d → root_of c ≡ dictionary_root d
    → IsCut c (tree_of d) ⊎ Collides (node_texts c ++ node_texts (tree_of d))

-- a cut of a dictionary's tree that shows the walk of an operation
pub record IsShownIn (c : Tree) (d : Dictionary) (o : Op) : Type 0 where
  pub keys : HasByteKeys d
  pub cut : IsCut c (tree_of d)
  pub words : AreBytesIn o
  pub reached : reaches c o ≡ true

-- its walk has what the dictionary has, wherever the operation looks
abbrev pub WalksShow : Type 0
WalksShow = (c : Tree) (d : Dictionary) (o : Op) → IsShownIn c d o → (k : List ℕ) → looks_at o k ≡ true → map.get (walked c o) k ≡ map.get d k

-- the answer there is the dictionary's, and the tree after the operation has the root of the dictionary after it
abbrev pub CutsAnswer : Type 0
CutsAnswer = (c : Tree) (d : Dictionary) (o : Op) → IsShownIn c d o → reply (walked c o) o ≡ reply d o

abbrev pub CutsFollow : Type 0
CutsFollow = (c : Tree) (d : Dictionary) (o : Op) → IsShownIn c d o → root_of (tree_after c o) ≡ dictionary_root (after d o)

-- a cut in the grammar of parts
abbrev pub IsPartOf : Tree → Dictionary → Type 0
IsPartOf c d = IsCut c (tree_of d) × IsPart c

-- the part for an operation is one, and shows its walk; the bare part is one
pub record PartsAreCuts : Type 0 where
  pub shown : (d : Dictionary) (o : Op) → IsProper d → IsPartOf (cut_for (tree_of d) o) d × (reaches (cut_for (tree_of d) o) o ≡ true)
  pub bare : (d : Dictionary) → IsProper d → IsPartOf (cut_none (tree_of d)) d

-- and it shows no more than that: it is a cut of each cut that shows the walk
abbrev pub PartsAreLeast : Type 0
PartsAreLeast = (t c : Tree) (o : Op) → IsCut c t → reaches c o ≡ true → IsCut (cut_for t o) c
