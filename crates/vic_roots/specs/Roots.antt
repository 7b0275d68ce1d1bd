-- What is shown of the roots of dictionaries.
use Rattle.std.specs.Prelude.{◌≡◌, ◌≢◌, ◌⊎◌, ℕ, ◌<◌, Bool, true, false, List, Some}
use Rattle.std.specs.FinMap as map
use Rattle.vic_dict.specs.declared.op.Op.{Op}
use Rattle.vic_dict.specs.Lists.{IsIn}
use Rattle.vic_dict.specs.Dictionary.{Dictionary, nothing, after, Fits, AreBytesIn, HasByteKeys, IsProper}
use Rattle.vic_wire.specs.Hashes.{hash}
use Rattle.vic_wire.specs.Bits.{key_bit}
use Rattle.vic_wire.specs.Trees.{Tree, Empty, Leaf, Inner, Stub, side, tree_of, dictionary_root, node_texts}

-- the empty dictionary is proper, and each operation within the limits keeps a proper dictionary so
pub record KeepsProper : Type 0 where
  pub empty : IsProper nothing
  pub after_each : (d : Dictionary) (o : Op) → IsProper d → Fits o → AreBytesIn o → IsProper (after d o)
  pub keys : (d : Dictionary) → IsProper d → HasByteKeys d

-- two different texts of the two lists have one hash
pub record TextsCollide (a b : List (List ℕ)) : Type 0 where
  pub one : List ℕ
  pub other : List ℕ
  pub one_in : IsIn a one ⊎ IsIn b one
  pub other_in : IsIn a other ⊎ IsIn b other
  pub differ : one ≢ other
  pub same_hash : hash one ≡ hash other

-- dictionaries of one root are one, unless two texts of their nodes collide
abbrev pub OneRootOneDictionary : Type 0
OneRootOneDictionary = (d e : Dictionary) → HasByteKeys d → HasByteKeys e → dictionary_root d ≡ dictionary_root e
    → (d ≡ e) ⊎ TextsCollide (node_texts (tree_of d)) (node_texts (tree_of e))

-- a key with this bit at i is in the dictionary
pub record HasKeyWith (b : Bool) (i : ℕ) (d : Dictionary) : Type 0 where
  pub key : List ℕ
  pub value : List ℕ
  pub found : map.get d key ≡ Some value
  pub bit : key_bit key i ≡ b

-- the part of a dictionary whose keys have this bit at i
abbrev pub half : Bool → ℕ → Dictionary → Dictionary
half b i d = map.from_sorted (side b i (map.entries d))

-- all keys agree below bit i, both bits stand there in some key, and the subtrees are those of the two halves
pub record BranchesAt (d : Dictionary) (i : ℕ) (l r : Tree) : Type 0 where
  pub agree : (a b v w : List ℕ) → map.get d a ≡ Some v → map.get d b ≡ Some w → (j : ℕ) → j < i → key_bit a j ≡ key_bit b j
  pub some_left : HasKeyWith false i d
  pub some_right : HasKeyWith true i d
  pub left : l ≡ tree_of (half false i d)
  pub right : r ≡ tree_of (half true i d)

-- what a dictionary is where its tree is this one
abbrev pub HasShape : Dictionary → Tree → Type 0
HasShape d Empty = d ≡ nothing
HasShape d (Leaf k v) = d ≡ map.insert nothing k v
HasShape d (Inner i l r) = BranchesAt d i l r
HasShape d (Stub root) = ⊥

-- the tree of a dictionary tells what the dictionary is
abbrev pub TreeShape : Type 0
TreeShape = (d : Dictionary) → HasByteKeys d → HasShape d (tree_of d)
