-- The trees that dictionaries have.
use Rattle.std.specs.Prelude.{◌≤◌, ◌≡◌, ℕ, ◌<◌, ◌^◌, Bool, true, false, List, [], ◌∷◌, length, ◌⊎◌}
use Rattle.std.specs.declared.cmp.Ordering.{Ordering}
use Rattle.std.specs.declared.cmp.Ordering.TheVariants.{Less, Equal, Greater}
use Rattle.std.specs.FinMap as map
use Rattle.vic_dict.specs.declared.limits.TheConstants.{LONGEST_KEY, LONGEST_VALUE}
use Rattle.vic_dict.specs.Lists.{AreBytes}
use Rattle.vic_dict.specs.Dictionary.{Dictionary, IsKey}
use Rattle.vic_dict.specs.declared.op.Op.{Op}
use Rattle.vic_dict.specs.declared.op.Op.TheVariants as op
use Rattle.vic_wire.specs.Bits.{key_bit}
use Rattle.vic_wire.specs.Trees.{Tree, Empty, Leaf, Inner, Stub, Pair, pairs_of}

-- 0 before 1
abbrev pub bit_cmp : Bool → Bool → Ordering
bit_cmp true true = Equal
bit_cmp true false = Greater
bit_cmp false true = Less
bit_cmp false false = Equal

-- the bits agree below this place
abbrev pub AgreeBelow : ℕ → List ℕ → List ℕ → Type 0
AgreeBelow i a b = (j : ℕ) → j < i → key_bit a j ≡ key_bit b j

-- the bits differ first at this place, where the first key has 0 and the second 1
pub record PartsAt (i : ℕ) (a b : List ℕ) : Type 0 where
  pub same : AgreeBelow i a b
  pub left : key_bit a i ≡ false
  pub right : key_bit b i ≡ true

-- a pair of the list has the key
abbrev pub HasKey : List Pair → List ℕ → Type 0
HasKey [] k = ⊥
HasKey (p ∷ ps) k = (p.0 ≡ k) ⊎ HasKey ps k

-- keys are bytes, and at each Inner every key on the left parts from every key on the right at its index
unfoldable pub IsGrown : Tree → Type 0
IsGrown Empty = ⊥
IsGrown (Leaf k v) = AreBytes k
IsGrown (Inner i l r) = IsGrown l × IsGrown r × ((a b : List ℕ) → HasKey (pairs_of l) a → HasKey (pairs_of r) b → PartsAt i a b)
IsGrown (Stub root) = ⊥

-- empty or grown
abbrev pub IsTree : Tree → Type 0
IsTree Empty = Unit {0}
IsTree (Leaf k v) = IsGrown (Leaf k v)
IsTree (Inner i l r) = IsGrown (Inner i l r)
IsTree (Stub root) = ⊥

-- the dictionary of a tree's pairs
abbrev pub dictionary_of : Tree → Dictionary
dictionary_of t = map.from_sorted (pairs_of t)

-- the keys of a dictionary's entries are bytes
abbrev pub HasByteEntries : Dictionary → Type 0
HasByteEntries d = (k : List ℕ) → HasKey (map.entries d) k → AreBytes k

-- and have at most 255 of them
abbrev pub HasShortEntries : Dictionary → Type 0
HasShortEntries d = (k : List ℕ) → HasKey (map.entries d) k → length k ≤ LONGEST_KEY

-- the words of an operation are bytes
abbrev pub HasByteWords : Op → Type 0
HasByteWords (op.Put k v) = AreBytes k
HasByteWords (op.Get k) = AreBytes k
HasByteWords (op.Del k) = AreBytes k
HasByteWords (op.List p) = AreBytes p

-- an operation on one key
abbrev pub IsKeyed : Op → Type 0
IsKeyed (op.Put k v) = Unit {0}
IsKeyed (op.Get k) = Unit {0}
IsKeyed (op.Del k) = Unit {0}
IsKeyed (op.List p) = ⊥

-- keys and values are within the limits
abbrev pub LeavesFit : Tree → Type 0
LeavesFit Empty = Unit {0}
LeavesFit (Leaf k v) = IsKey k × (length v ≤ LONGEST_VALUE)
LeavesFit (Inner i l r) = LeavesFit l × LeavesFit r
LeavesFit (Stub root) = Unit {0}

-- indices have two bytes, and stubs a digest's
abbrev pub IsSpelled : Tree → Type 0
IsSpelled Empty = Unit {0}
IsSpelled (Leaf k v) = Unit {0}
IsSpelled (Inner i l r) = (i < 2 ^ 16) × IsSpelled l × IsSpelled r
IsSpelled (Stub root) = length root ≡ 32

-- no stub
abbrev pub IsWhole : Tree → Type 0
IsWhole Empty = Unit {0}
IsWhole (Leaf k v) = Unit {0}
IsWhole (Inner i l r) = IsWhole l × IsWhole r
IsWhole (Stub root) = ⊥
