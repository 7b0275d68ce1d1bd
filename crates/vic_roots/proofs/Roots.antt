-- The root of a dictionary tells the dictionary.
use Rattle.std.proofs.Common.{ℕ, zero, suc, inl, inr, true, false, List, [], ◌∷◌}
use Rattle.std.specs.FinMap as map
use Rattle.vic_dict.specs.Dictionary.{Dictionary, HasByteKeys}
use Rattle.vic_wire.specs.Trees.{Pair, side, tree_by, tree_of, dictionary_root}
use Rattle.vic_roots.specs.Roots.{OneRootOneDictionary}
use Rattle.vic_roots.proofs.Members.{HaveByteKeys, byte_keys_of_entries}
use Rattle.vic_roots.proofs.Splits.{split_at, byte_keys_of_side, split_small}
use Rattle.vic_roots.proofs.Leaves.{tree_tells}
use Rattle.vic_roots.proofs.NodeTexts.{IsWhole, trees_tell}

-- the tree of pairs with byte keys has no stub, and its indices fit two bytes
pub IsWhole-tree_by : (n : ℕ) (ps : List Pair) → HaveByteKeys ps → IsWhole (tree_by n ps)
unfolding tree_by
IsWhole-tree_by zero ps keys = tt
IsWhole-tree_by (suc n) [] keys = tt
IsWhole-tree_by (suc n) (p ∷ []) keys = tt
IsWhole-tree_by (suc n) (p ∷ q ∷ ps) keys =
    let whole = p ∷ q ∷ ps in
    let i = split_at whole in
    (split_small p (q ∷ ps) keys, IsWhole-tree_by n (side false i whole) (byte_keys_of_side false i whole keys), IsWhole-tree_by n (side true i whole) (byte_keys_of_side true i whole keys))

pub IsWhole-tree_of : (d : Dictionary) → HasByteKeys d → IsWhole (tree_of d)
unfolding tree_of
IsWhole-tree_of d keys = IsWhole-tree_by (map.len d) (map.entries d) (byte_keys_of_entries d keys)

-- dictionaries of one root are one, unless two texts of their nodes collide
pub roots_tell : OneRootOneDictionary
unfolding dictionary_root
roots_tell d e keys_d keys_e same =
    elim (trees_tell (tree_of d) (tree_of e) (IsWhole-tree_of d keys_d) (IsWhole-tree_of e keys_e) same) [
      | inl tree ↦ inl (tree_tells d e keys_d keys_e tree)
      | inr texts ↦ inr texts
    ]
