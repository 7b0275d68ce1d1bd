-- What the nodes of a walk answer as they stand.
use Rattle.std.specs.Prelude.{ℕ, Bool, List, [], map, Option, Some, None, if◌then◌else◌}
use Rattle.std.specs.Str.{bytes_eq}
use Rattle.vic_dict.specs.Dictionary.{answer_of_get, answer_of_del}
use Rattle.vic_dict.specs.declared.op.Answer.{Answer}
use Rattle.vic_dict.specs.declared.op.Answer.TheVariants as answer
use Rattle.vic_dict.specs.declared.op.Op.{Op}
use Rattle.vic_dict.specs.declared.op.Op.TheVariants as op
use Rattle.vic_wire.specs.Trees.{Tree, Empty, Leaf, Inner, Stub, pairs_of}
use Rattle.vic_wire.specs.Walks.{end_at, below, least, leaf_has_prefix}

-- the value that a walk of the key finds at its end
abbrev pub value_at : List ℕ → Tree → Option (List ℕ)
value_at k Empty = None
value_at k (Leaf q w) = if bytes_eq q k then Some w else None
value_at k (Inner i l r) = None
value_at k (Stub root) = None

-- the keys below the prefix's node, where its least leaf's key has the prefix
abbrev pub names_below : List ℕ → Tree → List (List ℕ)
names_below p b = if leaf_has_prefix p (least b) then map (λ e. e.0) (pairs_of b) else []

abbrev pub names_in : List ℕ → Tree → List (List ℕ)
names_in p t = names_below p (below p t)

-- what the nodes of the walk answer, the names of a list as they stand
abbrev pub answer_shown : Tree → Op → Answer
answer_shown t (op.Put k v) = answer.Stored
answer_shown t (op.Get k) = answer_of_get (value_at k (end_at k t))
answer_shown t (op.Del k) = answer_of_del (value_at k (end_at k t))
answer_shown t (op.List p) = answer.Names (names_in p t)

-- one side of an Inner
abbrev pub side_of : Bool → Tree → Tree
side_of right Empty = Empty
side_of right (Leaf k v) = Leaf k v
side_of right (Inner i l r) = if right then r else l
side_of right (Stub root) = Stub root
