-- How much the pairs of a dictionary weigh.
use Rattle.std.specs.Prelude.{ℕ, ◌+◌, List, length, sum_by}
use Rattle.std.specs.FinMap as map
use Rattle.vic_dict.specs.declared.op.Op.{Op}
use Rattle.vic_dict.specs.declared.op.Op.TheVariants as op
use Rattle.vic_dict.specs.Dictionary.{Dictionary}
use Rattle.vic_wire.specs.Trees.{Pair}

-- a key and a value, and 16 more
abbrev pub pair_weight : Pair → ℕ
pair_weight p = length p.0 + length p.1 + 16

abbrev pub weight_of : Dictionary → ℕ
weight_of d = sum_by pair_weight (map.entries d)

-- what an operation adds at most: the pair of a put
abbrev pub added_weight : Op → ℕ
added_weight (op.Put k v) = pair_weight (k, v)
added_weight (op.Get k) = 0
added_weight (op.Del k) = 0
added_weight (op.List p) = 0
