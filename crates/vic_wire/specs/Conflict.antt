-- Which operations of two clients conflict.
use Rattle.std.specs.Prelude.{ℕ, Bool, false, ◌||◌, List, Option, Some, None, nat_eq}
use Rattle.std.specs.Str.{bytes_eq}
use Rattle.std.specs.List.{starts_with}
use Rattle.vic_dict.specs.declared.op.Op.{Op}
use Rattle.vic_dict.specs.declared.op.Op.TheVariants as op

-- the key that an operation may change
abbrev pub changed_key : Op → Option (List ℕ)
changed_key (op.Put k v) = Some k
changed_key (op.Get k) = None
changed_key (op.Del k) = Some k
changed_key (op.List p) = None

-- whether an operation looks at a key
abbrev pub looks_at : Op → List ℕ → Bool
looks_at (op.Put k v) q = bytes_eq k q
looks_at (op.Get k) q = bytes_eq k q
looks_at (op.Del k) q = bytes_eq k q
looks_at (op.List p) q = starts_with nat_eq q p

abbrev pub is_met : Option (List ℕ) → Op → Bool
is_met None b = false
is_met (Some k) b = looks_at b k

-- one of the two may change a key that the other looks at
abbrev pub conflicts : Op → Op → Bool
conflicts a b = is_met (changed_key a) b || is_met (changed_key b) a

-- whether the answer of an operation depends on the value of a key
abbrev pub heeds : Op → List ℕ → Bool
heeds (op.Put k v) q = false
heeds (op.Get k) q = bytes_eq k q
heeds (op.Del k) q = bytes_eq k q
heeds (op.List p) q = starts_with nat_eq q p

abbrev pub is_heeded : Option (List ℕ) → Op → Bool
is_heeded None b = false
is_heeded (Some k) b = heeds b k

-- the first, while it is pending, may change what the second answers
abbrev pub blocks : Op → Op → Bool
blocks a b = is_heeded (changed_key a) b
