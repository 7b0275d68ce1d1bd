-- What own calls leave under a key.
use Rattle.std.specs.Prelude.{ℕ, ◌&&◌, List, Option, Some, None, nat_lt, if◌then◌else◌}
use Rattle.std.specs.Str.{bytes_eq}
use Rattle.vic_dict.specs.declared.op.Op.{Op}
use Rattle.vic_dict.specs.declared.op.Op.TheVariants as op
use Rattle.vic_rules.specs.declared.state.Own.{Own}

-- what an operation leaves under a key, where this stood there
abbrev pub leaves_at : Op → List ℕ → Option (List ℕ) → Option (List ℕ)
leaves_at (op.Put k v) q before = if bytes_eq q k then Some v else before
leaves_at (op.Get k) q before = before
leaves_at (op.Del k) q before = if bytes_eq q k then None else before
leaves_at (op.List p) q before = before

-- what a done call above a position leaves
abbrev pub left_at : ℕ → Own → List ℕ → Option (List ℕ) → Option (List ℕ)
left_at base o q before = if nat_lt base o.position && o.done then leaves_at o.op q before else before
