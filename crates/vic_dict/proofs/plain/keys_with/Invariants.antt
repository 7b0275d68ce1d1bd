use Rattle.std.proofs.Common.{◌≡◌, map, nat_eq, take}
use Rattle.std.specs.Prelude.{filter}
use Rattle.std.specs.List.{starts_with}
use Rattle.vic_dict.proofs.plain.keys_with.Given as goal

abbrev pub invariant-loop-row : goal.invariant-loop-row
invariant-loop-row l = l.names ≡ filter (λ k. starts_with nat_eq k l.prefix) (map (λ e. e.0) (take l.row-index l.rows))
