-- What a server weighs, by its pairs.
use Rattle.std.specs.Prelude.{◌≡◌, ℕ, ◌+◌, List, [], ◌∷◌, ◌++◌, length}
use Rattle.std.specs.List.{sum_by, flat_map}
use Rattle.std.specs.FinMap as map
use Rattle.vic_dict.specs.declared.op.Op.{Op}
use Rattle.vic_dict.specs.declared.op.Op.TheVariants as op
use Rattle.vic_order.specs.Order.{Server, Ordered, weight, sealed_count}

-- the pair that a call puts
abbrev pub put_of : Op → List (List ℕ × List ℕ)
put_of (op.Put k v) = (k, v) ∷ []
put_of (op.Get k) = []
put_of (op.Del k) = []
put_of (op.List p) = []

-- a server weighs what its sealed pairs weigh together with each pair whose put isn't sealed: the two lengths and 16
abbrev pub WeightIs : Type 0
WeightIs = (s : Server) (unsealed sealed : List Ordered) → s.log ≡ unsealed ++ sealed → length sealed ≡ sealed_count s
    → weight s ≡ sum_by (λ (p : List ℕ × List ℕ). length p.0 + length p.1 + 16) (map.entries s.dictionary ++ flat_map (λ (o : Ordered). put_of o.entry.op) unsealed)
