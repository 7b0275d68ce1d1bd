-- What the weight of a server counts.
use Rattle.std.specs.Prelude.{◌≡◌, ℕ, ◌+◌, ◌≤◌, Bool, List, [], ◌∷◌, ◌++◌, length, if◌then◌else◌}
use Rattle.std.specs.List.{sum_by, flat_map}
use Rattle.std.specs.FinMap as map
use Rattle.std.proofs.Common.{refl, ap, sym, ◌∙◌, arith, length-append, lt-ltb, le-ltb}
use Rattle.std.proofs.lemmas.List.Sums.{sum_by-append, sum_by-cons}
use Rattle.vic_dict.specs.declared.op.Op.{Op}
use Rattle.vic_dict.specs.declared.op.Op.TheVariants as op
use Rattle.vic_order.specs.Order.{Ordered, op_weight, unsealed_weight}
use Rattle.vic_weights.specs.Weights.{put_of, WeightIs}

abbrev pair_weight : List ℕ × List ℕ → ℕ
pair_weight p = length p.0 + length p.1 + 16

put_weighs : (o : Op) → op_weight o ≡ sum_by pair_weight (put_of o)
put_weighs (op.Put k v) = omega (arith, sum_by-cons pair_weight (k, v) [])
put_weighs (op.Get k) = refl
put_weighs (op.Del k) = refl
put_weighs (op.List p) = refl

sealed_weighs : (log : List Ordered) (n : ℕ) → length log ≤ n → unsealed_weight n log ≡ 0
unfolding unsealed_weight
sealed_weighs [] n le = refl
sealed_weighs (o ∷ log) n le = ap (λ (b : Bool). if b then op_weight o.entry.op + unsealed_weight n log else 0) (le-ltb n (length (o ∷ log)) le)

abbrev puts : List Ordered → List (List ℕ × List ℕ)
puts log = flat_map (λ (o : Ordered). put_of o.entry.op) log

unsealed_weighs : (unsealed sealed : List Ordered) → unsealed_weight (length sealed) (unsealed ++ sealed) ≡ sum_by pair_weight (puts unsealed)
unfolding unsealed_weight
unsealed_weighs [] sealed = sealed_weighs sealed (length sealed) (omega arith)
unsealed_weighs (o ∷ more) sealed =
    let counts : unsealed_weight (length sealed) (o ∷ (more ++ sealed)) ≡ op_weight o.entry.op + unsealed_weight (length sealed) (more ++ sealed) =
    ap (λ (b : Bool). if b then op_weight o.entry.op + unsealed_weight (length sealed) (more ++ sealed) else 0)
    (lt-ltb (length sealed) (length (o ∷ (more ++ sealed))) (omega (arith, length-append more sealed))) in
    omega (arith, counts, put_weighs o.entry.op, unsealed_weighs more sealed, sum_by-append pair_weight (put_of o.entry.op) (puts more))

pub weight_is : WeightIs
weight_is s unsealed sealed is count =
    let above : unsealed_weight (length s.seals) s.log ≡ sum_by pair_weight (puts unsealed) =
    ap (λ n. unsealed_weight n s.log) (sym count) ∙ (ap (unsealed_weight (length sealed)) is ∙ unsealed_weighs unsealed sealed) in
    ap (λ n. sum_by pair_weight (map.entries s.dictionary) + n) above ∙ sym (sum_by-append pair_weight (map.entries s.dictionary) (puts unsealed))
