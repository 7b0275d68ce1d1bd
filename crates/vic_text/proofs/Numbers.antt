-- Numbers by their digits, the highest first, that stop at a type's end.
use Rattle.std.proofs.Common.{◌≡◌, ℕ, ◌+◌, ◌-◌, ◌*◌, ◌<◌, List, [], ◌∷◌, length, take, get_or, min, ap, ◌∙◌, arith}
use Rattle.std.proofs.lemmas.List.{take_more}
use Rattle.std.proofs.lemmas.List.Sums.{fold-append}
use Rattle.vic_script.specs.Words.{number_of}

-- one digit more
pub number_more : (xs : List ℕ) (i : ℕ) → i < length xs → number_of (take (i + 1) xs) ≡ 10 * number_of (take i xs) + (get_or xs i 0 - 48)
number_more xs i lt = ap number_of (take_more xs i 0 lt) ∙ fold-append (λ n c. 10 * n + (c - 48)) 0 (take i xs) (get_or xs i 0 ∷ [])

-- a number that stops at the type's end stays right as digits come
pub stopped_more : (n v d : ℕ) → n ≡ min v 4294967295 → min (min (n * 10) 4294967295 + d) 4294967295 ≡ min (10 * v + d) 4294967295
stopped_more n v d is = omega arith
