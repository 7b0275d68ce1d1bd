-- A text that is taken, or that joins what is held, in pieces.
use Rattle.std.proofs.Common.{◌≡◌, ℕ, ◌+◌, ◌≤◌, List, ◌++◌, length, take, drop, Option, Some, None, refl, sym, ◌∙◌, ap, subst, append_assoc, length-append, arith}
use Rattle.std.proofs.lemmas.List.{take-append-drop, drop-drop, length-take}
use Rattle.vic_ports.specs.Causes.{LeavesBehind, Appended}
use Rattle.vic_ports.specs.Written.{AppendedAll}

-- what is left after t items is its first n items, and what is left after t + n
pub leaves_front : (t n : ℕ) (xs taken : List ℕ) → taken ≡ take n (drop t xs) → LeavesBehind taken (Some (drop t xs)) (Some (drop (t + n) xs))
leaves_front t n xs taken is = (drop (t + n) xs, refl, cc (take-append-drop n (drop t xs), drop-drop n t xs))

-- a piece more has joined what is held
pub appended_more : (old mid new : Option (List ℕ)) (taken piece : List ℕ) → AppendedAll taken old mid → Appended piece mid new → AppendedAll (taken ++ piece) old new
appended_more None mid new taken piece a b = let P : Option (List ℕ) → Type 0 = λ m. Appended piece m new in subst P a b
appended_more (Some held) mid new taken piece a b =
    let P : Option (List ℕ) → Type 0 = λ m. Appended piece m new in
    let e : new ≡ Some ((held ++ taken) ++ piece) = subst P a b in
    e ∙ ap Some (append_assoc held taken piece)

-- the front of the rest joins what was taken before
pub front_joins : (n : ℕ) (text taken rest : List ℕ) → text ≡ taken ++ rest → text ≡ (taken ++ take n rest) ++ drop n rest
front_joins n text taken rest is = is ∙ ap (λ r. taken ++ r) (sym (take-append-drop n rest)) ∙ sym (append_assoc taken (take n rest) (drop n rest))

-- a piece more was taken
pub leaves_more : (old mid new : Option (List ℕ)) (taken piece : List ℕ) → LeavesBehind taken old mid → LeavesBehind piece mid new → LeavesBehind (taken ++ piece) old new
leaves_more None mid new taken piece a b = let P : Option (List ℕ) → Type 0 = λ m. LeavesBehind piece m new in subst P a b
leaves_more (Some l) mid new taken piece a b =
    let P : Option (List ℕ) → Type 0 = λ m. LeavesBehind piece m new in
    let e : LeavesBehind piece (Some a.0) new = subst P a.1 b in
    (e.0, e.1, a.2 ∙ ap (λ r. taken ++ r) e.2 ∙ sym (append_assoc taken piece e.0))

-- one read more than what is within the limit
pub one_more : (taken into : List ℕ) (n : ℕ) → length taken ≤ 16777216 → length into ≤ 4096 → length (taken ++ take n into) ≤ 16781312
one_more taken into n few one = omega (arith, few, one, length-append taken (take n into), length-take n into)
