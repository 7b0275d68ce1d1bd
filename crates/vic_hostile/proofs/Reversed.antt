-- Lists whose first items are turned round.
use Rattle.std.proofs.Common.{◌≡◌, ℕ, zero, suc, ◌+◌, ◌-◌, ◌<◌, ◌≤◌, List, [], ◌∷◌, ◌++◌, length, take, drop, reverse, get_or, Some, ap, subst, ◌∙◌, arith}
use Rattle.std.proofs.Math.Seq.{drop-cons}
use Rattle.std.proofs.Math.ListN.{drop_of_length-le}
use Rattle.std.proofs.lemmas.List.{reverse-append, get_or-take, length-take-le}
use Rattle.std.proofs.lemmas.Option.{get_or_from_slice_get, slice_get_within}
use Rattle.std.specs.Prelude.{slice_get}
use Rattle.std.specs.List.{AllByRecursion}

-- what holds of each item holds of the one at a place, and of all with one more
pub all_at : {A : Type 0} (P : A → Type 0) (xs : List A) (k : ℕ) (x : A) → AllByRecursion P xs → slice_get xs k ≡ Some x → P x
all_at P [] k x all at = cc
all_at P (y ∷ xs) zero x all at = let e : y ≡ x = cc in subst P e all.0
all_at P (y ∷ xs) (suc k) x all at = all_at P xs k x all.1 at

pub all_more : {A : Type 0} (P : A → Type 0) (xs : List A) (x : A) → AllByRecursion P xs → P x → AllByRecursion P (xs ++ x ∷ [])
all_more P [] x all here = (here, tt)
all_more P (y ∷ xs) x all here = (all.0, all_more P xs x all.1 here)

-- from its last item backwards, a front of a list in reverse order
pub reverse_more : {A : Type 0} (xs : List A) (n i : ℕ) (x : A) → n ≤ length xs → i < n → slice_get xs (n - 1 - i) ≡ Some x
    → reverse (drop (n - (i + 1)) (take n xs)) ≡ reverse (drop (n - i) (take n xs)) ++ x ∷ []
reverse_more {A = A} xs n i x within below at =
    let j = n - 1 - i in
    let front = take n xs in
    let long : length front ≡ n = length-take-le n xs within in
    let here : get_or front j x ≡ x = get_or-take n xs j x (omega arith) ∙ get_or_from_slice_get xs j x x at in
    let cut : drop j front ≡ get_or front j x ∷ drop (suc j) front = drop-cons front j x (omega arith) in
    let next : suc j ≡ n - i = omega arith in
    let one : n - (i + 1) ≡ j = omega arith in
    ap (λ k. reverse (drop k front)) one ∙ ap reverse cut
    ∙ ap (λ y. reverse (y ∷ drop (suc j) front)) here
    ∙ reverse-append (x ∷ []) (drop (suc j) front)
    ∙ ap (λ k. reverse (drop k front) ++ x ∷ []) next

-- the last item alone
pub last_alone : {A : Type 0} (xs : List A) (x : A) → slice_get xs (length xs - 1) ≡ Some x → drop (length xs - 1) xs ≡ x ∷ []
last_alone xs x at =
    let n = length xs - 1 in
    let below : n < length xs = slice_get_within xs n x at in
    drop-cons xs n x below
    ∙ ap (λ y. y ∷ drop (suc n) xs) (get_or_from_slice_get xs n x x at)
    ∙ ap (λ ys. x ∷ ys) (drop_of_length-le xs {i = suc n} (omega arith))
