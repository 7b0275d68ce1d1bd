-- Whether bytes are left behind those taken.
use Rattle.std.proofs.Common.{◌≡◌, ◌≢◌, ℕ, ◌<◌, ◌↔◌, Bool, true, false, List, [], length, drop, ltb, IsTrue, refl, ap, arith}
use Rattle.std.proofs.lemmas.Bool.{ltb-true, ltb-false}
use Rattle.std.proofs.lemmas.List.{length-drop, drop_all}

more_by : (taken : ℕ) (xs : List ℕ) (b : Bool) → ltb taken (length xs) ≡ b → (drop taken xs ≢ []) → IsTrue (ltb taken (length xs))
more_by taken xs true e some = e
more_by taken xs false e some = absurd (some (drop_all taken xs (ltb-false taken (length xs) e)))

none_left : (taken : ℕ) (xs : List ℕ) → taken < length xs → drop taken xs ≡ [] → ⊥
none_left taken xs below e = let none : length (drop taken xs) ≡ 0 = ap length e in omega (arith, length-drop taken xs)

pub some_left : (taken : ℕ) (xs : List ℕ) → IsTrue (ltb taken (length xs)) ↔ (drop taken xs ≢ [])
some_left taken xs = ((λ is e. none_left taken xs (ltb-true taken (length xs) is) e), more_by taken xs (ltb taken (length xs)) refl)
