-- Contents that are kept.
use Rattle.std.proofs.Common.{◌≡◌, ℕ, ◌||◌, Bool, true, false, List, [], ◌∷◌, Some, None, refl, ap, ◌∙◌}
use Rattle.std.specs.Prelude.{if◌then◌else◌, is_some}
use Rattle.std.specs.List.{find, list_any}
use Rattle.vic_order.specs.Order.{is_kept}
use Rattle.vic_blob.specs.Keeping.{has_hash, kept_under}

pub any_found : (f : List ℕ → Bool) (xs : List (List ℕ)) → list_any f xs ≡ is_some (find f xs)
any_found f [] = refl
any_found f (x ∷ xs) = by_test (f x) (any_found f xs)
  where
    by_test : (b : Bool) → list_any f xs ≡ is_some (find f xs) → (b || list_any f xs) ≡ is_some (if b then Some x else find f xs)
    by_test true h = refl
    by_test false h = h

pub kept_found : (contents : List (List ℕ)) (h c : List ℕ) → kept_under contents h ≡ Some c → is_kept contents h ≡ true
kept_found contents h c e = any_found (has_hash h) contents ∙ ap is_some e

pub kept_none : (contents : List (List ℕ)) (h : List ℕ) → kept_under contents h ≡ None → is_kept contents h ≡ false
kept_none contents h e = any_found (has_hash h) contents ∙ ap is_some e
