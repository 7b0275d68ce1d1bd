-- Servers of a scene, by their numbers.
use Rattle.std.proofs.Common.{◌≡◌, ℕ, zero, suc, ◌-◌, Bool, true, false, List, [], ◌∷◌, Option, None, is_some}
use Rattle.std.specs.Prelude.{if◌then◌else◌, nat_eq, slice_get, slice_set}
use Rattle.std.specs.List.{AllByRecursion}
use Rattle.vic_order.specs.Scenes.{or_none, server_at, set_server}
use Rattle.vic_runs.specs.Reached.{IfThere}

module _ {V : Type 0} where
  there-either : (P : V → Type 0) (b : Bool) (x y : Option V) → IfThere P x → IfThere P y → IfThere P (if b then x else y)
  there-either P true x y h k = h
  there-either P false x y h k = k

  there-read : (P : V → Type 0) (servers : List (Option V)) (k : ℕ) → AllByRecursion (IfThere P) servers → IfThere P (or_none (slice_get servers k))
  there-read P [] k all = tt
  there-read P (o ∷ os) zero all = all.0
  there-read P (o ∷ os) (suc k) all = there-read P os k all.1

  -- what holds of each server holds of the one that is read
  pub there-at : (P : V → Type 0) (servers : List (Option V)) (n : ℕ) → AllByRecursion (IfThere P) servers → IfThere P (server_at servers n)
  there-at P servers n all = there-either P (nat_eq n 0) None (or_none (slice_get servers (n - 1))) tt (there-read P servers (n - 1) all)

  some-either : (b : Bool) (x y : Option V) → (is_some x ≡ true → is_some y ≡ true) → is_some (if b then None else x) ≡ true → is_some (if b then None else y) ≡ true
  some-either true x y f h = h
  some-either false x y f h = f h

  some-read : (servers : List (Option V)) (k m : ℕ) (o : Option V) → is_some o ≡ true → is_some (or_none (slice_get servers m)) ≡ true → is_some (or_none (slice_get (slice_set servers k o) m)) ≡ true
  some-read [] k m o some h = h
  some-read (v ∷ vs) zero zero o some h = some
  some-read (v ∷ vs) zero (suc m) o some h = h
  some-read (v ∷ vs) (suc k) zero o some h = h
  some-read (v ∷ vs) (suc k) (suc m) o some h = some-read vs k m o some h

  -- where a server is set, those that exist still do
  pub is_server-set : (servers : List (Option V)) (n m : ℕ) (o : Option V) → is_some o ≡ true → is_some (server_at servers m) ≡ true → is_some (server_at (set_server servers n o) m) ≡ true
  is_server-set servers n m o some h =
      some-either (nat_eq m 0) (or_none (slice_get servers (m - 1))) (or_none (slice_get (set_server servers n o) (m - 1))) (some-read servers (n - 1) (m - 1) o some) h
