-- Which client is the first for whom something waits, and what holds of a log holds of what stands in it.
use Rattle.std.proofs.Common.{◌≡◌, ℕ, zero, suc, ◌+◌, ◌-◌, ◌<◌, ◌≤◌, Bool, true, false, List, [], ◌∷◌, length, Option, Some, None, if◌then◌else◌, nat_lt, inl, inr, refl, sym, subst, arith}
use Rattle.std.specs.List.{AllByRecursion}
use Rattle.std.proofs.lemmas.Bool.{cases_eq}
use Rattle.std.proofs.lemmas.List.{nil_from_length}
use Rattle.std.proofs.lemmas.Option.{same_Some}
use Rattle.vic_dict.specs.Lists.{front, newest}
use Rattle.vic_order.specs.Order.{Ordered, Server, size, ordered_at}
use Rattle.vic_order.specs.Scenes.{Queue, Scene, queue_of, waits_in}
use borrow.Author.Tests.{ltb-false}
use Rattle.vic_drill.specs.Drills.{waits_for, first_waiting}
use Rattle.vic_laws.proofs.Paths.{all_drop}

-- ---- what waits

pub waits_not : (queues : List Queue) (i : ℕ) → waits_in queues i ≡ false → queue_of queues i ≡ []
waits_not queues i e = nil_from_length (queue_of queues i) (omega (arith, ltb-false 0 (length (queue_of queues i)) e))

-- among so many clients from one on, it is the first for whom something waits; or nothing waits for any
abbrev pub IsFirst : Scene → ℕ → ℕ → Option ℕ → Type 0
IsFirst s i n (Some me) = (i ≤ me) × (me < i + n) × (waits_for s me ≡ true)
IsFirst s i n None = (j : ℕ) → i ≤ j → j < i + n → waits_for s j ≡ false

first_more : (s : Scene) (i n : ℕ) → waits_for s i ≡ false → (o : Option ℕ) → IsFirst s (i + 1) n o → IsFirst s i (suc n) o
first_more s i n none (Some me) later = (omega (arith, later.0), omega (arith, later.1), later.2)
first_more s i n none None later = λ j low high. elim (cases_eq j i) [
  | inl e ↦ subst (λ k. waits_for s k ≡ false) (sym e) none
  | inr apart ↦ later j (omega arith) (omega arith)
]

first_by : (s : Scene) (i n : ℕ) (b : Bool) → waits_for s i ≡ b → (o : Option ℕ) → IsFirst s (i + 1) n o → IsFirst s i (suc n) (if b then Some i else o)
first_by s i n true e o later = (omega arith, omega arith, e)
first_by s i n false e o later = first_more s i n e o later

pub first_is : (s : Scene) (i n : ℕ) → IsFirst s i n (first_waiting s i n)
unfolding first_waiting
first_is s i zero = λ j low high. absurd (omega arith)
first_is s i (suc n) = first_by s i n (waits_for s i) refl (first_waiting s (i + 1) n) (first_is s (i + 1) n)

-- ---- what stands in a log

newest-holds : {X : Type 0} (P : X → Type 0) (xs : List X) (x : X) → newest xs ≡ Some x → AllByRecursion P xs → P x
newest-holds P [] x e h = absurd cc
newest-holds P (y ∷ ys) x e h = subst P (same_Some y x e) h.0

at_by : (P : Ordered → Type 0) (log : List Ordered) (n : ℕ) (o : Ordered) (b : Bool) → (if b then None else newest (front n log)) ≡ Some o → AllByRecursion P log → P o
at_by P log n o true e h = absurd cc
at_by P log n o false e h = newest-holds P (front n log) o e (all_drop P (length log - n) log h)

pub at-holds : (P : Ordered → Type 0) (s : Server) (n : ℕ) (o : Ordered) → ordered_at s n ≡ Some o → AllByRecursion P s.log → P o
at-holds P s n o e h = at_by P s.log n o (nat_lt (size s) n) e h
