-- The rule of the turn lock. Word 0 is the number of tickets drawn and word 1 the number of turns ended, both modulo 2 ^ 64. The one slot has the value.
use Rattle.std.specs.Prelude.{◌≡◌, ◌≢◌, ℕ, ◌%◌, ◌+◌, ◌^◌, ◌<◌, ◌≤◌, Bool, true, false, List, [], ◌∷◌, length, Option, Some, None}
use Rattle.std.specs.List.{sum_by}
use mathlib.Core.Option.{some, none}
use mathlib.Core.List.{IsPrefix}
use lib.ListN.{get_elem?}
use Rattle.atomic_table.specs.Table.{State}
use Rattle.vic_dict.specs.declared.limits.TheConstants.{MOST_CLIENTS}
use Rattle.vic_change.specs.declared.Change.{Change}
use Rattle.vic_turn.specs.declared.view.View.{View}
use Rattle.vic_change.specs.Changes.{of_seat}
use Rattle.vic_turn.specs.Changes.{Each}

abbrev pub one_if : {A : Type 0} → Option A → ℕ
one_if None = 0
one_if (Some x) = 1

module _ {F : Type 0} where
  -- how many tickets the view holds
  abbrev pub tickets_of : View F → ℕ
  tickets_of v = one_if v.ticket

  -- how many passes the view stands for
  abbrev pub passes_of : View F → ℕ
  passes_of v = length v.held

-- What there is at one moment. The current history is `log`. `owner` says which view stands for a pass, and `holder` which view drew a ticket.
pub record Moment (F : Type 0) : Type 0 where
  pub fixed : F
  pub log : List Change
  pub made : ℕ
  pub next : ℕ
  pub now : ℕ
  pub away : Bool
  pub owner : ℕ → ℕ
  pub holder : ℕ → ℕ

-- the view `id` stands for this pass, whose own changes are those of the history with its number
abbrev pub Stands : {F : Type 0} → Moment F → ℕ → ℕ × List Change → Type 0
Stands m id e = (m.owner e.0 ≡ id) × (0 < e.0) × (e.0 ≤ m.made) × (of_seat e.0 m.log ≡ e.1)

-- the numbers are different
abbrev pub AreDifferent : List (ℕ × List Change) → Type 0
AreDifferent [] = Unit {0}
AreDifferent (e ∷ es) = Each (λ d. d.0 ≢ e.0) es × AreDifferent es

-- what the rule says of one view
pub record Fits {F : Type 0} (m : Moment F) (id : ℕ) (v : View F) : Type 0 where
  pub fixed : (f : F) → v.fixed ≡ Some f → f ≡ m.fixed
  pub seen : IsPrefix v.seen m.log
  pub told : Each (λ h. IsPrefix h m.log) v.told
  pub held : Each (Stands m id) v.held
  pub different : AreDifferent v.held
  pub ticket : (t : ℕ) → v.ticket ≡ Some t → (m.holder t ≡ id) × (m.now ≤ t) × (t < m.next)
  pub a_pass : tickets_of v ≤ passes_of v
  pub known : (k : List Change) → v.known ≡ Some k → (k ≡ m.log) × (v.ticket ≡ Some m.now) × (m.away ≡ true)
  pub maker : v.makes ≡ true → (id ≡ 0) × (v.made ≡ m.made)

-- The value is at home and shows the current history, or it is out with the one view that knows a history
pub record Kept {X F : Type 0} (fixed_of : X → F) (changes_of : X → List Change) (fixed : F) (count : ℕ) (s : State X (View F)) : Type 0 where
  pub m : Moment F
  pub fixed_is : m.fixed ≡ fixed
  pub words : s.words ≡ (m.next % 2 ^ 64) ∷ (m.now % 2 ^ 64) ∷ []
  pub tickets : m.next ≡ m.now + sum_by tickets_of s.views
  pub passes : sum_by passes_of s.views ≡ m.made
  pub few : (m.made ≤ count) × (count ≤ MOST_CLIENTS)
  pub fits : (id : ℕ) (v : View F) → get_elem? s.views id ≡ some v → Fits m id v
  pub seats : Each (λ c. (0 < c.seat) × (c.seat ≤ m.made)) m.log
  pub home : m.away ≡ false → (y : X) × (s.homes ≡ some y ∷ []) × (fixed_of y ≡ m.fixed) × (changes_of y ≡ m.log)
  pub out : m.away ≡ true → (s.homes ≡ none ∷ []) × ((id : ℕ) × (v : View F) × (get_elem? s.views id ≡ some v) × (v.known ≡ Some m.log))
