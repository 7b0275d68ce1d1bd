-- What a lock, a pass and a note are to a contract, and what a step of a pass does.
use Rattle.std.specs.Prelude.{◌≡◌, ℕ, ◌%◌, ◌^◌, List, [], ◌∷◌, ◌++◌, Option, Some, None, Result, IfOk, OnErr, refl}
use Rattle.std.specs.Coded.{Coded, code_by, coded×, coded_ℕ, coded_list, coded_option}
use mathlib.Core.List.{IsPrefix}
use Rattle.atomic_table.specs.Table.{Me}
use Rattle.atomic_table.specs.Seated.{TableId, table_id_coded}
use Rattle.vic_change.specs.declared.Change.{Change}
use Rattle.vic_turn.specs.declared.view.View.{View}
use Rattle.vic_change.specs.Changes.{change_added, change}
use Rattle.vic_turn.specs.Changes.{Each}

-- which lock it is, the fixed part of its value, and how many passes it has
pub record LockView (F : Type 0) : Type 0 where
  pub id : TableId
  pub fixed : F
  pub count : ℕ

pub record PassView (F : Type 0) : Type 0 where
  pub lock : TableId
  pub number : ℕ
  pub fixed : Option F
  pub seen : List Change
  pub mine : List Change

pub record NoteView (F : Type 0) : Type 0 where
  pub lock : TableId
  pub fixed : Option F
  pub seen : List Change

abbrev pub changes_code : Coded (List Change)
changes_code = coded_list (code_by (ℕ × (ℕ × List ℕ)) (coded× coded_ℕ (coded× coded_ℕ (coded_list coded_ℕ))) (λ c. (c.seat, (c.who, c.payload))) (λ q. change q.0 q.1.0 q.1.1) (λ _. refl))

module _ {F : Type 0} where
  abbrev pub lock_code : Coded F → Coded (LockView F)
  lock_code c = code_by (TableId × (F × ℕ)) (coded× table_id_coded (coded× c coded_ℕ)) (λ l. (l.id, (l.fixed, l.count))) (λ q. record { id = q.0; fixed = q.1.0; count = q.1.1 }) (λ _. refl)

  abbrev pub pass_code : Coded F → Coded (PassView F)
  pass_code c =
      code_by (TableId × (ℕ × (Option F × (List Change × List Change)))) (coded× table_id_coded (coded× coded_ℕ (coded× (coded_option c) (coded× changes_code changes_code))))
      (λ p. (p.lock, (p.number, (p.fixed, (p.seen, p.mine))))) (λ q. record { lock = q.0; number = q.1.0; fixed = q.1.1.0; seen = q.1.1.1.0; mine = q.1.1.1.1 }) (λ _. refl)

  abbrev pub note_code : Coded F → Coded (NoteView F)
  note_code c =
      code_by (TableId × (Option F × List Change)) (coded× table_id_coded (coded× (coded_option c) changes_code)) (λ p. (p.lock, (p.fixed, p.seen))) (λ q. record { lock = q.0; fixed = q.1.0; seen = q.1.1 }) (λ _. refl)

  -- the pass was made by this lock
  abbrev pub IsPassOf : LockView F → PassView F → Type 0
  IsPassOf l p = (p.lock ≡ l.id) × (p.fixed ≡ Some l.fixed)

  -- the note was made by this lock
  abbrev pub IsNoteOf : LockView F → NoteView F → Type 0
  IsNoteOf l p = (p.lock ≡ l.id) × (p.fixed ≡ Some l.fixed)

  -- a pass of this lock that has seen and made nothing
  abbrev pub IsFresh : LockView F → PassView F → Type 0
  IsFresh l p = IsPassOf l p × (p.seen ≡ []) × (p.mine ≡ [])

  -- There is a history that begins with all that was seen. The reply is the one after it. This history and the new change, if any, have then been seen, and the change joins its own
  abbrev pub Answers : {Y : Type 0} → (F → List Change → ℕ → List ℕ → Y) → (F → List Change → ℕ → List ℕ → ℕ → Option (ℕ × List ℕ)) → F → PassView F → ℕ → List ℕ → PassView F → Y → Type 0
  Answers replies records fixed old who payload new reply =
      (h : List Change) × IsPrefix old.seen h × (reply ≡ replies fixed h who payload)
      × (new.seen ≡ h ++ change_added old.number (records fixed h who payload old.number)) × (new.mine ≡ old.mine ++ change_added old.number (records fixed h who payload old.number))

  -- no change was made, and all that the value keeps has been seen
  abbrev pub Refuses : PassView F → PassView F → Type 0
  Refuses old new = IsPrefix old.seen new.seen × (new.mine ≡ old.mine)

-- the list of the one pass that a view stands for
abbrev pub first_list : List (ℕ × List Change) → List Change
first_list [] = []
first_list (e ∷ es) = e.1

module _ {X F : Type 0} where
  abbrev pub pass_view : TableId → ℕ → Me X (View F) → PassView F
  pass_view id n me = record { lock = id; number = n; fixed = me.0.fixed; seen = me.0.seen; mine = first_list me.0.held }

  abbrev pub note_view : TableId → Me X (View F) → NoteView F
  note_view id me = record { lock = id; fixed = me.0.fixed; seen = me.0.seen }

  -- it holds no ticket and no value, and stands for the pass n alone
  abbrev pub IsIdle : ℕ → Me X (View F) → Type 0
  IsIdle n me = (me.1 ≡ []) × (me.0.ticket ≡ None) × (me.0.known ≡ None) × (me.0.told ≡ []) × (me.0.held ≡ (n, first_list me.0.held) ∷ [])

  -- the same, with the ticket t
  abbrev pub Waits : ℕ → ℕ → Me X (View F) → Type 0
  Waits t word me = (me.1 ≡ []) × (me.0.ticket ≡ Some t) × (me.0.known ≡ None) × (word ≡ t % 2 ^ 64)

  -- it stands for no pass
  abbrev pub IsNote : Me X (View F) → Type 0
  IsNote me = (me.1 ≡ []) × (me.0.ticket ≡ None) × (me.0.known ≡ None) × (me.0.held ≡ [])

-- the value's own step of a seat
pub record Applied {X F Y E : Type 0} (fixed_of : X → F) (changes_of : X → List Change) (replies : F → List Change → ℕ → List ℕ → Y) (records : F → List Change → ℕ → List ℕ → ℕ → Option (ℕ × List ℕ))
    (seat who : ℕ) (payload : List ℕ) (y : X) (result : Result Y E) (z : X) : Type 0 where
  pub kept : fixed_of z ≡ fixed_of y
  pub reply : IfOk result (λ r. r ≡ replies (fixed_of y) (changes_of y) who payload)
  pub change : IfOk result (λ _. changes_of z ≡ changes_of y ++ change_added seat (records (fixed_of y) (changes_of y) who payload seat))
  pub refused : OnErr result (changes_of z ≡ changes_of y)

-- the value is out with it, and has the known history, and then changes of the one pass that it stands for
abbrev pub Hands : {X F : Type 0} → (X → F) → (X → List Change) → F → Me X (View F) → Type 0
Hands {X} fixed_of changes_of fixed me =
    (y : X) × (k : List Change) × (d : List Change) × (n : ℕ) × (mine : List Change) × (me.1 ≡ (0, y) ∷ []) × (me.0.known ≡ Some k) × (changes_of y ≡ k ++ d) × (fixed_of y ≡ fixed)
    × (me.0.held ≡ (n, mine) ∷ []) × Each (λ c. c.seat ≡ n) d
