-- The views of passes and notes, and what each step tells.
use Rattle.std.specs.Prelude.{◌≡◌, ◌≢◌, ◌⊎◌, ℕ, ◌%◌, ◌+◌, ◌^◌, ◌<◌, ◌≤◌, List, [], ◌∷◌, ◌++◌, length, Some, None, true, false, leb, if◌then◌else◌}
use mathlib.Core.List.{IsPrefix}
use Rattle.atomic_table.specs.Table.{Me, Step}
use Rattle.vic_change.specs.declared.Change.{Change}
use Rattle.vic_turn.specs.declared.view.View.{View}
use Rattle.vic_change.specs.Changes.{of_seat}
use Rattle.vic_turn.specs.Changes.{Each}

-- each pass's list grows by these changes
abbrev pub lists_with_changes : List Change → List (ℕ × List Change) → List (ℕ × List Change)
lists_with_changes d [] = []
lists_with_changes d (e ∷ es) = (e.0, e.1 ++ d) ∷ es

-- the longer of two histories
abbrev pub longer_list : List Change → List Change → List Change
longer_list xs ys = if leb (length ys) (length xs) then xs else ys

-- of xs and ys one begins the other, and zs is the longer
abbrev pub IsLonger : List Change → List Change → List Change → Type 0
IsLonger xs ys zs = (IsPrefix ys xs × (zs ≡ xs)) ⊎ (IsPrefix xs ys × (zs ≡ ys))

-- the first of the histories that were told
abbrev pub first_told : List (List Change) → List Change
first_told [] = []
first_told (h ∷ hs) = h

module _ {F : Type 0} where
  -- who makes the passes, and has made k
  abbrev pub maker_at : F → ℕ → View F
  maker_at f k = record { fixed = Some f; seen = []; told = []; held = []; ticket = None; known = None; makes = true; made = k }

  -- who makes the passes
  abbrev pub opening_view : F → View F
  opening_view f = record { fixed = Some f; seen = []; told = []; held = []; ticket = None; known = None; makes = true; made = 0 }

  -- the maker, once it has made another pass
  abbrev pub maker : View F → View F
  maker v = record { fixed = v.fixed; seen = v.seen; told = v.told; held = v.held; ticket = v.ticket; known = v.known; makes = v.makes; made = v.made + 1 }

  -- the view of the pass that it makes
  abbrev pub made_pass : View F → View F
  made_pass v = record { fixed = v.fixed; seen = []; told = []; held = (v.made + 1, []) ∷ []; ticket = None; known = None; makes = false; made = 0 }

  -- a note of what was seen
  abbrev pub note_of : View F → View F
  note_of v = record { fixed = v.fixed; seen = v.seen; told = []; held = []; ticket = None; known = None; makes = false; made = 0 }

  -- a view that says nothing
  abbrev pub spent_view : View F
  spent_view = record { fixed = None; seen = []; told = []; held = []; ticket = None; known = None; makes = false; made = 0 }

  -- the view v, which has been told what w had seen, and stands for the passes of w too
  abbrev pub joined_view : View F → View F → View F
  joined_view v w = record { fixed = v.fixed; seen = v.seen; told = v.told ++ w.seen ∷ []; held = v.held ++ w.held; ticket = v.ticket; known = v.known; makes = v.makes; made = v.made }

  abbrev pub with_ticket : View F → ℕ → View F
  with_ticket v t = record { fixed = v.fixed; seen = v.seen; told = v.told; held = v.held; ticket = Some t; known = v.known; makes = v.makes; made = v.made }

  abbrev pub with_known : View F → List Change → View F
  with_known v h = record { fixed = v.fixed; seen = v.seen; told = v.told; held = v.held; ticket = v.ticket; known = Some h; makes = v.makes; made = v.made }

  -- the turn is over: it has seen h, which ends with its changes d
  abbrev pub turn_over : View F → List Change → List Change → View F
  turn_over v h d = record { fixed = v.fixed; seen = h; told = v.told; held = lists_with_changes d v.held; ticket = None; known = None; makes = v.makes; made = v.made }

  -- it has seen the longer of what it had seen and what it was told
  abbrev pub met_view : View F → View F
  met_view v = record { fixed = v.fixed; seen = longer_list v.seen (first_told v.told); told = []; held = v.held; ticket = v.ticket; known = v.known; makes = v.makes; made = v.made }

module _ {X F : Type 0} where
  -- a new seat, which knows nothing
  abbrev pub Came : Step X → Me X (View F) → ℕ → Me X (View F) → Type 0
  Came st m found n = n ≡ (spent_view, [])

  -- a ticket was drawn, and the word was its number
  abbrev pub Drew : Step X → Me X (View F) → ℕ → Me X (View F) → Type 0
  Drew st m found n = (t : ℕ) × (n ≡ (with_ticket m.0 t, m.1)) × (found ≡ t % 2 ^ 64)

  -- the turn of ticket t has come, and the value is out: its history begins with all that was seen
  abbrev pub TurnCame : (X → F) → (X → List Change) → Me X (View F) → Me X (View F) → Type 0
  TurnCame fixed_of changes_of m n =
      (y : X) × (n ≡ (with_known m.0 (changes_of y), (0, y) ∷ [])) × IsPrefix m.0.seen (changes_of y)
      × ((f : F) → m.0.fixed ≡ Some f → f ≡ fixed_of y)

  abbrev pub Looked : (X → F) → (X → List Change) → Step X → Me X (View F) → ℕ → Me X (View F) → Type 0
  Looked fixed_of changes_of st m found n =
      (t : ℕ) → m.0.ticket ≡ Some t → (found ≡ t % 2 ^ 64 → TurnCame fixed_of changes_of m n) × (found ≢ t % 2 ^ 64 → n ≡ m)

  -- the value is at home again
  abbrev pub HandedOn : (X → List Change) → Step X → Me X (View F) → ℕ → Me X (View F) → Type 0
  HandedOn changes_of st m found n =
      (y : X) (k d : List Change) → m.1 ≡ (0, y) ∷ [] → m.0.known ≡ Some k → changes_of y ≡ k ++ d → n ≡ (turn_over m.0 (changes_of y) d, [])

  -- of what was seen and what was told one begins the other, and the longer has been seen
  abbrev pub Met : Step X → Me X (View F) → ℕ → Me X (View F) → Type 0
  Met st m found n = (n ≡ (met_view m.0, m.1)) × IsLonger m.0.seen (first_told m.0.told) n.0.seen

-- what is known of the value at the end, of a view that stands for all passes
pub record Settled {X F : Type 0} (fixed_of : X → F) (changes_of : X → List Change) (fixed : F) (count : ℕ) (v : View F) (y : X) : Type 0 where
  pub fixed_is : fixed_of y ≡ fixed
  pub seen : IsPrefix v.seen (changes_of y)
  pub told : Each (λ h. IsPrefix h (changes_of y)) v.told
  pub held : Each (λ e. of_seat e.0 (changes_of y) ≡ e.1) v.held
  pub seats : Each (λ c. (0 < c.seat) × (c.seat ≤ count)) (changes_of y)
