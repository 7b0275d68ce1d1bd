-- The paths of clients as their steps tell them: the entries that each took, the oldest first, and beside the last entry of each
-- Reply how the client completed the call.
use Rattle.std.specs.Prelude.{◌≡◌, ℕ, zero, suc, ◌+◌, ◌-◌, ◌<◌, Bool, true, false, List, [], ◌∷◌, ◌++◌, length, map, Option, Some, None, nat_eq, nat_lt, if◌then◌else◌, slice_get, slice_index, slice_index_or}
use Rattle.vic_dict.specs.declared.op.Outcome.{Outcome}
use Rattle.vic_dict.specs.declared.op.Outcome.TheVariants as outcome
use Rattle.vic_dict.specs.declared.op.Entry.{Entry}
use Rattle.vic_wire.specs.declared.message.Tagged.{Tagged}
use Rattle.vic_wire.specs.declared.message.ToClient.{ToClient}
use Rattle.vic_wire.specs.Reading.{read_answer}
use Rattle.vic_rules.specs.declared.trace.Input.{Input}
use Rattle.vic_rules.specs.declared.trace.Input.TheVariants as input
use Rattle.vic_rules.specs.declared.trace.TraceStep.{TraceStep}
use Rattle.vic_rules.specs.declared.trace.Shown.{Shown}
use Rattle.vic_rules.specs.Client.{same_entry, entries_of}
use Rattle.vic_view.specs.declared.replay.Place.{Place}
use Rattle.vic_view.specs.declared.replay.ClientPath.{ClientPath}

-- ---- what a step tells

abbrev pub is_halt : Option Outcome → Bool
is_halt None = false
is_halt (Some (outcome.Done a)) = false
is_halt (Some (outcome.Aborted u)) = false
is_halt (Some (outcome.Refused r)) = false
is_halt (Some (outcome.Halted k)) = true

-- the answer that was taken, as the input and what was returned tell it
abbrev pub read_by : Input → Option Outcome → Option ToClient
read_by (input.Payload payload) returned = if is_halt returned then None else read_answer payload
read_by (input.Call o) returned = None
read_by (input.Object c) returned = None
read_by input.Poll returned = None
read_by input.Sync returned = None

abbrev pub entries_in : Option ToClient → List Tagged
entries_in None = []
entries_in (Some m) = entries_of m

-- the entries that the client took
abbrev pub entries_at : TraceStep → List Tagged
entries_at x = entries_in (read_by x.input x.returned)

-- the outcome of a call that was completed
abbrev pub completed_with : Option Outcome → Option Outcome
completed_with None = None
completed_with (Some (outcome.Done a)) = Some (outcome.Done a)
completed_with (Some (outcome.Aborted u)) = Some (outcome.Aborted u)
completed_with (Some (outcome.Refused r)) = None
completed_with (Some (outcome.Halted k)) = None

-- ---- paths with outcomes

abbrev pub at_end : Option Outcome → List Tagged → Option Outcome
at_end o [] = o
at_end o (t ∷ ts) = None

-- the places of new entries, with an outcome at the last one
abbrev pub places_with : Option Outcome → List Tagged → List Place
places_with o [] = []
places_with o (t ∷ ts) = record { entry = t.entry; outcome = at_end o ts } ∷ places_with o ts

abbrev pub length_then : Option Outcome → ℕ → ℕ → ℕ
length_then None now before = before
length_then (Some o) now before = now

abbrev pub no_path : ClientPath
no_path = record { places = []; done = 0 }

abbrev pub path_with : Option Outcome → List Place → ClientPath → ClientPath
path_with o ps p = record { places = p.places ++ ps; done = length_then o (length (p.places ++ ps)) p.done }

-- the client's path after a step of it
unfoldable pub path_after : TraceStep → ClientPath → ClientPath
path_after x p = path_with (completed_with x.returned) (places_with (completed_with x.returned) (entries_at x)) p

-- the client's path after a history
unfoldable pub replayed_path : ℕ → List TraceStep → ClientPath
replayed_path me [] = no_path
replayed_path me (x ∷ past) = if nat_eq x.client me then path_after x (replayed_path me past) else replayed_path me past

-- the paths of clients 1, 2 and so on after a history
pub record AreReplayed (count : ℕ) (h : List TraceStep) (all : List ClientPath) : Type 0 where
  pub size : length all ≡ count
  pub each : (k : ℕ) → k < count → slice_index_or all k no_path ≡ replayed_path (k + 1) h

-- ---- views

-- how many entries two paths have in common at their front
abbrev pub common_length : List Place → List Place → ℕ
common_length [] w = 0
common_length (x ∷ v) [] = 0
common_length (x ∷ v) (y ∷ w) = if same_entry x.entry y.entry then common_length v w + 1 else 0

abbrev pub path_among : List ClientPath → ℕ → ClientPath
path_among all owner = if nat_eq owner 0 then no_path else slice_index_or all (owner - 1) no_path

abbrev pub outcome_of : Option Place → Option Outcome
outcome_of None = None
outcome_of (Some p) = p.outcome

-- the outcome at a place of one path, if it has the other one's front up to there
abbrev pub outcome_there : List Place → List Place → ℕ → Option Outcome
outcome_there mine theirs n = if nat_lt n (common_length mine theirs) then outcome_of (slice_get theirs n) else None

-- the same, where the lengths in common with clients 1, 2 and so on are known
abbrev pub length_among : List ℕ → ℕ → ℕ
length_among lengths owner = if nat_eq owner 0 then 0 else slice_index lengths (owner - 1)

abbrev pub outcome_among : List ℕ → List ClientPath → ℕ → ℕ → Option Outcome
outcome_among lengths all owner n = if nat_lt n (length_among lengths owner) then outcome_of (slice_get (path_among all owner).places n) else None

-- the lengths in common with each of the paths
abbrev pub lengths_with : List Place → List ClientPath → List ℕ
lengths_with mine all = map (λ (p : ClientPath). common_length mine p.places) all

-- the places of a client's path
abbrev pub places_among : List ClientPath → ℕ → List Place
places_among all owner = (path_among all owner).places

abbrev pub shown_by : Entry → Option Outcome → List Shown
shown_by e None = []
shown_by e (Some o) = record { entry = e; outcome = o } ∷ []

abbrev pub shown_place : (ℕ → List Place) → List Place → ℕ → Option Place → List Shown
shown_place paths mine n None = []
shown_place paths mine n (Some p) = shown_by p.entry (outcome_there mine (paths p.entry.client) n)

-- what a path shows below a place, the newest first
unfoldable pub shown_below : (ℕ → List Place) → List Place → ℕ → List Shown
shown_below paths mine zero = []
shown_below paths mine (suc n) = shown_place paths mine n (slice_get mine n) ++ shown_below paths mine n
