-- The laws on the order of calls: which views go together, what a client decides, and what the words that they are made of mean.
use Rattle.std.specs.Prelude.{◌≡◌, ◌≢◌, ℕ, ◌<◌, ◌≤◌, ◌↔◌, Bool, true, false, ◌&&◌, List, [], ◌∷◌, ◌++◌, length, Option, Some, None, nat_lt, if◌then◌else◌}
use Rattle.vic_dict.specs.declared.op.Op.{Op}
use Rattle.vic_dict.specs.declared.op.Entry.{Entry}
use Rattle.vic_dict.specs.declared.op.Answer.{Answer}
use Rattle.vic_dict.specs.declared.op.Outcome.{Outcome}
use Rattle.vic_dict.specs.declared.op.Outcome.TheVariants as outcome
use Rattle.vic_dict.specs.Lists.{IsIn, front, newest}
use Rattle.vic_dict.specs.Dictionary.{Dictionary, reply, after}
use Rattle.vic_wire.specs.declared.message.Seal.{Seal}
use Rattle.vic_wire.specs.declared.message.Tagged.{Tagged}
use Rattle.vic_wire.specs.declared.message.ToClient.TheVariants as say
use Rattle.vic_wire.specs.Conflict.{conflicts}
use Rattle.vic_wire.specs.Hashes.{Group}
use Rattle.vic_wire.specs.Parts.{Part, read_part, walked}
use Rattle.vic_rules.specs.declared.trace.TraceStep.{TraceStep}
use Rattle.vic_rules.specs.Client.{same_op, same_entry, least_above, is_in_the_way, is_done}
use Rattle.vic_rules.specs.History.{IsLawful, path, Completion, completions}
use Rattle.vic_rules.specs.Trust.{IsForged, answer_taken}
use Rattle.vic_rules.specs.Views.{confirmation, view_of, IsSameCall, IsAnswered, IsCompleted, Agree, HasAll, ShowsOnlyCalls, IsInRealTime}

-- ---- the words

-- two operations pass the test exactly where they are equal, and so do two entries
abbrev pub SameOpIs : Type 0
SameOpIs = (a b : Op) → (same_op a b ≡ true) ↔ (a ≡ b)

abbrev pub SameEntryIs : Type 0
SameEntryIs = (a b : Entry) → (same_entry a b ≡ true) ↔ (a ≡ b)

-- the entry at a position of a path passes a test
pub record PassesAt (test : ℕ → Entry → Bool) (path : List Entry) (u : ℕ) : Type 0 where
  pub within : u ≤ length path
  pub entry : Entry
  pub there : newest (front u path) ≡ Some entry
  pub passes : test u entry ≡ true

-- a position above base at which the test passes, and no lesser one does
pub record IsLeastAbove (base : ℕ) (test : ℕ → Entry → Bool) (path : List Entry) (u : ℕ) : Type 0 where
  pub above : base < u
  pub passes : PassesAt test path u
  pub least : (v : ℕ) → base < v → v < u → PassesAt test path v → ⊥

-- the search finds the least such position, and nothing where there is none
abbrev pub LeastAboveIs : Type 0
LeastAboveIs = (base : ℕ) (test : ℕ → Entry → Bool) (path : List Entry) (u : ℕ) → (least_above base test path ≡ Some u) ↔ IsLeastAbove base test path u

abbrev pub NoneAboveIs : Type 0
NoneAboveIs = (base : ℕ) (test : ℕ → Entry → Bool) (path : List Entry)
    → (least_above base test path ≡ None) ↔ ((u : ℕ) → base < u → PassesAt test path u → ⊥)

-- what confirms a path is the one completion with this path, and it is that of the newest entry's client
abbrev pub ConfirmedIs : Type 0
ConfirmedIs = (g : Group) (h : List TraceStep) → IsLawful g h → (p : List Entry) (c : Completion)
    → (confirmation (completions g h) p ≡ Some c) ↔ (IsIn (completions g h) c × (c.prefix ≡ p))

abbrev pub ConfirmedByOwner : Type 0
ConfirmedByOwner = (g : Group) (h : List TraceStep) → IsLawful g h → (e : Entry) (below : List Entry) (c : Completion)
    → confirmation (completions g h) (e ∷ below) ≡ Some c → c.client ≡ e.client

-- ---- decisions

-- the entry at a position of a path, above a base, stands in the way of a client's operation: another client's, and in conflict
pub record BlocksAt (me : ℕ) (o : Op) (base : ℕ) (path : List Entry) (u : ℕ) : Type 0 where
  pub above : base < u
  pub within : u ≤ length path
  pub entry : Entry
  pub there : newest (front u path) ≡ Some entry
  pub other : entry.client ≢ me
  pub conflict : conflicts entry.op o ≡ true

-- a call that its client decided as done has nothing in its way, between the seal of its Reply and itself
abbrev pub DoneMeetsNoConflictIn : Group → List TraceStep → Type 0
DoneMeetsNoConflictIn g h = (later : List TraceStep) (x : TraceStep) (past : List TraceStep) → h ≡ later ++ x ∷ past
    → (seal : Seal) (entries : List Tagged) (part : List ℕ) → answer_taken g past x ≡ Some (say.Reply seal entries part) → (e : Entry) (below : List Entry) → path g x.client (x ∷ past) ≡ e ∷ below
    → (a : Answer) → x.returned ≡ Some (outcome.Done a) → (u : ℕ) → BlocksAt x.client e.op seal.position below u → ⊥

abbrev pub DoneMeetsNoConflict : Type 0
DoneMeetsNoConflict = (g : Group) (h : List TraceStep) → IsLawful g h → DoneMeetsNoConflictIn g h

-- a call is aborted exactly by the least position at which the client's own test finds what is in the way
abbrev pub AbortedByTheLeast : Type 0
AbortedByTheLeast = (g : Group) (h : List TraceStep) → IsLawful g h → (later : List TraceStep) (x : TraceStep) (past : List TraceStep) → h ≡ later ++ x ∷ past
    → (seal : Seal) (entries : List Tagged) (part : List ℕ) → answer_taken g past x ≡ Some (say.Reply seal entries part) → (e : Entry) (below : List Entry) → path g x.client (x ∷ past) ≡ e ∷ below
    → (u : ℕ) → (x.returned ≡ Some (outcome.Aborted u)) ↔ IsLeastAbove seal.position (is_in_the_way x.client e.op) below u

-- what a path's entries leave of a dictionary where those above a base take effect that a choice picks; a choice sees the path that ends with the entry
unfoldable pub effect_of : (List Entry → Bool) → ℕ → Dictionary → List Entry → Dictionary
effect_of picks base d [] = d
effect_of picks base d (e ∷ p) = if nat_lt base (length (e ∷ p)) && picks (e ∷ p) then after (effect_of picks base d p) e.op else effect_of picks base d p

-- whether a completion is done
abbrev pub was_done : Option Completion → Bool
was_done None = false
was_done (Some c) = is_done c.outcome

-- a choice by which a client's own entries take effect exactly where the client completed them, on this very path, as done
abbrev pub PicksOwn : List Completion → ℕ → (List Entry → Bool) → Type 0
PicksOwn cs me picks = (e : Entry) (p : List Entry) → e.client ≡ me → picks (e ∷ p) ≡ was_done (confirmation cs (e ∷ p))

-- a call that is done has the answer of its Reply's part after the client's own done calls that stand above the seal and below the call,
-- whichever entries of others there take effect as well
abbrev pub AnswersStandIn : Group → List TraceStep → Type 0
AnswersStandIn g h = (later : List TraceStep) (x : TraceStep) (past : List TraceStep) → h ≡ later ++ x ∷ past
    → (seal : Seal) (entries : List Tagged) (bytes : List ℕ) → answer_taken g past x ≡ Some (say.Reply seal entries bytes) → (e : Entry) (below : List Entry) → path g x.client (x ∷ past) ≡ e ∷ below
    → (a : Answer) → x.returned ≡ Some (outcome.Done a) → (part : Part) → read_part bytes ≡ Some part
    → (picks : List Entry → Bool) → PicksOwn (completions g h) x.client picks → a ≡ reply (effect_of picks seal.position (walked part e.op) below) e.op

abbrev pub AnswersStand : Type 0
AnswersStand = (g : Group) (h : List TraceStep) → IsLawful g h → AnswersStandIn g h

-- ---- completions

-- a call has at most one completion
abbrev pub CompletedOnceIn : Group → List TraceStep → Type 0
CompletedOnceIn g h = (c d : Completion) → IsIn (completions g h) c → IsIn (completions g h) d
    → (e f : Entry) (p q : List Entry) → c.prefix ≡ e ∷ p → d.prefix ≡ f ∷ q → IsSameCall e f → c ≡ d

abbrev pub CompletedOnce : Type 0
CompletedOnce = (g : Group) (h : List TraceStep) → IsLawful g h → CompletedOnceIn g h

-- a call is completed with this outcome, on some path
pub record CompletedAs (g : Group) (h : List TraceStep) (e : Entry) (o : Outcome) : Type 0 where
  pub by : Completion
  pub below : List Entry
  pub there : IsIn (completions g h) by
  pub is : by.prefix ≡ e ∷ below
  pub ends : by.outcome ≡ o

-- the completions are the calls that were made and answered by Done or Aborted
abbrev pub CompletionsAre : Type 0
CompletionsAre = (g : Group) (h : List TraceStep) → IsLawful g h → (e : Entry) (o : Outcome) → (IsCompleted o × IsAnswered g h e o) ↔ CompletedAs g h e o

-- ---- views

-- every two views agree up to each call that stands in both
abbrev pub ViewsAgree : Type 0
ViewsAgree = (g : Group) (h : List TraceStep) → IsLawful g h → (i j : ℕ) → Agree (view_of g i h) (view_of g j h)

-- unless a tag was forged, each view keeps real-time order
abbrev pub ViewsInRealTime : Type 0
ViewsInRealTime = (g : Group) (h : List TraceStep) → IsLawful g h → (IsForged g h → ⊥) → (me : ℕ) → IsInRealTime g h (view_of g me h)

-- each view has all that its client completed
abbrev pub ViewsComplete : Type 0
ViewsComplete = (g : Group) (h : List TraceStep) → IsLawful g h → (me : ℕ) → HasAll g me h (view_of g me h)

-- each view shows only what was called and answered so
abbrev pub ViewsShowOnlyCalls : Type 0
ViewsShowOnlyCalls = (g : Group) (h : List TraceStep) → IsLawful g h → (me : ℕ) → ShowsOnlyCalls g h (view_of g me h)
