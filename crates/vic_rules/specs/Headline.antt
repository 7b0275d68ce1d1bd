-- The claim on a group's views.
use Rattle.std.specs.Prelude.{ℕ, ◌<◌, ◌≤◌, List}
use Rattle.vic_wire.specs.Hashes.{Group}
use Rattle.vic_rules.specs.declared.trace.TraceStep.{TraceStep}
use Rattle.vic_rules.specs.Views.{view_of, IsLegal, IsInRealTime, Agree, HasAll, ShowsOnlyCalls}
use Rattle.vic_rules.specs.History.{IsLawful}
use Rattle.vic_rules.specs.Trust.{IsForged, Collides}

-- of each client's view: each answer is that of a dictionary after the calls before it; it has all that the client completed;
-- it has nothing that was not called and returned so; it keeps real-time order. And every two views agree
pub record ViewsHold (g : Group) (h : List TraceStep) : Type 0 where
  pub legal : (me : ℕ) → 0 < me → me ≤ g.count → IsLegal (view_of g me h)
  pub complete : (me : ℕ) → 0 < me → me ≤ g.count → HasAll g me h (view_of g me h)
  pub only_calls : (me : ℕ) → 0 < me → me ≤ g.count → ShowsOnlyCalls g h (view_of g me h)
  pub real_time : (me : ℕ) → 0 < me → me ≤ g.count → IsInRealTime g h (view_of g me h)
  pub agree : (me other : ℕ) → 0 < me → me ≤ g.count → 0 < other → other ≤ g.count → Agree (view_of g me h) (view_of g other h)

-- unless a tag was accepted that no client made before, or two different listed texts have one hash, the views hold
abbrev pub Headline : Group → List TraceStep → Type 0
Headline g h = (IsForged g h → ⊥) → (Collides g h → ⊥) → ViewsHold g h

-- and so for every lawful history, whatever the payloads hold
abbrev pub EveryHistoryHolds : Type 0
EveryHistoryHolds = (g : Group) (h : List TraceStep) → IsLawful g h → Headline g h
