-- What holds of every client.
use Rattle.std.specs.Prelude.{ℕ, ◌+◌, ◌<◌, ◌≤◌, ◌^◌, length, List}
use Rattle.std.specs.List.{AllByRecursion}
use Rattle.vic_dict.specs.declared.limits.TheConstants.{MOST_CLIENTS}
use Rattle.vic_dict.specs.Dictionary.{IsKey}
use Rattle.vic_rules.specs.declared.state.Own.{Own}
use Rattle.vic_rules.specs.declared.state.Awaiting.{Awaiting}
use Rattle.vic_rules.specs.declared.object.Phase.{Phase}
use Rattle.vic_rules.specs.declared.object.Phase.TheVariants as phase
use Rattle.vic_chain.specs.Held.{Held, held_length}
use Rattle.vic_checks.specs.Passing.{AwaitsFit}

-- each own call stands on the path
abbrev pub OwnWithin : ℕ → List Own → Type 0
OwnWithin most own = AllByRecursion (λ o. o.position ≤ most) own

-- the client is one of its group, and what it keeps is within its path
pub record IsSound (id count : ℕ) (window : Held) (own : List Own) (awaiting : Awaiting) : Type 0 where
  pub member : (0 < id) × ((id ≤ count) × (count ≤ MOST_CLIENTS))
  pub awaited : AwaitsFit awaiting
  pub within : OwnWithin (held_length window) own
  pub few : length own ≤ held_length window

-- a store whose content was sent can call its put
abbrev pub PhaseFits : ℕ → Phase → Type 0
PhaseFits calls (phase.Keeping k h len) = IsKey k × (calls + 1 < 2 ^ 32)
PhaseFits calls phase.Closed = Unit {0}
PhaseFits calls phase.Calling = Unit {0}
PhaseFits calls (phase.Fetching h len) = Unit {0}
