-- How far a client's own calls and its path stand from its highest seal, and what it has open, whatever was forged.
use Rattle.std.specs.Prelude.{◌≡◌, ℕ, ◌+◌, ◌<◌, ◌≤◌, List, length}
use Rattle.vic_dict.specs.declared.limits.TheConstants.{MOST_UNSEALED}
use Rattle.vic_dict.specs.Lists.{IsIn}
use Rattle.vic_wire.specs.Hashes.{Group}
use Rattle.vic_rules.specs.declared.object.Phase.TheVariants as phase
use Rattle.vic_rules.specs.declared.state.Awaiting.TheVariants as awaits
use Rattle.vic_rules.specs.declared.state.Own.{Own}
use Rattle.vic_rules.specs.declared.trace.TraceStep.{TraceStep}
use Rattle.vic_rules.specs.History.{standing, path, IsLawful}

-- each own call that isn't sealed stands above the highest seal
abbrev pub OwnStandAbove : Type 0
OwnStandAbove = (g : Group) (h : List TraceStep) → IsLawful g h → (me : ℕ) (o : Own) → IsIn (standing g me h).own o → (standing g me h).sealed < o.position

-- the path goes at most 1,024 entries beyond it
abbrev pub PathsStayNear : Type 0
PathsStayNear = (g : Group) (h : List TraceStep) → IsLawful g h → (me : ℕ) → length (path g me h) ≤ (standing g me h).sealed + MOST_UNSEALED

-- a client that awaits nothing has no call on objects open
abbrev pub NothingIsOpen : Type 0
NothingIsOpen = (g : Group) (h : List TraceStep) → IsLawful g h → (me : ℕ) → (standing g me h).awaiting ≡ awaits.Nothing → (standing g me h).phase ≡ phase.Closed
