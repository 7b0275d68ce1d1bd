-- A step that a client is about to make: what becomes of the client when the step is kept, and when it is forgotten.
use Rattle.std.specs.Prelude.{◌≡◌, ℕ, ◌-◌, ◌<◌, ◌≤◌, List, length, take, drop, Option, Some, None}
use Rattle.vic_rules.specs.declared.state.Own.{Own}
use Rattle.vic_rules.specs.declared.state.Awaiting.TheVariants as awaits
use Rattle.vic_rules.specs.declared.object.Phase.{Phase}
use Rattle.vic_rules.specs.declared.object.Phase.TheVariants as phase
use Rattle.vic_rules.specs.declared.trace.Input.{Input}
use Rattle.vic_rules.specs.Client.{Standing}
use Rattle.vic_chain.specs.Held.{Held, held_length, held_sealed_at, held_cut_to}
use Rattle.vic_client.specs.declared.pending.Effect.{Effect}
use Rattle.vic_client.specs.declared.pending.Effect.TheVariants as effect
use Rattle.vic_client.specs.declared.pending.Pending.{Pending}
use Rattle.vic_client.specs.declared.step.Step.{Step}
use Rattle.vic_client.specs.Kept.{KeptClient, StandsFor, IsSameClient, kept_move}
use Rattle.vic_client.specs.Shows.{Shows}
use Rattle.vic_client.specs.Sound.{IsSound, PhaseFits}

-- how far the call on objects has come, where it has moved
abbrev pub phase_turned : Phase → Option Phase → Phase
phase_turned p None = p
phase_turned p (Some q) = q

-- what the client becomes when the step is kept: the seal moves, and it awaits what comes next
abbrev pub after_keeping : Effect → KeptClient → KeptClient
after_keeping effect.Stays c = c
after_keeping (effect.Halts check) c = record c { halted = Some check }
after_keeping (effect.Asks awaiting calls turned) c = record c { awaiting = awaiting; calls = calls; phase = turned }
after_keeping (effect.Awaits awaiting) c = record c { awaiting = awaiting }
after_keeping effect.Ends c = record c { awaiting = awaits.Nothing; phase = phase.Closed }
after_keeping (effect.Replies n position root turned) c = record c { window = held_sealed_at c.window position root.bytes; awaiting = awaits.Turn; phase = phase_turned c.phase turned }
after_keeping (effect.Seals position root) c = record c { window = held_sealed_at c.window position root.bytes; own = drop 1 c.own; awaiting = awaits.Turn }
after_keeping (effect.Lists n position root) c = record c { window = held_sealed_at c.window position root.bytes; awaiting = awaits.Nothing }

-- the own calls without the newest
abbrev pub but_newest : List Own → List Own
but_newest own = take (length own - 1) own

-- what it becomes when the step is forgotten: the entries that came onto its path, and its own call, come off again
abbrev pub after_forgetting : Effect → KeptClient → KeptClient
after_forgetting effect.Stays c = c
after_forgetting (effect.Halts check) c = c
after_forgetting (effect.Asks awaiting calls turned) c = c
after_forgetting (effect.Awaits awaiting) c = c
after_forgetting effect.Ends c = c
after_forgetting (effect.Replies n position root turned) c = record c { window = held_cut_to c.window n; own = but_newest c.own }
after_forgetting (effect.Seals position root) c = c
after_forgetting (effect.Lists n position root) c = record c { window = held_cut_to c.window n }

-- the seal of a window can move to this position
abbrev pub CanSeal : Held → ℕ → Type 0
CanSeal w position = (w.sealed ≤ position) × (position ≤ held_length w)

-- the seal can move to where the effect says, and the window can be cut back to the length that it names
abbrev pub IsOnWindow : Effect → Held → Type 0
IsOnWindow effect.Stays w = Unit {0}
IsOnWindow (effect.Halts check) w = Unit {0}
IsOnWindow (effect.Asks awaiting calls turned) w = Unit {0}
IsOnWindow (effect.Awaits awaiting) w = Unit {0}
IsOnWindow effect.Ends w = Unit {0}
IsOnWindow (effect.Replies n position root turned) w = CanSeal w position × (w.sealed ≤ n)
IsOnWindow (effect.Seals position root) w = CanSeal w position
IsOnWindow (effect.Lists n position root) w = CanSeal w position × (w.sealed ≤ n)

-- what holds of every client holds of this one
abbrev pub IsSoundKept : KeptClient → Type 0
IsSoundKept c = IsSound c.id c.count c.window c.own c.awaiting × PhaseFits c.calls c.phase

-- a client can keep a step with this effect, and can forget it: what it then is, is a client
pub record CanKeep (e : Effect) (c : KeptClient) : Type 0 where
  pub window : IsOnWindow e c.window
  pub keeps : IsSoundKept (after_keeping e c)
  pub forgets : IsSoundKept (after_forgetting e c)

-- a client that was `old` has a step pending: forgotten, it leaves the old client; kept, it shows the move at this input
pub record IsPendingOf (old : KeptClient) (p : Pending) (new : KeptClient) (given : Input) : Type 0 where
  pub can : CanKeep p.effect new
  pub back : after_forgetting p.effect new ≡ old
  pub same : IsSameClient old (after_keeping p.effect new)
  pub shows : (s : Standing) → StandsFor old s → Shows old p.step (after_keeping p.effect new) (kept_move old s given)

-- the client has a step with this effect pending, of some client at some input: to forget it leads to that client, and to keep it
-- is the rule's move from there
pub record HasPending (e : Effect) (c : KeptClient) : Type 0 where
  pub was : KeptClient
  pub step : Step
  pub given : Input
  pub pends : IsPendingOf was (record { step = step; effect = e }) c given

-- a payload fits a frame, and an envelope in a frame: it isn't empty, and it is no longer than this
abbrev pub FitsFrame : List ℕ → Type 0
FitsFrame payload = (0 < length payload) × (length payload ≤ 16777210)
