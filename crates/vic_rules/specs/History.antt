-- Histories of a group: the steps of all its clients, the newest first.
use Rattle.std.specs.Prelude.{◌≡◌, ℕ, ◌<◌, ◌≤◌, List, [], ◌∷◌, ◌++◌, Option, Some, None, nat_eq, if◌then◌else◌}
use Rattle.vic_dict.specs.declared.op.Outcome.{Outcome}
use Rattle.vic_dict.specs.declared.op.Outcome.TheVariants as outcome
use Rattle.vic_dict.specs.declared.op.Entry.{Entry}
use Rattle.vic_wire.specs.Hashes.{Group, IsGroup}
use Rattle.vic_rules.specs.declared.trace.TraceStep.{TraceStep}
use Rattle.vic_rules.specs.Client.{Standing, at_start, Move, step, MayStep, payload_of}

-- where a client stands after a history
unfoldable pub standing : Group → ℕ → List TraceStep → Standing
standing g me [] = at_start
standing g me (x ∷ past) = if nat_eq x.client me then (step g me (standing g me past) x.input).next else standing g me past

-- the client's path
abbrev pub path : Group → ℕ → List TraceStep → List Entry
path g me h = (standing g me h).path

-- the move that a step makes after its past
abbrev pub move_of : Group → List TraceStep → TraceStep → Move
move_of g past x = step g x.client (standing g x.client past) x.input

-- the step is one that its client takes there
pub record IsStep (g : Group) (past : List TraceStep) (x : TraceStep) : Type 0 where
  pub member : (0 < x.client) × (x.client ≤ g.count)
  pub may : MayStep g (standing g x.client past) x.input
  pub sent : x.sent ≡ payload_of g x.client (move_of g past x).next (move_of g past x).sends
  pub returned : x.returned ≡ (move_of g past x).returns
  pub object : x.object ≡ (move_of g past x).object

abbrev pub AreSteps : Group → List TraceStep → Type 0
AreSteps g [] = Unit {0}
AreSteps g (x ∷ past) = AreSteps g past × IsStep g past x

-- each client steps by the rules, in whatever order
pub record IsLawful (g : Group) (h : List TraceStep) : Type 0 where
  pub group : IsGroup g
  pub steps : AreSteps g h

-- a call that is Done or Aborted, with the path that ends with it
pub record Completion : Type 0 where
  -- whose call it is
  pub client : ℕ
  -- the client's path there, the call's entry first
  pub prefix : List Entry
  -- done or aborted
  pub outcome : Outcome

abbrev pub completion : ℕ → List Entry → Option Outcome → List Completion
completion me p None = []
completion me p (Some (outcome.Done a)) = record { client = me; prefix = p; outcome = outcome.Done a } ∷ []
completion me p (Some (outcome.Aborted u)) = record { client = me; prefix = p; outcome = outcome.Aborted u } ∷ []
completion me p (Some (outcome.Refused r)) = []
completion me p (Some (outcome.Halted k)) = []

-- all completions of a history, the newest first
unfoldable pub completions : Group → List TraceStep → List Completion
completions g [] = []
completions g (x ∷ past) = completion x.client (path g x.client (x ∷ past)) x.returned ++ completions g past
