-- The calls that steps tell as completed, the oldest first, each with its client's whole path at that step.
use Rattle.std.specs.Prelude.{ℕ, List, [], ◌∷◌, ◌++◌, map, reverse, Option, Some, None}
use Rattle.vic_dict.specs.declared.op.Entry.{Entry}
use Rattle.vic_dict.specs.declared.op.Outcome.{Outcome}
use Rattle.vic_rules.specs.declared.trace.TraceStep.{TraceStep}
use Rattle.vic_rules.specs.History.{Completion}
use Rattle.vic_view.specs.declared.replay.Place.{Place}
use Rattle.vic_view.specs.declared.plain.CompletedCall.{CompletedCall}
use Rattle.vic_view.specs.Replay.{completed_with, replayed_path}

-- the entries of a path, the newest first
abbrev pub prefix_of : List Place → List Entry
prefix_of ps = reverse (map (λ (p : Place). p.entry) ps)

abbrev pub completion_of : CompletedCall → Completion
completion_of c = record { client = c.client; prefix = prefix_of c.path; outcome = c.outcome }

-- as completions, the newest first
abbrev pub completions_of : List CompletedCall → List Completion
completions_of cs = reverse (map completion_of cs)

abbrev pub completed_on : ℕ → List Place → Option Outcome → List CompletedCall
completed_on me ps None = []
completed_on me ps (Some o) = record { client = me; path = ps; outcome = o } ∷ []

-- all calls that were completed in a history
unfoldable pub completed_in : List TraceStep → List CompletedCall
completed_in [] = []
completed_in (x ∷ past) = completed_in past ++ completed_on x.client (replayed_path x.client (x ∷ past)).places (completed_with x.returned)
