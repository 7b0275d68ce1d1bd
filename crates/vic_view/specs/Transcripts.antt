-- The group and the history of a transcript.
use Rattle.std.specs.Prelude.{List, reverse}
use Rattle.vic_wire.specs.Hashes.{Group}
use Rattle.vic_rules.specs.declared.trace.TraceStep.{TraceStep}
use Rattle.vic_view.specs.declared.transcript.Transcript.{Transcript}

-- the steps, the oldest first
abbrev pub transcript_steps : Transcript → List TraceStep
transcript_steps t = t.steps

abbrev pub transcript_group : Transcript → Group
transcript_group t = record { mode = t.mode; count = t.count; key = t.key }

-- the steps as a history, the newest first
abbrev pub transcript_history : Transcript → List TraceStep
transcript_history t = reverse t.steps
