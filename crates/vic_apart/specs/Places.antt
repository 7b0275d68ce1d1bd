-- Places of a path at which a call was done.
use Rattle.std.specs.Prelude.{Bool, true, false, Option, Some, None}
use Rattle.vic_dict.specs.declared.op.Outcome.{Outcome}
use Rattle.vic_dict.specs.declared.op.Outcome.TheVariants as outcome
use Rattle.vic_view.specs.declared.replay.Place.{Place}

-- the call was completed as done
abbrev pub is_done_with : Option Outcome → Bool
is_done_with None = false
is_done_with (Some (outcome.Done a)) = true
is_done_with (Some (outcome.Aborted u)) = false
is_done_with (Some (outcome.Refused r)) = false
is_done_with (Some (outcome.Halted k)) = false

abbrev pub is_done_at : Option Place → Bool
is_done_at None = false
is_done_at (Some p) = is_done_with p.outcome
