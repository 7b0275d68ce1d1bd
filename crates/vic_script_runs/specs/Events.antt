-- The events of a script: those of its lines, one line after the other, up to the first bad one.
use Rattle.std.specs.Prelude.{ℕ, ◌+◌, List, [], ◌∷◌, ◌++◌, length, take, Option, Some, None, nat_lt, if◌then◌else◌}
use Rattle.vic_order.specs.Scenes.{SceneOf, Event}
use Rattle.vic_attacks.specs.Hostile.{Hostile, by_kind}
use Rattle.vic_script.specs.declared.line.Line.{Line}
use Rattle.vic_script.specs.Lines.{lines_of, line_of}
use Rattle.vic_script.specs.Scenes.{events_of}
use Rattle.vic_script.specs.Run.{script_limit, Progress, Before, scene_in, Trial, Fails, Does, trial_of_line, mode_in, line_end}

-- the events of a line in the scene where a script stands; before its header has begun there are none
abbrev pub line_events : Option (SceneOf Hostile) → Option Line → List Event
line_events None l = []
line_events (Some s) None = []
line_events (Some s) (Some l) = events_of by_kind s l

-- a bad line has none, and ends them; those of another line stand behind those of the lines that follow it
abbrev pub events_then : List Event → Trial → (Progress → List Event) → List Event
events_then own (Fails k) later = []
events_then own (Does next text) later = later next ++ own

-- the events of the lines from a place on, which begin behind so many bytes, the last first. A line that reaches past the limit is bad
unfoldable pub events_from : ℕ → ℕ → Progress → List (List ℕ) → List Event
events_from total before place [] = []
events_from total before place (text ∷ texts) =
    let l = line_of (mode_in (scene_in place)) text in
    if nat_lt script_limit (line_end total before text) then []
    else events_then (line_events (scene_in place) l) (trial_of_line place l)
    (λ next. events_from total (line_end total before text) next texts)

-- the events of a script's lines, the last first
unfoldable pub script_events : List ℕ → List Event
script_events script = let known = take (script_limit + 1) script in events_from (length known) 0 Before (lines_of known)
