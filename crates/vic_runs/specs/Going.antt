-- How the run behind an honest script goes on.
use Rattle.std.specs.Prelude.{◌≡◌, ℕ, ◌+◌, ◌<◌, ◌^◌, true, ◌++◌, None}
use Rattle.vic_order.specs.Honest.{ComesHonestly}
use Rattle.vic_order.specs.Scenes.{SceneOf}
use Rattle.vic_attacks.specs.Hostile.{Hostile, by_kind}
use Rattle.vic_script.specs.declared.line.Line.{Line}
use Rattle.vic_script.specs.Scenes.{events_of, done_line, bad_kind, is_honest_line}
use Rattle.vic_runs.specs.Claims.{FitsLine}
use Rattle.vic_runs.specs.Reached.{GoesAs, IsHonestlyReached}

-- behind an honest line that isn't bad the run is the one before it with the events of the line
abbrev pub LinesGoOn : Type 0
LinesGoOn = (s : SceneOf Hostile) (n : ℕ) (r : IsHonestlyReached GoesAs s n) → n + 1 < 2 ^ 32 → (l : Line) → is_honest_line l ≡ true → FitsLine l → bad_kind s l ≡ None
    → (c : ComesHonestly GoesAs (done_line by_kind s l).scene) × (c.events ≡ events_of by_kind s l ++ r.comes.events)
