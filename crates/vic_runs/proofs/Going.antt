-- The run behind an honest line is the one before it with the events of the line.
use Rattle.std.proofs.Common.{◌+◌}
use Rattle.vic_attacks.specs.Hostile.{by_kind}
use Rattle.vic_script.specs.Scenes.{events_of, done_line}
use Rattle.vic_runs.specs.Going.{LinesGoOn}
use Rattle.vic_runs.specs.Reached.{GoesAs}
use Rattle.vic_runs.proofs.Kept.{goes_is_kept}
use Rattle.vic_runs.proofs.Lines.{few_calls}
use Rattle.vic_runs.proofs.Honest.{IsBehind, honest-line_behind}

pub lines_go_on : LinesGoOn
lines_go_on s n r few l honest fits good =
    let b : IsBehind GoesAs s n r (events_of by_kind s l) (done_line by_kind s l).scene (n + 1) =
    honest-line_behind GoesAs by_kind goes_is_kept s n l r (few_calls s n r.calls few l) good fits honest in
    (b.reached.comes, b.events)
