use Rattle.std.proofs.Common.{◌≡◌, take, reverse}
use Rattle.vic_view.specs.Replay.{replayed_path}
use Rattle.vic_view.proofs.replay.path_in.Given as goal

abbrev pub invariant-loop-step : goal.invariant-loop-step
invariant-loop-step l = l.path ≡ replayed_path l.client (reverse (take l.step-index l.steps))
