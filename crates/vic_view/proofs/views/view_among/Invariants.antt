use Rattle.std.proofs.Common.{◌≡◌, reverse}
use Rattle.vic_view.specs.Replay.{shown_below, places_among}
use Rattle.vic_view.proofs.views.view_among.Given as goal

abbrev pub invariant-loop-number : goal.invariant-loop-number
invariant-loop-number l = reverse l.view ≡ shown_below (places_among l.all) l.mine.places l.number
