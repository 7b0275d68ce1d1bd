use Rattle.vic_view.specs.Replay.{places_among}
use Rattle.vic_view.proofs.Shows.{shown_start, shown_more}
use Rattle.vic_view.proofs.views.view_among.Goals as goal

pub loop-number-init : goal.loop-number-init
loop-number-init c = shown_start (places_among c.args.all.now) c.args.mine.now.places c.new-view.result c.new-view.ensures

pub loop-number-preserved : goal.loop-number-preserved
loop-number-preserved c =
    shown_more c.args.lengths.now c.args.all.now c.args.mine.now.places c.loop-number.view c.show.new.view c.loop-number.number c.at-place.result.now c.in_ok-outcome.outcome
    c.loop-number.invariant c.at-place.ensures c.requires.lengths c.in_ok-outcome.ensures c.in_ok-show.ensures
