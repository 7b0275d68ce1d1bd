use Rattle.std.proofs.Common.{Some}
use Rattle.vic_rules.specs.History.{standing}
use Rattle.vic_run_drill.specs.Running.{input_of}
use Rattle.vic_run_drill.proofs.Seats.{steps_so}
use Rattle.vic_run_drill.proofs.seat.Seat.act.Goals as goal

pub returns-clause-ok : goal.returns-clause-ok
returns-clause-ok c = λ g h i at.
    let asked = c.in_ok-sent.ensures in
    let s = standing g i h in
    steps_so g h i (input_of c.args.act.now) c.args.self.now c.ask.new.client at asked.same (Some c.in_ok-sent.sent) (asked.sent s at.stands) (asked.stands s at.stands)
