use Rattle.vic_script.specs.Print.{agreement}
use Rattle.vic_view.proofs.Parting.{agreement_within, up_to}
use Rattle.vic_view.proofs.view.ViewLine.common_beyond.Goals as goal

pub common_calls_beyond-requires-clause-first : goal.common_calls_beyond-requires-clause-first
common_calls_beyond-requires-clause-first c =
    up_to c.args.known (agreement c.args.self.now c.args.other.now) c.args.self.now c.as_slice.result.now c.requires (agreement_within c.args.self.now c.args.other.now).0 c.as_slice.ensures

pub common_calls_beyond-requires-clause-second : goal.common_calls_beyond-requires-clause-second
common_calls_beyond-requires-clause-second c =
    up_to c.args.known (agreement c.args.self.now c.args.other.now) c.args.other.now c.as_slice-2.result.now c.requires (agreement_within c.args.self.now c.args.other.now).1 c.as_slice-2.ensures
