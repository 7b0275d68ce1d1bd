use Rattle.vic_view.specs.Replay.{common_length}
use Rattle.vic_view.proofs.Parting.{common_within, up_to}
use Rattle.vic_view.proofs.views.ClientPathLine.common_beyond.Goals as goal

pub common_length_beyond-requires-clause-first : goal.common_length_beyond-requires-clause-first
common_length_beyond-requires-clause-first c =
    up_to c.args.known (common_length c.args.self.now.places c.args.other.now.places) c.args.self.now.places c.as_slice.result.now c.requires (common_within c.args.self.now.places c.args.other.now.places).0 c.as_slice.ensures

pub common_length_beyond-requires-clause-second : goal.common_length_beyond-requires-clause-second
common_length_beyond-requires-clause-second c =
    up_to c.args.known (common_length c.args.self.now.places c.args.other.now.places) c.args.other.now.places c.as_slice-2.result.now c.requires (common_within c.args.self.now.places c.args.other.now.places).1 c.as_slice-2.ensures
