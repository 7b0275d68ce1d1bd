use Rattle.std.proofs.Common.{◌≡◌, ◌<◌, ◌^◌, length, IfSome}
use Rattle.vic_client.specs.Kept.{kept_group}
use Rattle.vic_client.specs.Pending.{FitsFrame}
use Rattle.vic_session.specs.Talking.{IsFine, MaySend}
use Rattle.vic_session.proofs.Falls.{rank}
use Rattle.vic_session.proofs.Sessions.{Going}
use Rattle.vic_session.proofs.run.run_lines.Given as goal

abbrev pub invariant-answers : goal.invariant-answers
invariant-answers g l = record {
  going : Going (kept_group l.fn.client) l.fn.client.id l.fn.script (g.L.Link.told l.fn.link) l.fn.out (g.L.Link.told l.link) l.reader l.client l.place l.out l.pending;
  fine : IsFine l.place.doing l.place;
  sends : MaySend l.place.doing l.pending;
  fits : IfSome l.pending FitsFrame;
  total : l.place.total < 2 ^ 63;
  size : l.place.total ≡ length l.fn.script;
}

abbrev pub decreases-answers : goal.decreases-answers
decreases-answers g l = rank l.client l.place
