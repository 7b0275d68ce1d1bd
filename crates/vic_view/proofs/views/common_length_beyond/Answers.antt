use Rattle.std.proofs.Common.{rules, ◌≡◌, ◌+◌, ◌≤◌, length, arith}
use Rattle.vic_view.specs.Replay.{common_length}
use Rattle.vic_view.proofs.Parting.{common_beyond, common_within}
use Rattle.vic_view.proofs.views.common_length_beyond.Goals as goal

pub overflow_add-result : goal.overflow_add-result
overflow_add-result c =
    let e : c.args.known + c.common_length.result ≡ common_length c.args.a.now c.args.b.now =
    common_beyond c.args.known c.common_length.result c.args.a.now c.args.b.now c.requires.common c.common_length.ensures in
    let within : common_length c.args.a.now c.args.b.now ≤ length c.args.a.now = (common_within c.args.a.now c.args.b.now).0 in
    let le : c.args.known + c.common_length.result ≤ length c.args.a.now = omega (arith, e, within) in
    search rules

pub returns : goal.returns
returns c = common_beyond c.args.known c.common_length.result c.args.a.now c.args.b.now c.requires.common c.common_length.ensures
