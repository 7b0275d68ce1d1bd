use Rattle.std.proofs.Common.{◌≡◌, ◌+◌, is_none, sym, ◌∙◌}
use Rattle.std.proofs.lemmas.Result.{err_from_is_err_and}
use Rattle.vic_rules.specs.Client.{awaits_nothing}
use Rattle.vic_group.specs.World.{states}
use Rattle.vic_group.proofs.Asking.{not_there, unasked_is, asked_is, idle_passes}
use Rattle.vic_group.proofs.Doing.{member_at}
use Rattle.vic_group.proofs.Scenes.{stands_here, shows_step}
use Rattle.vic_group.proofs.world.World.ask.Goals as goal

pub returns-in_err-place : goal.returns-in_err-place
returns-in_err-place g c = λ s shows.
    let w = c.args.self.now in
    let p = err_from_is_err_and c.from_residual.result c.from_residual.ensures.1 in
    rw (p.1, p.2) (rw c.in_err-place.ensures.0 (unasked_is w.transcript w.members.items (states g.S.Serve.state w.servers) s c.args.who shows (not_there w.transcript w.members.items (states g.S.Serve.state w.servers) s c.args.who shows c.in_err-place.ensures.1), shows))

pub returns-in-Some : goal.returns-in-Some
returns-in-Some g c = λ s shows.
    let w = c.args.self.now in
    let k = c.in_ok-place.place in
    let m = c.index.result.now in
    let is : c.args.who ≡ k + 1 = sym c.in_ok-place.ensures.0 ∙ c.in_ok-place.ensures.1.0 in
    let at = member_at w.members.items k m c.in_ok-place.ensures.1.1 c.index.ensures in
    rw c.bad.ensures (asked_is w.transcript w.members.items (states g.S.Serve.state w.servers) s c.args.who shows k m is at c.in_ok-place.ensures.1.1 ∙ c.in-Some.ensures, shows)

pub returns : goal.returns
returns g c = λ s shows.
    let w = c.args.self.now in
    let vs = states g.S.Serve.state w.servers in
    let k = c.in_ok-place.place in
    let m = c.index.result.now in
    let n = c.index_mut.result.now in
    let lt = c.in_ok-place.ensures.1.1 in
    let is : c.args.who ≡ k + 1 = sym c.in_ok-place.ensures.0 ∙ c.in_ok-place.ensures.1.0 in
    let at_m = member_at w.members.items k m lt c.index.ensures in
    let at_n = member_at w.members.items k n lt c.index_mut.ensures.value in
    let stands = stands_here w.transcript w.members.items vs s c.args.who k n shows is at_n in (
      asked_is w.transcript w.members.items vs s c.args.who shows k m is at_m lt ∙ idle_passes (is_none m.client.halted) (awaits_nothing m.client.awaiting) c.in_default.ensures,
      shows_step w.transcript w.members.items vs s c.args.who k n shows is at_n c.ask.new.transcript c.args.input c.ask.new.self lt (c.in_ok-ask.ensures.acts s.group s.history c.args.who stands) (c.in_ok-ask.ensures.joins s.group s.history c.args.who stands),
    )
