use Rattle.std.proofs.Common.{◌≡◌, [], ◌∷◌, true, false, is_some, refl, rules, sym, ◌∙◌, slice_set, Err, ap}
use Rattle.std.proofs.lemmas.Result.{err_from_is_err_and}
use Rattle.vic_script.specs.declared.line.Line.TheVariants as line
use Rattle.vic_order.specs.Scenes.{is_server, server_at}
use Rattle.vic_group.specs.World.{states}
use Rattle.vic_group.specs.declared.world.WorldFault.{WorldFault}
use Rattle.vic_group.proofs.Asking.{is_there, not_there}
use Rattle.vic_group.proofs.Lines.{absent, moved_shows, unmoved_line, server_shown}
use Rattle.vic_group.proofs.world.World.move_line.Goals as goal
use Rattle.vic_group.proofs.Scenes.{shows_joined}
use Rattle.vic_group.proofs.Doing.{member_at}

pub returns-in_err-place : goal.returns-in_err-place
returns-in_err-place g c = λ s shows.
    let w = c.args.self.now in
    let p = err_from_is_err_and c.from_residual.result c.from_residual.ensures.1 in
    absent g.S.Serve.state g.S.Serve.rule c.from_residual.result s (line.Move c.args.who c.args.number) c.args.who ((6, is_server s c.args.number) ∷ []) w [] [] (rw (p.1, p.2) (ap (λ (e : WorldFault). Err e) c.in_err-place.ensures.0)) refl (not_there w.transcript w.members.items (states g.S.Serve.state w.servers) s c.args.who shows c.in_err-place.ensures.1) shows

pub returns-then-is_none : goal.returns-then-is_none
returns-then-is_none g c = λ s shows.
    let w = c.args.self.now in
    let vs = states g.S.Serve.state w.servers in
    let i = c.in_ok-place.field-0-1 in
    let k = c.in_ok-place.place in
    let is = c.in_ok-place.ensures.1.0 in
    let lt = c.in_ok-place.ensures.1.1 in
    let there = is_there w.transcript w.members.items vs s i shows k is lt in
    let gone : is_some (server_at vs c.args.number) ≡ false = search rules in
    rw c.bad.ensures (unmoved_line g.S.Serve.state g.S.Serve.rule s i c.args.who c.args.number w c.in_ok-place.ensures.0 there (sym (server_shown g.S.Serve.state w s c.args.number shows) ∙ gone) shows)

pub returns : goal.returns
returns g c = λ s shows.
    let w = c.args.self.now in
    let vs = states g.S.Serve.state w.servers in
    let i = c.in_ok-place.field-0-1 in
    let k = c.in_ok-place.place in
    let is = c.in_ok-place.ensures.1.0 in
    let lt = c.in_ok-place.ensures.1.1 in
    let there = is_there w.transcript w.members.items vs s i shows k is lt in
    let m = c.index_mut.result.now in
    let at = member_at w.members.items k m lt c.index_mut.ensures.value in
    let exists : is_some (server_at vs c.args.number) ≡ true = search rules in
    moved_shows w.transcript (slice_set w.members.items k (record m { server = c.args.number })) vs s i c.args.who c.args.number c.in_ok-place.ensures.0 there (sym (server_shown g.S.Serve.state w s c.args.number shows) ∙ exists)
    (shows_joined w.transcript w.members.items vs s i k m shows is at (record m { server = c.args.number }) c.args.number lt refl exists)
