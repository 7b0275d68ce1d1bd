use Rattle.std.proofs.Common.{◌≡◌, Some, is_some, option_map, sym, ap, ◌∙◌, arith}
use Rattle.vic_order.specs.Scenes.{server_at, set_server}
use Rattle.vic_group.specs.World.{states}
use Rattle.vic_group.proofs.Scenes.{shows_copied, shows_kept}
use Rattle.vic_group.proofs.Lines.{copied_line, misplaced_line, uncopied_line, server_shown}
use Rattle.vic_group.proofs.world.World.copy_line.Goals as goal

pub returns-then-not-is_server_number : goal.returns-then-not-is_server_number
returns-then-not-is_server_number g c = λ s shows. rw c.bad.ensures (misplaced_line g.S.Serve.state g.S.Serve.rule s c.args.from c.args.to c.args.self.now (sym c.is_server_number.ensures ∙ c.if-not-is_server_number.true) shows)

pub returns-in_default : goal.returns-in_default
returns-in_default g c = λ s shows.
    let w = c.args.self.now in
    let none = sym c.at.ensures ∙ ap (λ o. option_map (λ v. g.S.Serve.state v.now) o) c.in_default.is in
    rw c.bad-in_default.ensures (uncopied_line g.S.Serve.state g.S.Serve.rule s c.args.from c.args.to w (sym c.is_server_number.ensures ∙ c.if-not-is_server_number.false) (sym (server_shown g.S.Serve.state w s c.args.from shows) ∙ ap (λ o. is_some o) none) shows)

pub returns-then-from : goal.returns-then-from
returns-then-from g c = λ s shows.
    let w = c.args.self.now in
    let vs = states g.S.Serve.state w.servers in
    let here : server_at vs c.args.from ≡ Some (g.S.Serve.state c.in-Some.server.now) = sym c.at.ensures ∙ ap (λ o. option_map (λ v. g.S.Serve.state v.now) o) c.in-Some.is in
    copied_line g.S.Serve.state g.S.Serve.rule s c.args.from c.args.to w (sym c.is_server_number.ensures ∙ c.if-not-is_server_number.false) (sym (server_shown g.S.Serve.state w s c.args.from shows) ∙ ap (λ o. is_some o) here)
    (shows_kept w.transcript w.members.items vs s c.args.from c.args.to (g.S.Serve.state c.in-Some.server.now) shows here (omega (arith, c.if-from.true, c.from.ensures)))

pub returns : goal.returns
returns g c = λ s shows.
    let w = c.args.self.now in
    let vs = states g.S.Serve.state w.servers in
    let here : server_at vs c.args.from ≡ Some (g.S.Serve.state c.in-Some.server.now) = sym c.at.ensures ∙ ap (λ o. option_map (λ v. g.S.Serve.state v.now) o) c.in-Some.is in
    let set = c.set.ensures ∙ ap (λ v. set_server vs c.args.to (Some v)) c.in_ok-copy.ensures in
    copied_line g.S.Serve.state g.S.Serve.rule s c.args.from c.args.to (record w { servers = c.set.new.self }) (sym c.is_server_number.ensures ∙ c.if-not-is_server_number.false) (sym (server_shown g.S.Serve.state w s c.args.from shows) ∙ ap (λ o. is_some o) here)
    (shows_copied w.transcript w.members.items vs (states g.S.Serve.state c.set.new.self) s c.args.from c.args.to (g.S.Serve.state c.in-Some.server.now) shows here set)
