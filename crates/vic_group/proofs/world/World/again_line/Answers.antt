use Rattle.std.proofs.Common.{◌≡◌, [], ◌∷◌, None, Some, is_some, refl, rules, sym, ◌∙◌, Err, ap}
use Rattle.std.proofs.lemmas.Result.{err_from_is_err_and}
use Rattle.vic_script.specs.declared.line.Line.TheVariants as line
use Rattle.vic_order.specs.Scenes.{last_taken}
use Rattle.vic_group.specs.World.{states}
use Rattle.vic_group.specs.declared.world.WorldFault.{WorldFault}
use Rattle.vic_group.proofs.Asking.{is_there, not_there}
use Rattle.vic_group.proofs.Lines.{absent, is_bad, repeated_line, unrepeated_line}
use Rattle.vic_group.proofs.world.World.again_line.Goals as goal
use Rattle.vic_group.proofs.Scenes.{stands_here}
use Rattle.vic_group.proofs.Doing.{member_at}

pub returns-in_err-place : goal.returns-in_err-place
returns-in_err-place g c = λ s shows.
    let w = c.args.self.now in
    let p = err_from_is_err_and c.from_residual.result c.from_residual.ensures.1 in
    absent g.S.Serve.state g.S.Serve.rule c.from_residual.result s (line.Again c.args.who) c.args.who ((5, is_some (last_taken c.args.who s.history)) ∷ []) w c.args.out.now c.args.out.now (rw (p.1, p.2) (ap (λ (e : WorldFault). Err e) c.in_err-place.ensures.0)) refl (not_there w.transcript w.members.items (states g.S.Serve.state w.servers) s c.args.who shows c.in_err-place.ensures.1) shows

pub returns-in_default : goal.returns-in_default
returns-in_default g c = λ s shows.
    let w = c.args.self.now in
    let vs = states g.S.Serve.state w.servers in
    let i = c.in_ok-place.id in
    let k = c.in_ok-place.place in
    let is = c.in_ok-place.ensures.1.0 in
    let lt = c.in_ok-place.ensures.1.1 in
    let there = is_there w.transcript w.members.items vs s i shows k is lt in
    let m = c.index.result.now in
    let at = member_at w.members.items k m lt c.index.ensures in
    let so = stands_here w.transcript w.members.items vs s i k m shows is at in
    let none : m.taken ≡ None = search rules in
    is_bad g.S.Serve.state g.S.Serve.rule s (line.Again c.args.who) c.bad.result 5 w c.args.out.now c.args.out.now c.bad.ensures (unrepeated_line g.S.Serve.state g.S.Serve.rule s i c.args.who w c.in_ok-place.ensures.0 (sym so.taken ∙ none) there shows)

pub returns : goal.returns
returns g c = λ s shows.
    let w = c.args.self.now in
    let vs = states g.S.Serve.state w.servers in
    let i = c.in_ok-place.id in
    let k = c.in_ok-place.place in
    let is = c.in_ok-place.ensures.1.0 in
    let lt = c.in_ok-place.ensures.1.1 in
    let there = is_there w.transcript w.members.items vs s i shows k is lt in
    let m = c.index.result.now in
    let at = member_at w.members.items k m lt c.index.ensures in
    let so = stands_here w.transcript w.members.items vs s i k m shows is at in
    let last : m.taken ≡ Some c.in_ok-payload.payload = search rules in
    repeated_line g.S.Serve.state g.S.Serve.rule s i c.args.who c.in_ok-payload.payload c.hear.new.self c.args.out.now c.hear.new.out c.in_ok-place.ensures.0 (sym so.taken ∙ last) there (c.in_ok-hear.ensures.ok s shows)
