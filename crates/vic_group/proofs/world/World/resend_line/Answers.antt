use Rattle.std.proofs.Common.{◌≡◌, [], ◌∷◌, true, false, is_some, refl, sym, ap, ◌∙◌, slice_set, Err}
use Rattle.std.proofs.lemmas.Result.{err_from_is_err_and}
use Rattle.vic_script.specs.declared.line.Line.TheVariants as line
use Rattle.vic_order.specs.Scenes.{last_sent}
use Rattle.vic_group.specs.World.{states}
use Rattle.vic_group.specs.declared.world.WorldFault.{WorldFault}
use Rattle.vic_group.proofs.Asking.{is_there, not_there}
use Rattle.vic_group.proofs.Lines.{absent, resent_line}
use Rattle.vic_group.proofs.world.World.resend_line.Goals as goal
use Rattle.vic_group.proofs.Scenes.{stands_here, shows_resent}
use Rattle.vic_group.proofs.Doing.{member_at, resent_same}

pub returns-in_err-place : goal.returns-in_err-place
returns-in_err-place g c = λ s shows.
    let w = c.args.self.now in
    let p = err_from_is_err_and c.from_residual.result c.from_residual.ensures.1 in
    absent g.S.Serve.state g.S.Serve.rule c.from_residual.result s (line.Resend c.args.who) c.args.who ((5, is_some (last_sent c.args.who s.history)) ∷ []) w [] [] (rw (p.1, p.2) (ap (λ (e : WorldFault). Err e) c.in_err-place.ensures.0)) refl (not_there w.transcript w.members.items (states g.S.Serve.state w.servers) s c.args.who shows c.in_err-place.ensures.1) shows

pub returns : goal.returns
returns g c = λ s shows.
    let w = c.args.self.now in
    let vs = states g.S.Serve.state w.servers in
    let i = c.in_ok-place.field-0-1 in
    let k = c.in_ok-place.place in
    let is = c.in_ok-place.ensures.1.0 in
    let lt = c.in_ok-place.ensures.1.1 in
    let there = is_there w.transcript w.members.items vs s i shows k is lt in
    let m = c.index_mut.result.now in
    let at = member_at w.members.items k m lt c.index_mut.ensures.value in
    let so = stands_here w.transcript w.members.items vs s i k m shows is at in
    rw c.waited.ensures (resent_line g.S.Serve.state g.S.Serve.rule c.in_ok-went.went s i c.args.who _ c.in_ok-place.ensures.0
    (sym (ap (λ o. is_some o) so.sent) ∙ c.in_ok-went.ensures.ok.0) there
    (λ some. shows_resent w.transcript w.members.items vs s i k m shows is at c.resend.new.self lt c.in_ok-went.ensures.ok.1)
    (λ none. resent_same w.transcript w.members.items vs s k m c.resend.new.self shows at (c.in_ok-went.ensures.ok.0 ∙ none) c.in_ok-went.ensures.ok.1))
