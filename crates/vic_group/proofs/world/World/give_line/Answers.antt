use Rattle.std.proofs.Common.{[], refl, Err, ap}
use Rattle.std.proofs.lemmas.Result.{err_from_is_err_and}
use Rattle.vic_script.specs.declared.line.Line.TheVariants as line
use Rattle.vic_group.specs.World.{states}
use Rattle.vic_group.specs.declared.world.WorldFault.{WorldFault}
use Rattle.vic_group.proofs.Asking.{is_there, not_there}
use Rattle.vic_group.proofs.Lines.{absent, gave_line}
use Rattle.vic_group.proofs.world.World.give_line.Goals as goal

pub returns-in_err-place : goal.returns-in_err-place
returns-in_err-place g c = λ s shows.
    let w = c.args.self.now in
    let p = err_from_is_err_and c.from_residual.result c.from_residual.ensures.1 in
    absent g.S.Serve.state g.S.Serve.rule c.from_residual.result s (line.Give c.args.who c.args.payload.now) c.args.who ([]) w c.args.out.now c.args.out.now (rw (p.1, p.2) (ap (λ (e : WorldFault). Err e) c.in_err-place.ensures.0)) refl (not_there w.transcript w.members.items (states g.S.Serve.state w.servers) s c.args.who shows c.in_err-place.ensures.1) shows

pub returns : goal.returns
returns g c = λ s shows.
    let w = c.args.self.now in
    let there = is_there w.transcript w.members.items (states g.S.Serve.state w.servers) s c.in_ok-place.id shows c.in_ok-place.place c.in_ok-place.ensures.1.0 c.in_ok-place.ensures.1.1 in
    gave_line g.S.Serve.state g.S.Serve.rule s c.in_ok-place.id c.args.who c.args.payload.now c.in_ok-payload.payload c.hear.new.self c.args.out.now c.hear.new.out c.in_ok-place.ensures.0 c.in_ok-payload.ensures there (c.in_ok-hear.ensures.ok s shows)
