use Rattle.std.proofs.Common.{◌≡◌, true, false, sym, ap, ◌∙◌, ◌&&◌}
use Rattle.vic_dict.specs.declared.op.Mode.TheVariants as mode
use Rattle.vic_wire.specs.Hashes.{Group}
use Rattle.vic_order.specs.Order.{same_mode}
use Rattle.vic_script.specs.Scenes.{is_plain_call, fits_op}
use Rattle.vic_group.proofs.Lines.{called_line, uncalled_line}
use Rattle.vic_group.proofs.world.World.call_line.Goals as goal

pub returns-then-not-is_plain_call : goal.returns-then-not-is_plain_call
returns-then-not-is_plain_call g c = λ s shows.
    let test : is_plain_call s c.args.op.now ≡ false = ap (λ (k : Group). same_mode k.mode mode.Plain && fits_op c.args.op.now) (sym shows.group) ∙ sym c.is_plain_call.ensures.is ∙ c.if-not-is_plain_call.true in
    rw c.bad.ensures (uncalled_line g.S.Serve.state g.S.Serve.rule s c.args.who c.args.op.now c.args.self.now test shows)

pub returns : goal.returns
returns g c = λ s shows.
    let test : is_plain_call s c.args.op.now ≡ true = ap (λ (k : Group). same_mode k.mode mode.Plain && fits_op c.args.op.now) (sym shows.group) ∙ sym c.is_plain_call.ensures.is ∙ c.if-not-is_plain_call.false in
    called_line g.S.Serve.state g.S.Serve.rule c.ask.result s c.args.who c.args.op.now c.in_ok-copy.field-0 c.ask.new.self c.in_ok-copy.ensures test (c.ask.ensures s shows)
