use Rattle.std.proofs.Common.{◌≡◌, true, false, sym, ap, ◌∙◌, ◌&&◌}
use Rattle.vic_dict.specs.declared.op.Mode.TheVariants as mode
use Rattle.vic_wire.specs.Hashes.{Group}
use Rattle.vic_order.specs.Order.{same_mode}
use Rattle.vic_script.specs.Scenes.{is_object_call, fits_object}
use Rattle.vic_group.proofs.Lines.{object_called_line, object_uncalled_line}
use Rattle.vic_group.proofs.world.World.object_line.Goals as goal

pub returns-then-not-is_object_call : goal.returns-then-not-is_object_call
returns-then-not-is_object_call g c = λ s shows.
    let test : is_object_call s c.args.call.now ≡ false = ap (λ (k : Group). same_mode k.mode mode.Objects && fits_object c.args.call.now) (sym shows.group) ∙ sym c.is_object_call.ensures.is ∙ c.if-not-is_object_call.true in
    rw c.bad.ensures (object_uncalled_line g.S.Serve.state g.S.Serve.rule s c.args.who c.args.call.now c.args.self.now test shows)

pub returns : goal.returns
returns g c = λ s shows.
    let test : is_object_call s c.args.call.now ≡ true = ap (λ (k : Group). same_mode k.mode mode.Objects && fits_object c.args.call.now) (sym shows.group) ∙ sym c.is_object_call.ensures.is ∙ c.if-not-is_object_call.false in
    object_called_line g.S.Serve.state g.S.Serve.rule c.ask.result s c.args.who c.args.call.now c.in_ok-copy_of.field-0 c.ask.new.self c.in_ok-copy_of.ensures test (c.ask.ensures s shows)
