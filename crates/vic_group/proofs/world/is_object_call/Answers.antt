use Rattle.std.proofs.Common.{◌&&◌, sym, ap, ◌∙◌}
use Rattle.vic_dict.specs.declared.op.Mode.{Mode}
use Rattle.vic_dict.specs.declared.op.Mode.TheVariants as mode
use Rattle.vic_order.specs.Order.{same_mode}
use Rattle.vic_script.specs.Scenes.{fits_object}
use Rattle.vic_group.proofs.Honest.{object_fits_test}
use Rattle.vic_group.proofs.world.is_object_call.Goals as goal

pub returns-in-Objects-clause-is : goal.returns-in-Objects-clause-is
returns-in-Objects-clause-is c = object_fits_test c.fits.result c.args.call.now c.fits.ensures ∙ sym (ap (λ (k : Mode). same_mode k mode.Objects && fits_object c.args.call.now) c.in-Objects.is)
