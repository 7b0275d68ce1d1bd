use Rattle.std.proofs.Common.{◌&&◌, sym, ap, ◌∙◌}
use Rattle.vic_dict.specs.declared.op.Mode.{Mode}
use Rattle.vic_dict.specs.declared.op.Mode.TheVariants as mode
use Rattle.vic_order.specs.Order.{same_mode}
use Rattle.vic_script.specs.Scenes.{fits_op}
use Rattle.vic_group.proofs.Honest.{fits_test}
use Rattle.vic_group.proofs.world.is_plain_call.Goals as goal

pub returns-in-Plain-clause-is : goal.returns-in-Plain-clause-is
returns-in-Plain-clause-is c = fits_test c.fits.result c.args.op.now c.fits.ensures ∙ sym (ap (λ (k : Mode). same_mode k mode.Plain && fits_op c.args.op.now) c.in-Plain.is)
