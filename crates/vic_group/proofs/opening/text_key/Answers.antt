use Rattle.std.specs.Str.{chars}
use Rattle.hex.specs.Hex.{decode_of}
use Rattle.vic_tag.specs.Keys.{fault_in}
use Rattle.vic_group.proofs.Entering.{no_fault}
use Rattle.vic_group.proofs.opening.text_key.Goals as goal

pub returns-in-Ok : goal.returns-in-Ok
returns-in-Ok c = no_fault (fault_in (chars c.args.text.now)) (decode_of c.args.text.now) c.in-Ok.key c.in-Ok.ensures
