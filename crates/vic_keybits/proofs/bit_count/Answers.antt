use Rattle.std.proofs.Common.{sym}
use Rattle.vic_keybits.proofs.bit_count.Goals as goal
use Rattle.vic_wire.proofs.KeyBits.{length-key_bits}

pub returns : goal.returns
returns c = sym (length-key_bits c.args.key.now)
