use Rattle.vic_keybits.proofs.bit_order.Goals as goal
use Rattle.vic_keybits.proofs.Order.{bits_in_order}

pub returns : goal.returns
returns c = bits_in_order
