use Rattle.vic_keybits.proofs.none_is_prefix.Goals as goal
use Rattle.vic_keybits.proofs.Order.{none_begins_another}

pub returns : goal.returns
returns c = none_begins_another
