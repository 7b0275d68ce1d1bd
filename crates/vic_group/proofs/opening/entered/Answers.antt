use Rattle.std.proofs.Common.{refl, rules}
use Rattle.vic_rules.specs.History.{standing}
use Rattle.vic_order.specs.Scenes.{last_taken, last_sent}
use Rattle.vic_group.proofs.opening.entered.Goals as goal

pub returns-clause-stands : goal.returns-clause-stands
unfolding standing last_taken last_sent
returns-clause-stands c = record { id = c.new.ensures.id; group = search rules; stands = c.new.ensures.stands; taken = refl; sent = refl }
