use Rattle.std.proofs.Common.{rules}
use Rattle.vic_rules.specs.History.{standing}
use Rattle.vic_run_drill.proofs.opening.entered.Goals as goal

pub returns-clause-stands : goal.returns-clause-stands
unfolding standing
returns-clause-stands c = record { id = c.new.ensures.id; group = search rules; stands = c.new.ensures.stands }
