use Rattle.vic_runs.proofs.Ending.{prints_have_views, prints_have_agreements}
use Rattle.vic_runs.proofs.prints_have_ends.Goals as goal

pub returns-clause-views : goal.returns-clause-views
returns-clause-views c = prints_have_views

pub returns-clause-agreements : goal.returns-clause-agreements
returns-clause-agreements c = prints_have_agreements
