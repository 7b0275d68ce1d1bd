use Rattle.vic_commute.proofs.Heeding.{not_blocked, blocks_conflict, blocks_are}
use Rattle.vic_commute.proofs.blocking.Goals as goal

pub returns-clause-alone : goal.returns-clause-alone
returns-clause-alone c = not_blocked

pub returns-clause-conflict : goal.returns-clause-conflict
returns-clause-conflict c = blocks_conflict

pub returns-clause-table : goal.returns-clause-table
returns-clause-table c = blocks_are
