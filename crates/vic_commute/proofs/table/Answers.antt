use Rattle.vic_commute.proofs.Cells.{conflict_table}
use Rattle.vic_commute.proofs.table.Goals as goal

pub returns : goal.returns
returns c = conflict_table
