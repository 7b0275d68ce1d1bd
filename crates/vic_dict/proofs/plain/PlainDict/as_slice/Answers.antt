use Rattle.std.proofs.Common.{sym, ◌∙◌}
use Rattle.vic_dict.proofs.Rows.{rows_seen}
use Rattle.vic_dict.proofs.plain.PlainDict.as_slice.Goals as goal

pub returns-clause-rows : goal.returns-clause-rows
returns-clause-rows c = c.as_slice.ensures.value ∙ sym (rows_seen _ c.self.view_is c.self.invariant)
