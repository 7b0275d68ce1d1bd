use Rattle.std.proofs.Common.{arith}
use Rattle.vic_dict.proofs.Rows.{len_seen}
use Rattle.vic_dict.proofs.plain.PlainDict.len.Goals as goal

pub returns : goal.returns
returns c = omega (arith, len_seen _ c.self.view_is c.self.invariant)
