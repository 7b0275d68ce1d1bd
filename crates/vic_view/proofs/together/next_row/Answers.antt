use Rattle.std.proofs.Common.{take}
use Rattle.vic_view.proofs.Parting.{row_known}
use Rattle.vic_view.proofs.together.next_row.Goals as goal

pub row_by-requires-clause-known : goal.row_by-requires-clause-known
row_by-requires-clause-known g c =
    row_known g.L.Line.in_common c.args.lines.now (take c.args.number c.args.lines.now) c.args.rows.now c.nearest.result c.args.number
    c.index-rows-nearest.result c.as_slice.result.now c.args.line.now c.at.result
    c.requires.rows c.nearest.ensures c.index-rows-nearest.is c.as_slice.ensures c.requires.line c.at.ensures
