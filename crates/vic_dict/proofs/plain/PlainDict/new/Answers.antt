use Rattle.std.proofs.Common.{refl, sym, ap, subst, ◌∙◌}
use Rattle.std.specs.FinMap as map
use Rattle.vic_dict.specs.Rows.{bytes_cmp, IsTable}
use Rattle.vic_dict.proofs.Rows.{no_rows}
use Rattle.vic_dict.proofs.plain.PlainDict.new.Goals as goal

pub invariant_of-result : goal.invariant_of-result
invariant_of-result c = subst IsTable (sym c.new.ensures.items) (record { rising = refl; fit = tt; bytes = tt })

pub returns : goal.returns
returns c = ap (map.from_sorted {R = bytes_cmp}) c.new.ensures.items ∙ no_rows
