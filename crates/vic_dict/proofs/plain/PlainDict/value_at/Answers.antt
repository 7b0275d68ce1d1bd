use Rattle.std.proofs.Common.{Some, sym, ap, ◌∙◌, arith}
use Rattle.vic_dict.proofs.Rows.{len_seen, value_seen}
use Rattle.vic_dict.proofs.plain.PlainDict.value_at.Goals as goal

pub index-requires : goal.index-requires
index-requires c = omega (arith, len_seen _ c.self.view_is c.self.invariant)

pub returns : goal.returns
returns c =
    value_seen _ _ c.index.result.now c.self.view_is c.self.invariant (omega (arith, len_seen _ c.self.view_is c.self.invariant))
    ∙ ap (λ r. Some r.1) (sym c.index.ensures) ∙ ap Some (sym c.as_slice.ensures)
