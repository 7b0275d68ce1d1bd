use Rattle.std.proofs.Common.{sym, ◌∙◌, arith}
use Rattle.std.proofs.lemmas.Bool.{eqb-true, eq-eqb}
use Rattle.vic_dict.proofs.Rows.{len_seen}
use Rattle.vic_dict.proofs.plain.PlainDict.is_empty.Goals as goal

pub returns : goal.returns
returns c =
    let count = len_seen _ c.self.view_is c.self.invariant in
    ((λ h. omega (arith, count, eqb-true _ 0 (sym c.is_empty.ensures ∙ h))), (λ h. c.is_empty.ensures ∙ eq-eqb _ 0 (omega (arith, count, h))))
