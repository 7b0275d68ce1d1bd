use Rattle.std.proofs.Common.{◌≡◌, length, sym, ap, ◌∙◌, arith}
use Rattle.std.proofs.lemmas.Bool.{eqb-true, eqb-false}
use Rattle.std.proofs.lemmas.List.{nil_from_length}
use Rattle.std.specs.Ordering.{is_lt}
use Rattle.vic_dict.specs.Rows.{bytes_cmp, is_past}
use Rattle.vic_dict.proofs.Rows.{rows_seen, past_last}
use Rattle.vic_dict.proofs.plain.PlainDict.is_past.Goals as goal

pub returns-then-is_empty : goal.returns-then-is_empty
returns-then-is_empty c =
    let none : length c.self.inside.rows.items ≡ 0 = omega (arith, eqb-true _ 0 (sym c.is_empty.ensures ∙ c.if-is_empty.true)) in
    sym (ap (is_past c.args.key.now) (rows_seen _ c.self.view_is c.self.invariant ∙ nil_from_length _ none))

pub returns : goal.returns
returns c =
    c.is_lt.ensures ∙ ap is_lt c.cmp.ensures ∙ ap (λ k. is_lt (bytes_cmp k c.args.key.now)) (c.as_slice.ensures ∙ ap (λ r. r.0) c.index.ensures)
    ∙ past_last c.args.key.now _ _ c.index.result.now c.self.invariant.rising (omega (arith, eqb-false _ 0 (sym c.is_empty.ensures ∙ c.if-is_empty.false)))
    ∙ ap (is_past c.args.key.now) (sym (rows_seen _ c.self.view_is c.self.invariant))
