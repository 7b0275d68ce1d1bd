use Rattle.std.proofs.Common.{◌≡◌, map, nat_eq, sym, subst, ◌∙◌}
use Rattle.std.specs.Prelude.{filter, IfOk}
use Rattle.std.specs.List.{starts_with}
use Rattle.vic_dict.proofs.Rows.{rows_seen}
use Rattle.vic_dict.proofs.plain.PlainDict.list.Goals as goal

pub returns : goal.returns
returns c =
    subst (λ l. IfOk c.keys_with.result (λ names. names ≡ filter (λ k. starts_with nat_eq k c.args.prefix.now) (map (λ e. e.0) l)))
    (c.as_slice.ensures.value ∙ sym (rows_seen _ c.self.view_is c.self.invariant)) c.keys_with.ensures
