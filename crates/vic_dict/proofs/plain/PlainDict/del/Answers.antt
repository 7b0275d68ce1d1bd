use Rattle.std.proofs.Common.{refl, is_some, sym, ap, subst, ◌∙◌, arith}
use Rattle.std.specs.FinMap as map
use Rattle.vic_dict.specs.Rows.{bytes_cmp, IsTable}
use Rattle.vic_dict.proofs.Rows.{spot_within, gets_at, gets_nothing, drops, drops_nothing, spot_for}
use Rattle.vic_dict.proofs.plain.PlainDict.del.Goals as goal

pub remove-row-requires : goal.remove-row-requires
remove-row-requires c = omega (arith, spot_within _ _ _ c.self.invariant (spot_for refl c.as_slice.ensures.value c.in-Ok.ensures))

pub invariant_of-self : goal.invariant_of-self
invariant_of-self c =
    subst IsTable (sym c.remove-row.ensures.items) (drops _ _ _ c.self.invariant (spot_for refl c.as_slice.ensures.value c.in-Ok.ensures)).table

pub returns-in-Ok-clause-now : goal.returns-in-Ok-clause-now
returns-in-Ok-clause-now c =
    ap (map.from_sorted {R = bytes_cmp}) c.remove-row.ensures.items
    ∙ (drops _ _ _ c.self.invariant (spot_for refl c.as_slice.ensures.value c.in-Ok.ensures)).is
    ∙ ap (λ m. map.remove m c.args.key.now) c.self.view_is

pub returns-in-Ok-clause-was : goal.returns-in-Ok-clause-was
returns-in-Ok-clause-was c =
    sym (ap is_some (gets_at _ _ _ (c.args.key.now, c.args.key.now) c.self.invariant (spot_for refl c.as_slice.ensures.value c.in-Ok.ensures)))
    ∙ ap (λ m. is_some (map.get m c.args.key.now)) c.self.view_is

pub returns-in-Err-clause-now : goal.returns-in-Err-clause-now
returns-in-Err-clause-now c =
    sym c.self.view_is
    ∙ (drops_nothing _ _ _ c.self.invariant (spot_for refl c.as_slice.ensures.value c.in-Err.ensures)).is
    ∙ ap (λ m. map.remove m c.args.key.now) c.self.view_is

pub returns-in-Err-clause-was : goal.returns-in-Err-clause-was
returns-in-Err-clause-was c =
    sym (ap is_some (gets_nothing _ _ _ c.self.invariant (spot_for refl c.as_slice.ensures.value c.in-Err.ensures)))
    ∙ ap (λ m. is_some (map.get m c.args.key.now)) c.self.view_is
