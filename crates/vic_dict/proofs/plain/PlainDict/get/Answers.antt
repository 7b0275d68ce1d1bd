use Rattle.std.proofs.Common.{refl, Some, sym, ap, ◌∙◌, arith}
use Rattle.std.specs.FinMap as map
use Rattle.vic_dict.proofs.Rows.{spot_within, gets_at, gets_nothing, spot_for}
use Rattle.vic_dict.proofs.plain.PlainDict.get.Goals as goal

pub index-requires : goal.index-requires
index-requires c = omega (arith, spot_within _ _ _ c.self.invariant (spot_for refl c.as_slice.ensures.value c.in-Ok.ensures))

pub returns-in-Ok : goal.returns-in-Ok
returns-in-Ok c =
    ap (λ r. Some r.1) c.index.ensures
    ∙ sym (gets_at _ _ _ c.index.result.now c.self.invariant (spot_for refl c.as_slice.ensures.value c.in-Ok.ensures))
    ∙ ap (λ m. map.get m c.args.key.now) c.self.view_is

pub returns-in-Err : goal.returns-in-Err
returns-in-Err c =
    sym (gets_nothing _ _ _ c.self.invariant (spot_for refl c.as_slice.ensures.value c.in-Err.ensures))
    ∙ ap (λ m. map.get m c.args.key.now) c.self.view_is
