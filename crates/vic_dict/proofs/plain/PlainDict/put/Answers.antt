use Rattle.std.proofs.Common.{set, sym, ap, subst, ◌∙◌, arith}
use Rattle.std.specs.FinMap as map
use Rattle.vic_dict.specs.Rows.{bytes_cmp, IsTable}
use Rattle.vic_dict.proofs.Rows.{spot_within, gap_within, stores_over, stores_new, key_spot, spot_for}
use Rattle.vic_dict.proofs.plain.PlainDict.put.Goals as goal

pub index_mut-requires : goal.index_mut-requires
index_mut-requires c = omega (arith, spot_within _ _ _ c.self.invariant (spot_for c.as_slice-2.ensures c.as_slice.ensures.value c.in-Ok.ensures))

pub insert-requires : goal.insert-requires
insert-requires c = omega (arith, gap_within _ _ _ c.self.invariant (spot_for c.as_slice-2.ensures c.as_slice.ensures.value c.in-Err.ensures))

pub invariant_of-self : goal.invariant_of-self
invariant_of-self c =
    let e = spot_for c.as_slice-2.ensures c.as_slice.ensures.value c.in-Ok.ensures in
    let same = ap (λ r. r.0) c.index_mut.ensures.value ∙ key_spot _ _ _ _ c.self.invariant e in
    subst (λ x. IsTable (set c.self.inside.rows.items c.in-Ok.place (x, c.args.value))) (sym same) (stores_over _ c.args.value _ _ c.self.invariant e c.requires.1 c.are_bytes.ensures c.are_bytes-2.ensures).table

pub returns-in-Ok-clause-ok : goal.returns-in-Ok-clause-ok
returns-in-Ok-clause-ok c =
    let e = spot_for c.as_slice-2.ensures c.as_slice.ensures.value c.in-Ok.ensures in
    let same = ap (λ r. r.0) c.index_mut.ensures.value ∙ key_spot _ _ _ _ c.self.invariant e in
    ap (λ x. map.from_sorted {R = bytes_cmp} (set c.self.inside.rows.items c.in-Ok.place (x, c.args.value))) same
    ∙ (stores_over _ c.args.value _ _ c.self.invariant e c.requires.1 c.are_bytes.ensures c.are_bytes-2.ensures).is
    ∙ ap (λ m. map.insert m c.args.key c.args.value) c.self.view_is

pub invariant_of-self-in-Continue-1 : goal.invariant_of-self-in-Continue-1
invariant_of-self-in-Continue-1 c =
    let e = spot_for c.as_slice-2.ensures c.as_slice.ensures.value c.in-Err.ensures in
    subst IsTable (sym c.in_ok-insert-in-Err.ensures.items) (stores_new _ c.args.value _ _ c.self.invariant e c.requires.0 c.requires.1 c.are_bytes.ensures c.are_bytes-2.ensures).table

pub returns-in_ok-insert-in-Err-clause-ok : goal.returns-in_ok-insert-in-Err-clause-ok
returns-in_ok-insert-in-Err-clause-ok c =
    let e = spot_for c.as_slice-2.ensures c.as_slice.ensures.value c.in-Err.ensures in
    ap (map.from_sorted {R = bytes_cmp}) c.in_ok-insert-in-Err.ensures.items
    ∙ (stores_new _ c.args.value _ _ c.self.invariant e c.requires.0 c.requires.1 c.are_bytes.ensures c.are_bytes-2.ensures).is
    ∙ ap (λ m. map.insert m c.args.key c.args.value) c.self.view_is
