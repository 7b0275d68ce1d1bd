use Rattle.std.proofs.Common.{◌≡◌, ◌<◌, ℕ, length, get_or, Ok, Err, List, sym, ap, subst, ◌∙◌, arith}
use Rattle.std.proofs.lemmas.Slice.Eq.{bytes_eq-Decides}
use Rattle.std.proofs.lemmas.Bool.{both_ways}
use Rattle.vic_dict.specs.Rows.{Row, place_in, spot}
use Rattle.vic_dict.proofs.Rows.{spot_here, spot_other}
use Rattle.vic_dict.proofs.plain.find_row.Goals as goal
use Rattle.vic_dict.proofs.plain.find_row.Goals.{else-place-rows-via-then-place-rows+else-eq, else-place-rows-via-else-place-rows}

here : (k : List ℕ) (es : List Row) (d : Row) (i : ℕ) → i ≡ place_in k es → i < length es → (get_or es i d).0 ≡ k → Ok i ≡ spot k es
here k es d i e h same = ap Ok e ∙ sym (spot_here k es d (subst (λ j. j < length es) e h) (subst (λ j. (get_or es j d).0 ≡ k) e same))

other : (k : List ℕ) (es : List Row) (d : Row) (i : ℕ) → i ≡ place_in k es → (i < length es → (get_or es i d).0 ≡ k → ⊥) → Err i ≡ spot k es
other k es d i e h = ap Err e ∙ sym (spot_other k es d (subst (λ j. j < length es → (get_or es j d).0 ≡ k → ⊥) e h))

pub returns-then-eq : goal.returns-then-eq
returns-then-eq c =
    here c.args.key.now c.args.rows.now c.index-rows-place.result _ c.place_of-place.ensures c.if-place-rows.true
    (sym c.as_slice.ensures ∙ (bytes_eq-Decides c.as_slice.result.now c.args.key.now).0 (sym c.eq.ensures ∙ c.if-eq.true))

pub returns : goal.returns
returns c =
    elim c.else-place-rows.branch [
      | else-place-rows-via-then-place-rows+else-eq w ↦
          other c.args.key.now c.args.rows.now w.index-rows-place.result _ c.place_of-place.ensures
          (λ h same. both_ways _ (sym w.eq.ensures ∙ w.if-eq.false) ((bytes_eq-Decides w.as_slice.result.now c.args.key.now).1 (w.as_slice.ensures ∙ same)))
      | else-place-rows-via-else-place-rows w ↦ other c.args.key.now c.args.rows.now ((c.args.key.now, c.args.key.now)) _ c.place_of-place.ensures (λ h same. omega (arith, h, w.if-place-rows.false))
    ]
