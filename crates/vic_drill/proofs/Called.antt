-- How often a client has called, step by step.
use Rattle.std.proofs.Common.{ℕ, ◌+◌, ◌≤◌, List, ◌∷◌, inl, inr, refl, sym, ap, subst, arith}
use Rattle.std.proofs.lemmas.Bool.{cases_eq}
use Rattle.vic_wire.specs.Hashes.{Group}
use Rattle.vic_rules.specs.declared.trace.Input.{Input}
use Rattle.vic_rules.specs.declared.trace.TraceStep.{TraceStep}
use Rattle.vic_rules.specs.Client.{Standing, Move}
use Rattle.vic_rules.specs.History.{standing, AreSteps}
use Rattle.vic_laws.proofs.Steps.{Kind, is_quiet, is_called, is_replied, is_updated, is_listed}
use Rattle.vic_laws.proofs.Standings.{standing_moved, standing_kept}
use Rattle.vic_laws.proofs.Calls.{kind_of}

called-by : {g : Group} {me : ℕ} {s : Standing} {i : Input} {v : Move} → Kind g me s i v → v.next.calls ≤ s.calls + 1
called-by (is_quiet q) = omega (arith, q.calls)
called-by (is_called c) = omega (arith, ap (λ m. m.next.calls) c.moved)
called-by (is_replied r) = omega (arith, ap (λ m. m.next.calls) r.moved)
called-by (is_updated u) = omega (arith, ap (λ m. m.next.calls) u.moved)
called-by (is_listed l) = omega (arith, ap (λ m. m.next.calls) l.moved)

-- a step calls at most once
pub called-step : (g : Group) (past : List TraceStep) (x : TraceStep) → AreSteps g (x ∷ past) → (j : ℕ) → (standing g j (x ∷ past)).calls ≤ (standing g j past).calls + 1
called-step g past x steps j =
    elim (cases_eq x.client j) [
      | inl e ↦ subst (λ k. (standing g k (x ∷ past)).calls ≤ (standing g k past).calls + 1) e
          (subst (λ t. t.calls ≤ (standing g x.client past).calls + 1) (sym (standing_moved g x.client x past refl)) (called-by (kind_of g past x steps.1)))
      | inr apart ↦ subst (λ t. t.calls ≤ (standing g j past).calls + 1) (sym (standing_kept g j x past apart)) (omega arith)
    ]
