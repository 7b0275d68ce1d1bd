-- Where clients stand as a history grows by a step.
use Rattle.std.specs.Prelude.{◌≡◌, ℕ, List, [], ◌∷◌, ◌++◌, if◌then◌else◌}
use Rattle.std.proofs.Common.{ap, sym, ◌∙◌}
use Rattle.std.proofs.lemmas.Bool.{eq-eqb, ne_eqb}
use Rattle.vic_wire.specs.Hashes.{Group}
use Rattle.vic_rules.specs.declared.trace.TraceStep.{TraceStep}
use Rattle.vic_rules.specs.Client.{step}
use Rattle.vic_rules.specs.History.{standing, move_of, AreSteps}

-- the client of the step stands where its move leads
pub standing_moved : (g : Group) (me : ℕ) (x : TraceStep) (past : List TraceStep) → x.client ≡ me → standing g me (x ∷ past) ≡ (move_of g past x).next
unfolding standing
standing_moved g me x past e =
    ap (λ b. if b then (step g me (standing g me past) x.input).next else standing g me past) (eq-eqb x.client me e)
    ∙ ap (λ i. (step g i (standing g i past) x.input).next) (sym e)

-- every other client stands where it stood
pub standing_kept : (g : Group) (me : ℕ) (x : TraceStep) (past : List TraceStep) → (x.client ≡ me → ⊥) → standing g me (x ∷ past) ≡ standing g me past
unfolding standing
standing_kept g me x past e = ap (λ b. if b then (step g me (standing g me past) x.input).next else standing g me past) (ne_eqb x.client me e)

-- the steps of an earlier history
pub earlier_steps : (g : Group) (later past : List TraceStep) → AreSteps g (later ++ past) → AreSteps g past
earlier_steps g [] past s = s
earlier_steps g (x ∷ later) past s = earlier_steps g later past s.0
