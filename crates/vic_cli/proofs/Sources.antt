-- What is told of a source that was read.
use Rattle.std.proofs.Common.{◌≡◌, ℕ, List, [], ◌∷◌, ◌++◌, Option, Some, None, refl, ap, subst, ◌∙◌, append-nil, arith}
use Rattle.vic_ports.specs.Causes.{LeavesBehind, IsSpent}
use Rattle.vic_ports.specs.InputGives.{TakesAtMost, most_taken}
use Rattle.vic_cli.specs.Output.{Taken}

-- what was read to the end is the script
pub told_whole : (t : Taken) (script : List ℕ) → LeavesBehind script t.old t.new → IsSpent t.new → (other : List ℕ) → t.old ≡ Some other → other ≡ script
told_whole t script left spent other told =
    let took : LeavesBehind script (Some other) t.new = subst (λ (o : Option (List ℕ)). LeavesBehind script o t.new) told left in
    let none : took.0 ≡ [] = nothing took.0 (subst (λ (o : Option (List ℕ)). IsSpent o) took.1 spent) in
    took.2 ∙ ap (λ (l : List ℕ). script ++ l) none ∙ append-nil script
  where
    nothing : (rest : List ℕ) → IsSpent (Some rest) → rest ≡ []
    nothing [] spent = refl
    nothing (b ∷ rest) spent = absurd cc

-- nothing was taken
pub takes_nothing : (old : Option (List ℕ)) → TakesAtMost most_taken old old
takes_nothing None = ([], (omega arith, refl))
takes_nothing (Some bytes) = ([], (omega arith, (bytes, refl, refl)))
