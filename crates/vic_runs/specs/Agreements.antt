-- The laws of the numbers that the print gives for each two views.
use Rattle.std.specs.Prelude.{◌≡◌, ◌↔◌, ℕ, ◌≤◌, true, List, ◌∷◌, ◌++◌, length, take, reverse}
use Rattle.vic_wire.specs.Hashes.{Group}
use Rattle.vic_rules.specs.declared.trace.TraceStep.{TraceStep}
use Rattle.vic_rules.specs.declared.trace.Shown.{Shown}
use Rattle.vic_rules.specs.History.{IsLawful}
use Rattle.vic_rules.specs.Views.{view_of, IsSameCall}
use Rattle.vic_script.specs.Print.{same_shown, agreement}

-- two shown calls pass the test exactly where they are equal, outcomes included
abbrev pub SameShownIs : Type 0
SameShownIs = (x y : Shown) → (same_shown x y ≡ true) ↔ (x ≡ y)

-- two lists have n calls or more each, and the same first n
pub record BeginSame (n : ℕ) (v w : List Shown) : Type 0 where
  pub first : n ≤ length v
  pub second : n ≤ length w
  pub same : take n v ≡ take n w

-- the number that is printed is the greatest n of which this holds
abbrev pub AgreementIs : Type 0
AgreementIs = (v w : List Shown) → BeginSame (agreement v w) v w × ((n : ℕ) → BeginSame n v w → n ≤ agreement v w)

-- each call that stands in two clients' views stands within the number that is printed for the two
abbrev pub AgreementsCountIn : Group → List TraceStep → Type 0
AgreementsCountIn g h = (i j : ℕ) (x y : Shown) (newer1 older1 newer2 older2 : List Shown) → view_of g i h ≡ newer1 ++ x ∷ older1 → view_of g j h ≡ newer2 ++ y ∷ older2
    → IsSameCall x.entry y.entry → length (x ∷ older1) ≤ agreement (reverse (view_of g i h)) (reverse (view_of g j h))

abbrev pub AgreementsCount : Type 0
AgreementsCount = (g : Group) (h : List TraceStep) → IsLawful g h → AgreementsCountIn g h
