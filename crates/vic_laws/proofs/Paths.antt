-- What holds of every standing, and of every entry of a path.
use Rattle.std.specs.Prelude.{◌≡◌, ℕ, ◌⊎◌, List, [], ◌∷◌, suc, zero, drop}
use Rattle.std.specs.List.{AllByRecursion}
use Rattle.std.proofs.Common.{refl, ap, subst, sym, inl, inr}
use Rattle.std.proofs.lemmas.Bool.{cases_eq}
use Rattle.vic_dict.specs.declared.op.Entry.{Entry}
use Rattle.vic_dict.specs.Lists.{IsIn, front}
use Rattle.vic_wire.specs.Hashes.{Group, chain}
use Rattle.vic_wire.specs.Messages.{IsEntry}
use Rattle.vic_rules.specs.declared.trace.Input.{Input}
use Rattle.vic_rules.specs.declared.trace.TraceStep.{TraceStep}
use Rattle.vic_rules.specs.Client.{Standing, Move, at_start, step, MayStep}
use Rattle.vic_rules.specs.History.{standing, path, move_of, AreSteps}
use Rattle.vic_rules.specs.Trust.{chain_texts, IsListed, of_genesis, of_path, Collides}
use Rattle.vic_laws.proofs.Words.{all_append}
use Rattle.vic_laws.proofs.Steps.{Kind, is_quiet, is_called, is_replied, is_updated, is_listed}
use Rattle.vic_laws.proofs.StepKinds.{step_kind}
use Rattle.vic_laws.proofs.Standings.{standing_moved, standing_kept}
use Rattle.vic_laws.proofs.Chains.{TwoTexts, told_by_chain}

-- what holds at the start and is kept by each step holds of every standing
pub at_each_standing : (g : Group) (P : ℕ → Standing → Type 0) → ((me : ℕ) → P me at_start) → ((me : ℕ) (s : Standing) (i : Input) → MayStep g s i → P me s → P me (step g me s i).next)
    → (h : List TraceStep) → AreSteps g h → (me : ℕ) → P me (standing g me h)
unfolding standing
at_each_standing g P first kept [] steps me = first me
at_each_standing g P first kept (x ∷ past) steps me = elim (cases_eq x.client me) [
  | inl mine ↦ subst (P me) (sym (standing_moved g me x past mine)) (moved mine (at_each_standing g P first kept past steps.0 x.client))
  | inr else ↦ subst (P me) (sym (standing_kept g me x past else)) (at_each_standing g P first kept past steps.0 me)
]
  where
    moved : x.client ≡ me → P x.client (standing g x.client past) → P me (move_of g past x).next
    moved mine p = subst (λ j. P j (move_of g past x).next) mine (kept x.client (standing g x.client past) x.input steps.1.may p)

pub all_drop : {X : Type 0} (P : X → Type 0) (n : ℕ) (xs : List X) → AllByRecursion P xs → AllByRecursion P (drop n xs)
all_drop P zero xs a = a
all_drop P (suc n) [] a = tt
all_drop P (suc n) (x ∷ xs) a = all_drop P n xs a.1

-- the texts of a rest of a path are among those of the path
pub texts_drop : (g : Group) (P : List ℕ → Type 0) (n : ℕ) (p : List Entry) → AllByRecursion P (chain_texts g p) → AllByRecursion P (chain_texts g (drop n p))
texts_drop g P zero p a = a
texts_drop g P (suc n) [] a = tt
texts_drop g P (suc n) (x ∷ p) a = texts_drop g P n p a.1

pub all_from_in : {X : Type 0} (P : X → Type 0) (xs : List X) → ((x : X) → IsIn xs x → P x) → AllByRecursion P xs
all_from_in P [] f = tt
all_from_in P (x ∷ xs) f = (f x (inl refl), all_from_in P xs (λ y i. f y (inr i)))

-- the texts along a client's path are listed
pub path_listed : (g : Group) (h : List TraceStep) (me : ℕ) → AllByRecursion (IsListed g h) (chain_texts g (path g me h))
path_listed g h me = all_from_in (IsListed g h) (chain_texts g (path g me h)) (λ t i. of_path me i)

pub collides_from : (g : Group) (h : List TraceStep) → TwoTexts (IsListed g h) → Collides g h
collides_from g h two = record { one = two.0; other = two.1; one_listed = two.2; other_listed = two.3; differ = two.4; same_hash = two.5 }

spelled_kept : (g : Group) (me : ℕ) (s : Standing) (i : Input) (v : Move) → Kind g me s i v → AllByRecursion IsEntry s.path → AllByRecursion IsEntry v.next.path
spelled_kept g me s i v (is_quiet k) a = subst (AllByRecursion IsEntry) (sym k.path) a
spelled_kept g me s i v (is_called k) a = subst (AllByRecursion IsEntry) (ap (λ w. w.next.path) (sym k.moved)) a
spelled_kept g me s i v (is_replied k) a = subst (AllByRecursion IsEntry) (ap (λ w. w.next.path) (sym k.moved)) (k.arrived.spelled.0, all_append IsEntry k.others s.path k.arrived.spelled.1 a)
spelled_kept g me s i v (is_updated k) a = subst (AllByRecursion IsEntry) (ap (λ w. w.next.path) (sym k.moved)) a
spelled_kept g me s i v (is_listed k) a = subst (AllByRecursion IsEntry) (ap (λ w. w.next.path) (sym k.moved)) (all_append IsEntry k.others s.path k.arrived.spelled a)

-- each entry of a path has a spelling
pub path_spelled : (g : Group) (h : List TraceStep) → AreSteps g h → (me : ℕ) → AllByRecursion IsEntry (path g me h)
path_spelled g h steps me = at_each_standing g (λ j s. AllByRecursion IsEntry s.path) (λ j. tt) (λ j s i may a. spelled_kept g j s i (step g j s i) (step_kind g j s i may) a) h steps me

-- two fronts of paths of one hash are equal, or two listed texts have one hash
pub hashes_tell_paths : (g : Group) (h : List TraceStep) → AreSteps g h → (i j m n : ℕ) → chain g (front m (path g i h)) ≡ chain g (front n (path g j h))
    → (front m (path g i h) ≡ front n (path g j h)) ⊎ Collides g h
hashes_tell_paths g h steps i j m n e =
    ended (told_by_chain g (IsListed g h) (of_genesis refl) (front m (path g i h)) (front n (path g j h))
    (all_drop IsEntry _ (path g i h) (path_spelled g h steps i)) (all_drop IsEntry _ (path g j h) (path_spelled g h steps j))
    (texts_drop g (IsListed g h) _ (path g i h) (path_listed g h i)) (texts_drop g (IsListed g h) _ (path g j h) (path_listed g h j)) e)
  where
    ended : (front m (path g i h) ≡ front n (path g j h)) ⊎ TwoTexts (IsListed g h) → (front m (path g i h) ≡ front n (path g j h)) ⊎ Collides g h
    ended (inl x) = inl x
    ended (inr two) = inr (collides_from g h two)
