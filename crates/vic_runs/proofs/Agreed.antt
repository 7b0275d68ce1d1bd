-- The test of two shown calls finds what is equal; and the number that is printed for two views is how many calls they have in common
-- at their front, with each call that stands in both among them.
use Rattle.std.proofs.Common.{◌≡◌, ℕ, zero, suc, ◌+◌, ◌≤◌, Bool, true, false, List, [], ◌∷◌, ◌++◌, length, take, reverse, if◌then◌else◌, refl, sym, ◌∙◌, ap, subst, arith, Decides, true≢false}
use Rattle.std.specs.Cmp.Lexicographic.{pointwise}
use Rattle.std.specs.Str.{bytes_eq}
use Rattle.std.proofs.Math.Numerals.{add-one}
use Rattle.std.proofs.lemmas.Bool.{and_parts, and_from, eqb-true}
use Rattle.std.proofs.lemmas.Bool.Decides.{Decides-eqb}
use Rattle.std.proofs.lemmas.List.{reverse-append, length-reverse}
use Rattle.std.proofs.lemmas.Slice.Eq.{bytes_eq-Decides, slice_eq-Decides}
use Rattle.vic_dict.specs.declared.op.Answer.{Answer}
use Rattle.vic_dict.specs.declared.op.Answer.TheVariants as answer
use Rattle.vic_dict.specs.declared.op.Outcome.{Outcome}
use Rattle.vic_dict.specs.declared.op.Outcome.TheVariants as outcome
use Rattle.vic_dict.specs.declared.op.Entry.{Entry}
use Rattle.vic_rules.specs.declared.trace.Shown.{Shown}
use Rattle.vic_rules.specs.Client.{same_entry}
use Rattle.vic_rules.specs.Views.{view_of}
use Rattle.vic_script.specs.Print.{same_answer, same_outcome, same_shown, agreement}
use Rattle.vic_laws.proofs.Agreement.{views_agree, head_of, tail_of}
use Rattle.vic_laws.proofs.SameOp.{same_entry_tells}
use Rattle.vic_runs.specs.Agreements.{SameShownIs, BeginSame, AgreementIs, AgreementsCount}

-- ---- the test

names-Decides : (ks ls : List (List ℕ)) → Decides (pointwise bytes_eq ks ls) (ks ≡ ls)
names-Decides ks ls = slice_eq-Decides bytes_eq-Decides ks ls (pointwise bytes_eq ks ls) refl

-- two answers that pass the test are equal
answer_same : (a b : Answer) → same_answer a b ≡ true → a ≡ b
answer_same answer.Stored answer.Stored e = refl
answer_same (answer.Found v) (answer.Found w) e = ap answer.Found ((bytes_eq-Decides v w).0 e)
answer_same answer.NotFound answer.NotFound e = refl
answer_same answer.Removed answer.Removed e = refl
answer_same answer.Absent answer.Absent e = refl
answer_same (answer.Names ks) (answer.Names ls) e = ap answer.Names ((names-Decides ks ls).0 e)
answer_same _ _ e = absurd (true≢false (sym e))

-- and an answer passes it with itself
answer_same_itself : (a : Answer) → same_answer a a ≡ true
answer_same_itself answer.Stored = refl
answer_same_itself (answer.Found v) = (bytes_eq-Decides v v).1 refl
answer_same_itself answer.NotFound = refl
answer_same_itself answer.Removed = refl
answer_same_itself answer.Absent = refl
answer_same_itself (answer.Names ks) = (names-Decides ks ks).1 refl

-- so it is of outcomes
outcome_same : (o p : Outcome) → same_outcome o p ≡ true → o ≡ p
outcome_same (outcome.Done a) (outcome.Done b) e = ap outcome.Done (answer_same a b e)
outcome_same (outcome.Aborted u) (outcome.Aborted v) e = ap outcome.Aborted (eqb-true u v e)
outcome_same (outcome.Refused r) (outcome.Refused q) e = ap outcome.Refused (eqb-true r q e)
outcome_same (outcome.Halted k) (outcome.Halted l) e = ap outcome.Halted (eqb-true k l e)
outcome_same _ _ e = absurd (true≢false (sym e))

outcome_same_itself : (o : Outcome) → same_outcome o o ≡ true
outcome_same_itself (outcome.Done a) = answer_same_itself a
outcome_same_itself (outcome.Aborted u) = (Decides-eqb u u).1 refl
outcome_same_itself (outcome.Refused r) = (Decides-eqb r r).1 refl
outcome_same_itself (outcome.Halted k) = (Decides-eqb k k).1 refl

-- and of shown calls
shown_parts : (a b : Entry) (o p : Outcome) → a ≡ b → o ≡ p → ◌≡◌ {A = Shown} (record { entry = a; outcome = o }) (record { entry = b; outcome = p })
shown_parts a b o p x y = cc

shown_same : (x y : Shown) → same_shown x y ≡ true → x ≡ y
shown_same x y e =
    let both = and_parts (same_entry x.entry y.entry) (same_outcome x.outcome y.outcome) e in
    shown_parts x.entry y.entry x.outcome y.outcome ((same_entry_tells x.entry y.entry).0 both.0) (outcome_same x.outcome y.outcome both.1)

shown_same_itself : (x : Shown) → same_shown x x ≡ true
shown_same_itself x =
    and_from (same_entry x.entry x.entry) (same_outcome x.outcome x.outcome) ((same_entry_tells x.entry x.entry).1 refl) (outcome_same_itself x.outcome)

-- the test of two shown calls finds what is equal, and nothing else
pub same_shown_tells : SameShownIs
same_shown_tells x y = (shown_same x y, λ e. subst (λ (z : Shown). same_shown x z ≡ true) e (shown_same_itself x))

-- ---- what is counted

one_more : (x y : Shown) (v w : List Shown) (n : ℕ) → x ≡ y → BeginSame n v w → BeginSame (suc n) (x ∷ v) (y ∷ w)
one_more x y v w n e b = record {
  first = let le : n ≤ length v = b.first in omega arith;
  second = let le : n ≤ length w = b.second in omega arith;
  same = let rest : take n v ≡ take n w = b.same in cc;
}

begin_more : (x y : Shown) (v w : List Shown) (n : ℕ) (same : Bool) → same_shown x y ≡ same → BeginSame n v w → BeginSame (if same then n + 1 else 0) (x ∷ v) (y ∷ w)
begin_more x y v w n true e b = subst (λ (k : ℕ). BeginSame k (x ∷ v) (y ∷ w)) (sym (add-one n)) (one_more x y v w n (shown_same x y e) b)
begin_more x y v w n false e b = record { first = omega arith; second = omega arith; same = refl }

-- two lists have as many calls in common at their front
agreement_begins : (v w : List Shown) → BeginSame (agreement v w) v w
agreement_begins [] w = record { first = omega arith; second = omega arith; same = refl }
agreement_begins (x ∷ v) [] = record { first = omega arith; second = omega arith; same = refl }
agreement_begins (x ∷ v) (y ∷ w) = begin_more x y v w (agreement v w) (same_shown x y) refl (agreement_begins v w)

agreement_same : (x y : Shown) (v w : List Shown) → x ≡ y → agreement (x ∷ v) (y ∷ w) ≡ agreement v w + 1
agreement_same x y v w e = ap (λ (same : Bool). if same then agreement v w + 1 else 0) ((same_shown_tells x y).1 e)

-- and no more
agreement_most : (v w : List Shown) (n : ℕ) → BeginSame n v w → n ≤ agreement v w
agreement_most v w zero b = omega arith
agreement_most [] w (suc n) b = let le : suc n ≤ zero = b.first in absurd (omega arith)
agreement_most (x ∷ v) [] (suc n) b = let le : suc n ≤ zero = b.second in absurd (omega arith)
agreement_most (x ∷ v) (y ∷ w) (suc n) b =
    let both : x ∷ take n v ≡ y ∷ take n w = b.same in
    let first : suc n ≤ suc (length v) = b.first in
    let second : suc n ≤ suc (length w) = b.second in
    let below : n ≤ agreement v w =
    agreement_most v w n (record { first = omega arith; second = omega arith; same = tail_of x y (take n v) (take n w) both }) in
    let counted : agreement (x ∷ v) (y ∷ w) ≡ agreement v w + 1 = agreement_same x y v w (head_of x y (take n v) (take n w) both) in
    omega arith

pub agreement_tells : AgreementIs
agreement_tells v w = (agreement_begins v w, agreement_most v w)

-- ---- the calls that stand in both views

-- a common front is counted whole
counts_front : (f v w : List Shown) → length f ≤ agreement (f ++ v) (f ++ w)
counts_front [] v w = omega arith
counts_front (x ∷ f) v w =
    let below : length f ≤ agreement (f ++ v) (f ++ w) = counts_front f v w in
    let counted : agreement (x ∷ f ++ v) (x ∷ f ++ w) ≡ agreement (f ++ v) (f ++ w) + 1 = agreement_same x x (f ++ v) (f ++ w) refl in
    omega arith

-- two lists that end alike have this end's length in common at their front, once they are turned round
counts_end : (v w newer1 newer2 end : List Shown) → v ≡ newer1 ++ end → w ≡ newer2 ++ end → length end ≤ agreement (reverse v) (reverse w)
counts_end v w newer1 newer2 end e f =
    let front : length (reverse end) ≤ agreement (reverse end ++ reverse newer1) (reverse end ++ reverse newer2) =
    counts_front (reverse end) (reverse newer1) (reverse newer2) in
    let first : reverse v ≡ reverse end ++ reverse newer1 = ap reverse e ∙ reverse-append newer1 end in
    let second : reverse w ≡ reverse end ++ reverse newer2 = ap reverse f ∙ reverse-append newer2 end in
    let long : length (reverse end) ≡ length end = length-reverse end in
    rw (first, second) (omega arith)

-- each call that stands in both views stands within the number that is printed
pub agreements_reach : AgreementsCount
agreements_reach g h lawful i j x y newer1 older1 newer2 older2 e f same =
    let ends : x ∷ older1 ≡ y ∷ older2 = views_agree g h lawful i j x y newer1 older1 newer2 older2 e f same in
    counts_end (view_of g i h) (view_of g j h) newer1 newer2 (x ∷ older1) e (f ∙ ap (λ (end : List Shown). newer2 ++ end) (sym ends))
