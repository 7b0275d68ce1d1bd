-- Where two lists part by a test of their items; and the rows of lengths that are known, one for each line before the next one.
use Rattle.std.proofs.Common.{◌≡◌, ℕ, zero, suc, ◌+◌, ◌-◌, ◌<◌, ◌≤◌, Bool, true, false, List, [], ◌∷◌, length, map, take, drop, get_or, if◌then◌else◌, Some, refl, sym, ◌∙◌, ap, subst, arith, Decides, true≢false, bytes_eq}
use Rattle.std.specs.Prelude.{slice_get}
use Rattle.std.specs.Cmp.Lexicographic.{pointwise}
use Rattle.std.specs.Option.{option_map}
use Rattle.std.proofs.lemmas.Bool.{and_parts, and_from, eqb-true}
use Rattle.std.proofs.lemmas.Bool.Decides.{Decides-eqb, same_from_decides}
use Rattle.std.proofs.lemmas.List.{length-map, get_or-map, take_rest}
use Rattle.std.proofs.lemmas.Option.{slice_get-map, get_or_from_slice_get}
use Rattle.std.proofs.lemmas.Slice.Eq.{bytes_eq-Decides, slice_eq-Decides}
use Rattle.vic_dict.specs.declared.op.Answer.{Answer}
use Rattle.vic_dict.specs.declared.op.Answer.TheVariants as answer
use Rattle.vic_dict.specs.declared.op.Outcome.{Outcome}
use Rattle.vic_dict.specs.declared.op.Outcome.TheVariants as outcome
use Rattle.vic_dict.specs.declared.op.Entry.{Entry}
use Rattle.vic_rules.specs.declared.trace.Shown.{Shown}
use Rattle.vic_rules.specs.Client.{same_entry}
use Rattle.vic_script.specs.Print.{same_answer, same_outcome, same_shown, agreement}
use Rattle.vic_laws.proofs.SameOp.{same_entry-Decides}
use Rattle.vic_view.specs.declared.replay.Place.{Place}
use Rattle.vic_view.specs.declared.replay.ClientPath.{ClientPath}
use Rattle.vic_view.specs.Replay.{common_length}
use Rattle.vic_view.specs.Together.{IsNested, IsSymmetric, IsRowBy, row_of, rows_of}

-- ---- where two lists part

-- how many items of two lists pass the test at their front
abbrev pub parting : {X : Type 0} → (X → X → Bool) → List X → List X → ℕ
parting same [] w = 0
parting same (x ∷ v) [] = 0
parting same (x ∷ v) (y ∷ w) = if same x y then parting same v w + 1 else 0

-- the test tells whether what stands in the items is equal
abbrev pub Tells : {X Y : Type 0} → (X → X → Bool) → (X → Y) → Type 0
Tells {X} {Y} same of = (x y : X) → Decides (same x y) (of x ≡ of y)

parting_turned : {X Y : Type 0} (same : X → X → Bool) (of : X → Y) → Tells same of → (v w : List X) → parting same v w ≡ parting same w v
parting_turned same of tells [] [] = refl
parting_turned same of tells [] (y ∷ w) = refl
parting_turned same of tells (x ∷ v) [] = refl
parting_turned {X} {Y} same of tells (x ∷ v) (y ∷ w) =
    let turned : same x y ≡ same y x =
    same_from_decides (same x y) (same y x) (tells x y) (λ e. sym ((tells y x).0 e), λ e. (tells y x).1 (sym e)) in
    ap (λ (b : Bool). if b then parting same v w + 1 else 0) turned ∙ ap (λ (n : ℕ). if same y x then n + 1 else 0) (parting_turned same of tells v w)

go_on : {X : Type 0} (same : X → X → Bool) (x y : X) (v w : List X) (n : ℕ) → suc n ≤ parting same (x ∷ v) (y ∷ w) → (same x y ≡ true) × (n ≤ parting same v w)
go_on {X} same x y v w n le = by_test (same x y) refl le
  where
    by_test : (b : Bool) → same x y ≡ b → suc n ≤ (if b then parting same v w + 1 else 0) → (same x y ≡ true) × (n ≤ parting same v w)
    by_test true e le = (e, omega arith)
    by_test false e le = absurd (omega arith)

goes_on : {X : Type 0} (same : X → X → Bool) (x y : X) (v w : List X) (n : ℕ) → same x y ≡ true → n ≤ parting same v w → suc n ≤ parting same (x ∷ v) (y ∷ w)
goes_on {X} same x y v w n e le = subst (λ (b : Bool). suc n ≤ (if b then parting same v w + 1 else 0)) (sym e) (omega arith)

parting_nested : {X Y : Type 0} (same : X → X → Bool) (of : X → Y) → Tells same of → (n : ℕ) (a b c : List X) → n ≤ parting same a b → n ≤ parting same b c → n ≤ parting same a c
parting_nested same of tells zero a b c first second = omega arith
parting_nested same of tells (suc n) [] b c first second = absurd (omega arith)
parting_nested same of tells (suc n) (x ∷ a) [] c first second = absurd (omega arith)
parting_nested same of tells (suc n) (x ∷ a) (y ∷ b) [] first second = absurd (omega arith)
parting_nested same of tells (suc n) (x ∷ a) (y ∷ b) (z ∷ c) first second =
    let one = go_on same x y a b n first in
    let two = go_on same y z b c n second in
    goes_on same x z a c n ((tells x z).1 ((tells x y).0 one.0 ∙ (tells y z).0 two.0)) (parting_nested same of tells n a b c one.1 two.1)

parting_within : {X : Type 0} (same : X → X → Bool) (v w : List X) → (parting same v w ≤ length v) × (parting same v w ≤ length w)
parting_within same [] w = (omega arith, omega arith)
parting_within same (x ∷ v) [] = (omega arith, omega arith)
parting_within {X} same (x ∷ v) (y ∷ w) = by_test (same x y) (parting same v w) (parting_within same v w)
  where
    by_test : (b : Bool) (n : ℕ) → (n ≤ length v) × (n ≤ length w) → ((if b then n + 1 else 0) ≤ suc (length v)) × ((if b then n + 1 else 0) ≤ suc (length w))
    by_test true n le = let one : n ≤ length v = le.0 in let two : n ≤ length w = le.1 in (omega arith, omega arith)
    by_test false n le = (omega arith, omega arith)

-- beyond what is known to be the same, the rest of both is compared
parting_beyond : {X : Type 0} (same : X → X → Bool) (n : ℕ) (v w : List X) → n ≤ parting same v w → n + parting same (drop n v) (drop n w) ≡ parting same v w
parting_beyond same zero v w le = omega arith
parting_beyond same (suc n) [] w le = absurd (omega arith)
parting_beyond same (suc n) (x ∷ v) [] le = absurd (omega arith)
parting_beyond same (suc n) (x ∷ v) (y ∷ w) le =
    let goes = go_on same x y v w n le in
    let rest : n + parting same (drop n v) (drop n w) ≡ parting same v w = parting_beyond same n v w goes.1 in
    let more : suc n + parting same (drop n v) (drop n w) ≡ parting same v w + 1 = omega (arith, rest) in
    more ∙ sym (ap (λ (b : Bool). if b then parting same v w + 1 else 0) goes.0)

-- what is common to two lists is within each
pub up_to : {X : Type 0} (n m : ℕ) (v xs : List X) → n ≤ m → m ≤ length v → xs ≡ v → n ≤ length xs
up_to n m v xs known within e = let same : length xs ≡ length v = ap length e in omega arith

-- ---- paths

same_place : Place → Place → Bool
same_place x y = same_entry x.entry y.entry

place_tells : Tells same_place (λ (p : Place). p.entry)
unfolding same_place
place_tells x y = same_entry-Decides x.entry y.entry

common_is : (a b : List Place) → common_length a b ≡ parting same_place a b
unfolding same_place
common_is [] b = refl
common_is (x ∷ a) [] = refl
common_is (x ∷ a) (y ∷ b) = ap (λ (n : ℕ). if same_entry x.entry y.entry then n + 1 else 0) (common_is a b)

pub common_within : (a b : List Place) → (common_length a b ≤ length a) × (common_length a b ≤ length b)
common_within a b =
    let within = parting_within same_place a b in
    (subst (λ (k : ℕ). k ≤ length a) (sym (common_is a b)) within.0, subst (λ (k : ℕ). k ≤ length b) (sym (common_is a b)) within.1)

pub common_beyond : (n rest : ℕ) (a b : List Place) → n ≤ common_length a b → rest ≡ common_length (take (length a - n) (drop n a)) (take (length b - n) (drop n b)) → n + rest ≡ common_length a b
common_beyond n rest a b le e =
    let left : rest ≡ common_length (drop n a) (drop n b) =
    e ∙ ap (λ (x : List Place). common_length x (take (length b - n) (drop n b))) (take_rest a n) ∙ ap (common_length (drop n a)) (take_rest b n) in
    ap (λ (k : ℕ). n + k) (left ∙ common_is (drop n a) (drop n b))
    ∙ parting_beyond same_place n a b (subst (λ (k : ℕ). n ≤ k) (common_is a b) le) ∙ sym (common_is a b)

abbrev pub common_places : ClientPath → ClientPath → ℕ
common_places a b = common_length a.places b.places

pub paths_nested : IsNested common_places
paths_nested n a b c first second =
    subst (λ (k : ℕ). n ≤ k) (sym (common_is a.places c.places))
    (parting_nested same_place (λ (p : Place). p.entry) place_tells n a.places b.places c.places
    (subst (λ (k : ℕ). n ≤ k) (common_is a.places b.places) first) (subst (λ (k : ℕ). n ≤ k) (common_is b.places c.places) second))

pub paths_symmetric : IsSymmetric common_places
paths_symmetric a b =
    common_is a.places b.places ∙ parting_turned same_place (λ (p : Place). p.entry) place_tells a.places b.places ∙ sym (common_is b.places a.places)

-- ---- views

names-Decides : (ks ls : List (List ℕ)) → Decides (pointwise bytes_eq ks ls) (ks ≡ ls)
names-Decides ks ls = slice_eq-Decides bytes_eq-Decides ks ls (pointwise bytes_eq ks ls) refl

answer_same : (a b : Answer) → same_answer a b ≡ true → a ≡ b
answer_same answer.Stored answer.Stored e = refl
answer_same (answer.Found v) (answer.Found w) e = ap answer.Found ((bytes_eq-Decides v w).0 e)
answer_same answer.NotFound answer.NotFound e = refl
answer_same answer.Removed answer.Removed e = refl
answer_same answer.Absent answer.Absent e = refl
answer_same (answer.Names ks) (answer.Names ls) e = ap answer.Names ((names-Decides ks ls).0 e)
answer_same _ _ e = absurd (true≢false (sym e))

answer_same_itself : (a : Answer) → same_answer a a ≡ true
answer_same_itself answer.Stored = refl
answer_same_itself (answer.Found v) = (bytes_eq-Decides v v).1 refl
answer_same_itself answer.NotFound = refl
answer_same_itself answer.Removed = refl
answer_same_itself answer.Absent = refl
answer_same_itself (answer.Names ks) = (names-Decides ks ks).1 refl

outcome_same : (o p : Outcome) → same_outcome o p ≡ true → o ≡ p
outcome_same (outcome.Done a) (outcome.Done b) e = ap outcome.Done (answer_same a b e)
outcome_same (outcome.Aborted u) (outcome.Aborted v) e = ap outcome.Aborted (eqb-true u v e)
outcome_same (outcome.Refused r) (outcome.Refused q) e = ap outcome.Refused (eqb-true r q e)
outcome_same (outcome.Halted k) (outcome.Halted l) e = ap outcome.Halted (eqb-true k l e)
outcome_same _ _ e = absurd (true≢false (sym e))

outcome_same_itself : (o : Outcome) → same_outcome o o ≡ true
outcome_same_itself (outcome.Done a) = answer_same_itself a
outcome_same_itself (outcome.Aborted u) = (Decides-eqb u u).1 refl
outcome_same_itself (outcome.Refused r) = (Decides-eqb r r).1 refl
outcome_same_itself (outcome.Halted k) = (Decides-eqb k k).1 refl

shown_parts : (a b : Entry) (o p : Outcome) → a ≡ b → o ≡ p → ◌≡◌ {A = Shown} (record { entry = a; outcome = o }) (record { entry = b; outcome = p })
shown_parts a b o p x y = cc

shown_same : (x y : Shown) → same_shown x y ≡ true → x ≡ y
shown_same x y e =
    let both = and_parts (same_entry x.entry y.entry) (same_outcome x.outcome y.outcome) e in
    shown_parts x.entry y.entry x.outcome y.outcome ((same_entry-Decides x.entry y.entry).0 both.0) (outcome_same x.outcome y.outcome both.1)

shown_same_itself : (x : Shown) → same_shown x x ≡ true
shown_same_itself x =
    and_from (same_entry x.entry x.entry) (same_outcome x.outcome x.outcome) ((same_entry-Decides x.entry x.entry).1 refl) (outcome_same_itself x.outcome)

shown_tells : Tells same_shown (λ (x : Shown). x)
shown_tells x y = (shown_same x y, λ e. subst (λ (z : Shown). same_shown x z ≡ true) e (shown_same_itself x))

agreement_is : (v w : List Shown) → agreement v w ≡ parting same_shown v w
agreement_is [] w = refl
agreement_is (x ∷ v) [] = refl
agreement_is (x ∷ v) (y ∷ w) = ap (λ (n : ℕ). if same_shown x y then n + 1 else 0) (agreement_is v w)

pub agreement_within : (v w : List Shown) → (agreement v w ≤ length v) × (agreement v w ≤ length w)
agreement_within v w =
    let within = parting_within same_shown v w in
    (subst (λ (k : ℕ). k ≤ length v) (sym (agreement_is v w)) within.0, subst (λ (k : ℕ). k ≤ length w) (sym (agreement_is v w)) within.1)

pub agreement_beyond : (n rest : ℕ) (v w : List Shown) → n ≤ agreement v w → rest ≡ agreement (take (length v - n) (drop n v)) (take (length w - n) (drop n w)) → n + rest ≡ agreement v w
agreement_beyond n rest v w le e =
    let left : rest ≡ agreement (drop n v) (drop n w) =
    e ∙ ap (λ (x : List Shown). agreement x (take (length w - n) (drop n w))) (take_rest v n) ∙ ap (agreement (drop n v)) (take_rest w n) in
    ap (λ (k : ℕ). n + k) (left ∙ agreement_is (drop n v) (drop n w))
    ∙ parting_beyond same_shown n v w (subst (λ (k : ℕ). n ≤ k) (agreement_is v w) le) ∙ sym (agreement_is v w)

pub views_nested : IsNested agreement
views_nested n a b c first second =
    subst (λ (k : ℕ). n ≤ k) (sym (agreement_is a c))
    (parting_nested same_shown (λ (x : Shown). x) shown_tells n a b c
    (subst (λ (k : ℕ). n ≤ k) (agreement_is a b) first) (subst (λ (k : ℕ). n ≤ k) (agreement_is b c) second))

pub views_symmetric : IsSymmetric agreement
views_symmetric a b = agreement_is a b ∙ parting_turned same_shown (λ (x : Shown). x) shown_tells a b ∙ sym (agreement_is b a)

-- ---- rows of lengths

some_row : {L : Type 0} (common : L → L → ℕ) (lines before : List L) (best : ℕ) (row : List ℕ) → best < length before → row ≡ get_or (map (row_of common lines) before) best row
    → (one : L) × (row ≡ row_of common lines one)
some_row common lines [] best row lt is = absurd (omega arith)
some_row common lines (one ∷ before) zero row lt is = (one, is)
some_row common lines (one ∷ before) (suc best) row lt is = some_row common lines before best row (omega arith) is

-- each row is that of some line, and tells what that line has in common with the next one
pub row_known : {L : Type 0} (common : L → L → ℕ) (lines before : List L) (rows : List (List ℕ)) (best number : ℕ) (kept row : List ℕ) (line : L) (with_line : ℕ)
    → rows ≡ map (row_of common lines) before → best < length rows → kept ≡ get_or rows best kept → row ≡ kept → slice_get lines number ≡ Some line → with_line ≡ get_or kept number 0
    → IsRowBy common lines line row with_line
row_known {L} common lines before rows best number kept row line with_line are lt is same there e =
    let size : length rows ≡ length before = ap length are ∙ length-map before (row_of common lines) in
    let known = some_row common lines before best kept (omega (arith, size)) (is ∙ ap (λ (rs : List (List ℕ)). get_or rs best kept) are) in
    let at : slice_get (row_of common lines known.0) number ≡ Some (common known.0 line) =
    slice_get-map (common known.0) lines number ∙ ap (option_map (common known.0)) there in
    (known.0, same ∙ known.1, e ∙ ap (λ (r : List ℕ). get_or r number 0) known.1 ∙ get_or_from_slice_get (row_of common lines known.0) number (common known.0 line) 0 at)

-- the row of a line among all rows
pub row_at : {L : Type 0} (common : L → L → ℕ) (lines : List L) (rows : List (List ℕ)) (i : ℕ) (line : L) (row : List ℕ) → rows ≡ rows_of common lines → i < length lines
    → line ≡ get_or lines i line → row ≡ get_or rows i row → row ≡ row_of common lines line
row_at {L} common lines rows i line row are lt is e =
    e ∙ ap (λ (rs : List (List ℕ)). get_or rs i row) are ∙ get_or-map (row_of common lines) lines i line row lt ∙ ap (row_of common lines) (sym is)

pub as_many : {L : Type 0} (common : L → L → ℕ) (lines : List L) (rows : List (List ℕ)) → rows ≡ rows_of common lines → length rows ≡ length lines
as_many {L} common lines rows are = ap length are ∙ length-map lines (row_of common lines)
