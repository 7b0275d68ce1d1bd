-- Which entry is in the way, and the own calls that are done again.
use Rattle.std.proofs.Common.{◌≡◌, ℕ, zero, suc, ◌+◌, ◌-◌, ◌<◌, ◌≤◌, List, [], ◌∷◌, length, drop, Bool, true, false, ◌&&◌, Option, Some, None, refl, sym, ap, ◌∙◌, arith, length-drop, nat_lt}
use Rattle.std.specs.Prelude.{slice_get, if◌then◌else◌}
use Rattle.std.specs.List.{filter, fold}
use Rattle.std.proofs.lemmas.Bool.{le-ltb, lt-ltb}
use Rattle.vic_dict.specs.declared.op.Entry.{Entry}
use Rattle.vic_dict.specs.Lists.{front, newest}
use Rattle.vic_dict.specs.Dictionary.{Dictionary, reply}
use Rattle.vic_dict.specs.declared.op.Op.{Op}
use Rattle.vic_dict.specs.declared.op.Answer.{Answer}
use Rattle.vic_dict.specs.declared.op.Outcome.TheVariants as outcome
use Rattle.vic_wire.specs.Parts.{Part, walked}
use Rattle.vic_rules.specs.declared.state.Own.{Own}
use Rattle.vic_rules.specs.Client.{Standing, least_above, or_this, in_the_way, own_calls_over, done_op, decided_outcome, decision}
use Rattle.vic_checks.proofs.Walks.{drop-at}

-- ---- fronts

newest_drop : (k : ℕ) (q : List Entry) (e : Entry) → newest (drop k q) ≡ Some e → drop k q ≡ e ∷ drop (suc k) q
newest_drop zero [] e h = cc h
newest_drop zero (x ∷ q) e h = cc h
newest_drop (suc k) [] e h = cc h
newest_drop (suc k) (x ∷ q) e h = newest_drop k q e h

-- the newest entry of a front stands on the front below it
front_tip : (n : ℕ) (q : List Entry) (e : Entry) → suc n ≤ length q → newest (front (suc n) q) ≡ Some e → front (suc n) q ≡ e ∷ front n q
front_tip n q e le h = newest_drop (length q - suc n) q e h ∙ ap (λ (k : ℕ). e ∷ drop k q) (one_less (length q) n le)
  where
    one_less : (m n : ℕ) → suc n ≤ m → suc (m - suc n) ≡ m - n
    one_less m n h = omega arith

pub length-front : (n : ℕ) (q : List Entry) → n ≤ length q → length (front n q) ≡ n
length-front n q h = omega (arith, length-drop (length q - n) q)

-- ---- the least position

-- no position is above base on a short path
pub least_low : (base : ℕ) (test : ℕ → Entry → Bool) (p : List Entry) → length p ≤ base → least_above base test p ≡ None
unfolding least_above
least_low base test [] h = refl
least_low base test (e ∷ p) h =
    ap (λ (o : Option ℕ). or_this o (if nat_lt base (length (e ∷ p)) && test (length (e ∷ p)) e then Some (length (e ∷ p)) else None)) (least_low base test p (omega arith))
    ∙ ap (λ (b : Bool). if b && test (length (e ∷ p)) e then Some (length (e ∷ p)) else None) (le-ltb base (length (e ∷ p)) h)

least_cons : (base : ℕ) (test : ℕ → Entry → Bool) (e : Entry) (p : List Entry) → least_above base test p ≡ None
    → least_above base test (e ∷ p) ≡ (if nat_lt base (length (e ∷ p)) && test (length (e ∷ p)) e then Some (length (e ∷ p)) else None)
unfolding least_above
least_cons base test e p h =
    ap (λ (o : Option ℕ). or_this o (if nat_lt base (length (e ∷ p)) && test (length (e ∷ p)) e then Some (length (e ∷ p)) else None)) h

-- an entry more that the test doesn't find
pub least_none : (base : ℕ) (test : ℕ → Entry → Bool) (n : ℕ) (q : List Entry) (e : Entry) → suc n ≤ length q → newest (front (suc n) q) ≡ Some e
    → least_above base test (front n q) ≡ None → test (suc n) e ≡ false → least_above base test (front (suc n) q) ≡ None
least_none base test n q e le tip below fails =
    ap (least_above base test) (front_tip n q e le tip)
    ∙ least_cons base test e (front n q) below
    ∙ ap (λ (k : ℕ). if nat_lt base (length (e ∷ front n q)) && test k e then Some (length (e ∷ front n q)) else None) (ap suc (length-front n q (omega arith)))
    ∙ ap (λ (b : Bool). if nat_lt base (length (e ∷ front n q)) && b then Some (length (e ∷ front n q)) else None) fails
    ∙ neither (nat_lt base (length (e ∷ front n q))) (Some (length (e ∷ front n q)))
  where
    neither : (b : Bool) (o : Option ℕ) → (if b && false then o else None) ≡ None
    neither true o = refl
    neither false o = refl

-- an entry that the test finds
pub least_found : (base : ℕ) (test : ℕ → Entry → Bool) (n : ℕ) (q : List Entry) (e : Entry) → suc n ≤ length q → newest (front (suc n) q) ≡ Some e
    → base < suc n → least_above base test (front n q) ≡ None → test (suc n) e ≡ true → least_above base test (front (suc n) q) ≡ Some (suc n)
least_found base test n q e le tip lt below found =
    let len : length (e ∷ front n q) ≡ suc n = ap suc (length-front n q (omega arith)) in
    ap (least_above base test) (front_tip n q e le tip)
    ∙ least_cons base test e (front n q) below
    ∙ ap (λ (k : ℕ). if nat_lt base k && test k e then Some k else None) len
    ∙ ap (λ (b : Bool). if b && test (suc n) e then Some (suc n) else None) (lt-ltb base (suc n) lt)
    ∙ ap (λ (b : Bool). if b then Some (suc n) else None) found

-- what was found stays found as the path grows
pub least_kept : (base : ℕ) (test : ℕ → Entry → Bool) (u k : ℕ) (p : List Entry) → least_above base test (drop k p) ≡ Some u → least_above base test p ≡ Some u
unfolding least_above
least_kept base test u zero p h = h
least_kept base test u (suc k) [] h = h
least_kept base test u (suc k) (e ∷ p) h =
    ap (λ (o : Option ℕ). or_this o (if nat_lt base (length (e ∷ p)) && test (length (e ∷ p)) e then Some (length (e ∷ p)) else None)) (least_kept base test u k p h)

-- a front below the whole is one of what lies below the last entry
pub front_under : (n : ℕ) (q : List Entry) → suc n ≤ length q → front n q ≡ drop (length q - suc n) (drop 1 q)
front_under n [] h = absurd (omega arith)
front_under n (x ∷ q) h = ap (λ (k : ℕ). drop k (x ∷ q)) (one_more (length q) n (omega arith))
  where
    one_more : (m n : ℕ) → n ≤ m → suc m - n ≡ suc (suc m - suc n)
    one_more m n h = omega arith

-- ---- own calls

-- the first of those that are left is done again where it stands above base
pub laid_more : (own : List Own) (i base : ℕ) (d d2 : Dictionary) (x : Own) → slice_get own i ≡ Some x
    → d2 ≡ (if nat_lt base x.position then done_op d x else d) → own_calls_over (drop (i + 1) own) base d2 ≡ own_calls_over (drop i own) base d
laid_more own i base d d2 x at is =
    ap (λ (k : ℕ). own_calls_over (drop k own) base d2) (next i)
    ∙ ap (λ (y : Dictionary). own_calls_over (drop (suc i) own) base y) is
    ∙ sym (ap (λ (l : List Own). own_calls_over l base d) (drop-at own i x at) ∙ by_test (nat_lt base x.position) (filter (λ (o : Own). nat_lt base o.position) (drop (suc i) own)))
  where
    next : (i : ℕ) → i + 1 ≡ suc i
    next i = omega arith

    by_test : (b : Bool) (others : List Own) → fold done_op d (if b then x ∷ others else others) ≡ fold done_op (if b then done_op d x else d) others
    by_test true others = refl
    by_test false others = refl

-- nothing is left past the end
pub laid_end : (own : List Own) (i base : ℕ) (d : Dictionary) → length own ≤ i → own_calls_over (drop i own) base d ≡ d
laid_end [] zero base d h = refl
laid_end [] (suc i) base d h = refl
laid_end (x ∷ own) zero base d h = absurd (omega arith)
laid_end (x ∷ own) (suc i) base d h = laid_end own i base d (omega arith)

-- ---- the decision

pub aborts : (me : ℕ) (s : Standing) (below : List Entry) (base : ℕ) (part : Part) (o : Op) (u : ℕ) → Some u ≡ in_the_way me o base below
    → outcome.Aborted u ≡ decision me s below base part o
unfolding decision
aborts me s below base part o u e = ap (λ (x : Option ℕ). decided_outcome x (own_calls_over s.own base (walked part o)) o) e

pub ends_done : (me : ℕ) (s : Standing) (below : List Entry) (base : ℕ) (part : Part) (o : Op) (own : List Own) (d : Dictionary) (a : Answer)
    → None ≡ in_the_way me o base below → s.own ≡ own → d ≡ own_calls_over own base (walked part o) → a ≡ reply d o → outcome.Done a ≡ decision me s below base part o
unfolding decision
ends_done me s below base part o own d a e same is h =
    ap outcome.Done (h ∙ ap (λ (x : Dictionary). reply x o) (is ∙ ap (λ (l : List Own). own_calls_over l base (walked part o)) (sym same)))
    ∙ ap (λ (x : Option ℕ). decided_outcome x (own_calls_over s.own base (walked part o)) o) e
