-- What is shown of a path by comparing it with the other clients' paths is its view.
use Rattle.std.proofs.Common.{◌≡◌, ℕ, suc, zero, ◌+◌, ◌-◌, ◌<◌, ◌≤◌, ◌⊎◌, inl, inr, Bool, true, false, List, [], ◌∷◌, ◌++◌, length, take, reverse, Option, Some, None, nat_eq, nat_lt, if◌then◌else◌, get_or, refl, sym, ◌∙◌, ap, subst, arith, ltb-true, lt-ltb}
use Rattle.std.specs.Prelude.{slice_get}
use Rattle.std.specs.Option.{IfSome, option_map}
use Rattle.std.proofs.lemmas.Bool.{cases_eq, eq-eqb, ne_eqb}
use Rattle.std.proofs.lemmas.List.{reverse-append, reverse-reverse, append-nil, length-map, length-reverse, length-take-le, get_or_past}
use Rattle.std.proofs.lemmas.Option.{slice_get-map, slice_get_within, get_or_from_slice_get}
use Rattle.vic_dict.specs.declared.op.Entry.{Entry}
use Rattle.vic_dict.specs.declared.op.Outcome.{Outcome}
use Rattle.vic_dict.specs.Lists.{IsIn}
use Rattle.vic_wire.specs.Hashes.{Group}
use Rattle.vic_rules.specs.declared.trace.TraceStep.{TraceStep}
use Rattle.vic_rules.specs.declared.trace.Shown.{Shown}
use Rattle.vic_rules.specs.Client.{same_entry}
use Rattle.vic_rules.specs.History.{AreSteps, IsLawful, Completion, completions}
use Rattle.vic_rules.specs.Views.{confirmation, confirmed_calls, shown_as, last_prefix, view_of}
use Rattle.vic_laws.proofs.Words.{entry_same, some_same}
use Rattle.vic_laws.proofs.SameOp.{entry_same_itself}
use Rattle.vic_laws.proofs.Agreement.{confirmed_tells, confirmed_by, completion_owner}
use Rattle.vic_view.specs.declared.replay.Place.{Place}
use Rattle.vic_view.specs.declared.replay.ClientPath.{ClientPath}
use Rattle.vic_view.specs.Replay.{no_path, replayed_path, AreReplayed, common_length, path_among, places_among, lengths_with, outcome_among, outcome_of, outcome_there, shown_by, shown_place, shown_below}
use Rattle.vic_view.proofs.Fronts.{below_next}
use Rattle.vic_view.proofs.Loops.{newest_step}
use Rattle.vic_view.proofs.Replays.{entries, replayed_other}
use Rattle.vic_view.proofs.Marks.{completed_as, MarksHold, IsMarked, marks_hold, all_marked, EndsDone, done_is}

-- ---- fronts of two paths

heads_same : (x y : Entry) (v w : List Entry) → x ∷ v ≡ y ∷ w → x ≡ y
heads_same x y v w e = cc

tails_same : (x y : Entry) (v w : List Entry) → x ∷ v ≡ y ∷ w → v ≡ w
tails_same x y v w e = cc

none_common : (n : ℕ) (v w : List Entry) → n ≤ 0 → take n v ≡ take n w
none_common n v w le = let e : zero ≡ n = omega arith in subst (λ (k : ℕ). take k v ≡ take k w) e refl

common_next : (x y : Place) (a b : List Place) (n : ℕ) (t : Bool) → same_entry x.entry y.entry ≡ t → suc n ≤ (if t then common_length a b + 1 else 0)
    → (n ≤ common_length a b → take n (entries a) ≡ take n (entries b)) → take (suc n) (entries (x ∷ a)) ≡ take (suc n) (entries (y ∷ b))
common_next x y a b n true e le rest =
    let others : take n (entries a) ≡ take n (entries b) = rest (omega arith) in
    let first : x.entry ≡ y.entry = entry_same x.entry y.entry e in
    cc
common_next x y a b n false e le rest = absurd (omega arith)

-- what is common to two paths is the same front of both
pub common_take : (a b : List Place) (n : ℕ) → n ≤ common_length a b → take n (entries a) ≡ take n (entries b)
common_take [] b n le = none_common n [] (entries b) le
common_take (x ∷ a) [] n le = none_common n (entries (x ∷ a)) [] le
common_take (x ∷ a) (y ∷ b) zero le = refl
common_take (x ∷ a) (y ∷ b) (suc n) le = common_next x y a b n (same_entry x.entry y.entry) refl le (common_take a b n)

-- and each front that is the same is common
pub take_common : (a b : List Place) (n : ℕ) → n ≤ length a → take n (entries a) ≡ take n (entries b) → n ≤ common_length a b
take_common a b zero le e = omega arith
take_common [] b (suc n) le e = absurd (omega arith)
take_common (x ∷ a) [] (suc n) le e = absurd cc
take_common (x ∷ a) (y ∷ b) (suc n) le e =
    let first : x.entry ≡ y.entry = heads_same x.entry y.entry (take n (entries a)) (take n (entries b)) e in
    let rest : n ≤ common_length a b = take_common a b n (omega arith) (tails_same x.entry y.entry (take n (entries a)) (take n (entries b)) e) in
    let test : same_entry x.entry y.entry ≡ true = subst (λ (z : Entry). same_entry x.entry z ≡ true) first (entry_same_itself x.entry) in
    subst (λ (t : Bool). suc n ≤ (if t then common_length a b + 1 else 0)) (sym test) (omega arith)

-- ---- marks by their numbers

no_place : (n : ℕ) (p : Place) → slice_get [] n ≡ Some p → ⊥
no_place n p e = absurd cc

mark_here : (cs : List Completion) (me : ℕ) (below : List Entry) (x p : Place) (o : Outcome) → x ≡ p → p.outcome ≡ Some o
    → IfSome x.outcome (λ y. IsIn cs (completed_as me (x.entry ∷ below) y)) → IsIn cs (completed_as me (p.entry ∷ below) o)
mark_here cs me below x p o e f h =
    subst (λ (z : Option Outcome). IfSome z (λ y. IsIn cs (completed_as me (p.entry ∷ below) y))) f
    (subst (λ (q : Place). IfSome q.outcome (λ y. IsIn cs (completed_as me (q.entry ∷ below) y))) e h)

-- a place that has an outcome tells a completion
pub mark_tells : (cs : List Completion) (me : ℕ) (below : List Entry) (ps : List Place) → MarksHold cs me below ps → (n : ℕ) (p : Place) (o : Outcome)
    → slice_get ps n ≡ Some p → p.outcome ≡ Some o → IsIn cs (completed_as me (p.entry ∷ (reverse (take n (entries ps)) ++ below)) o)
mark_tells cs me below [] h n p o e f = absurd (no_place n p e)
mark_tells cs me below (x ∷ ps) h zero p o e f = mark_here cs me below x p o (some_same e) f h.0
mark_tells cs me below (x ∷ ps) h (suc n) p o e f =
    subst (λ (es : List Entry). IsIn cs (completed_as me (p.entry ∷ es) o)) (below_next x.entry (take n (entries ps)) below)
    (mark_tells cs me (x.entry ∷ below) ps h.1 n p o e f)

-- a path that stands at a marked place, by the place's number
pub record MarkedAt (below : List Entry) (ps : List Place) (q : List Entry) : Type 0 where
  pub number : ℕ
  pub place : Place
  pub outcome : Outcome
  pub there : slice_get ps number ≡ Some place
  pub marked : place.outcome ≡ Some outcome
  pub is : q ≡ place.entry ∷ (reverse (take number (entries ps)) ++ below)

marked_next : (below : List Entry) (x : Place) (ps : List Place) (q : List Entry) → MarkedAt (x.entry ∷ below) ps q → MarkedAt below (x ∷ ps) q
marked_next below x ps q m = record {
  number = suc m.number;
  place = m.place;
  outcome = m.outcome;
  there = m.there;
  marked = m.marked;
  is = m.is ∙ ap (λ (es : List Entry). m.place.entry ∷ es) (below_next x.entry (take m.number (entries ps)) below);
}

pub marked_at : (below : List Entry) (ps : List Place) (q : List Entry) → IsMarked below ps q → MarkedAt below ps q
marked_at below [] q m = absurd m
marked_at below (p ∷ ps) q (inl here) = record { number = zero; place = p; outcome = here.1.0; there = refl; marked = here.1.1; is = here.0 }
marked_at below (p ∷ ps) q (inr later) = marked_next below p ps q (marked_at (p.entry ∷ below) ps q later)

-- ---- what confirms a place

-- the front with a place, the newest first
pub front_with : (ps : List Place) (n : ℕ) (p : Place) → slice_get ps n ≡ Some p → reverse (take (n + 1) (entries ps)) ≡ p.entry ∷ reverse (take n (entries ps))
front_with ps n p e =
    let there : slice_get (entries ps) n ≡ Some p.entry = slice_get-map (λ (q : Place). q.entry) ps n ∙ ap (option_map (λ (q : Place). q.entry)) e in
    newest_step (entries ps) n p.entry (slice_get_within (entries ps) n p.entry there) (sym (get_or_from_slice_get (entries ps) n p.entry p.entry there))

-- what the comparison finds
there_some : (b : Bool) (s : Option Place) (o : Outcome) → (if b then outcome_of s else None) ≡ Some o → (b ≡ true) × ((t : Place) × (s ≡ Some t) × (t.outcome ≡ Some o))
there_some true None o e = absurd cc
there_some true (Some t) o e = (refl, (t, refl, e))
there_some false s o e = absurd cc

-- an outcome that the comparison finds confirms the place
pub found_confirms : (g : Group) (h : List TraceStep) → AreSteps g h → (mine : List Place) (n : ℕ) (p : Place) → slice_get mine n ≡ Some p → (o : Outcome)
    → outcome_there mine (replayed_path p.entry.client h).places n ≡ Some o
    → confirmation (completions g h) (p.entry ∷ reverse (take n (entries mine))) ≡ Some (completed_as p.entry.client (p.entry ∷ reverse (take n (entries mine))) o)
found_confirms g h steps mine n p here o found =
    let theirs : List Place = (replayed_path p.entry.client h).places in
    let q : List Entry = p.entry ∷ reverse (take n (entries mine)) in
    let parts = there_some (nat_lt n (common_length mine theirs)) (slice_get theirs n) o found in
    let t : Place = parts.1.0 in
    let lt : n < common_length mine theirs = ltb-true n (common_length mine theirs) parts.0 in
    let fronts : take (n + 1) (entries mine) ≡ take (n + 1) (entries theirs) = common_take mine theirs (n + 1) (omega arith) in
    let same : t.entry ∷ (reverse (take n (entries theirs)) ++ []) ≡ q =
    ap (λ (es : List Entry). t.entry ∷ es) (append-nil (reverse (take n (entries theirs))))
    ∙ sym (front_with theirs n t parts.1.1) ∙ ap reverse (sym fronts) ∙ front_with mine n p here in
    let is_in : IsIn (completions g h) (completed_as p.entry.client q o) =
    subst (λ (es : List Entry). IsIn (completions g h) (completed_as p.entry.client es o)) same
    (mark_tells (completions g h) p.entry.client [] theirs (marks_hold g h steps p.entry.client) n t o parts.1.1 parts.1.2) in
    confirmed_by g h steps q (completed_as p.entry.client q o) is_in refl

there_now : (b : Bool) (s : Option Place) (t : Place) (o : Outcome) → b ≡ true → s ≡ Some t → t.outcome ≡ Some o → (if b then outcome_of s else None) ≡ Some o
there_now b s t o e f m = ap (λ (c : Bool). if c then outcome_of s else None) e ∙ ap outcome_of f ∙ m

-- and where a place is confirmed the comparison finds an outcome
pub confirmed_found : (g : Group) (h : List TraceStep) → AreSteps g h → (mine : List Place) (n : ℕ) (p : Place) → slice_get mine n ≡ Some p → (c : Completion)
    → confirmation (completions g h) (p.entry ∷ reverse (take n (entries mine))) ≡ Some c → (o : Outcome) × (outcome_there mine (replayed_path p.entry.client h).places n ≡ Some o)
confirmed_found g h steps mine n p here c is =
    let theirs : List Place = (replayed_path p.entry.client h).places in
    let q : List Entry = p.entry ∷ reverse (take n (entries mine)) in
    let tells : IsIn (completions g h) c × (c.prefix ≡ q) = confirmed_tells (completions g h) q c is in
    let owner : c.client ≡ p.entry.client = completion_owner g h steps c tells.0 p.entry (reverse (take n (entries mine))) tells.1 in
    let marked : IsMarked [] theirs q =
    subst (λ (es : List Entry). IsMarked [] theirs es) tells.1 (subst (λ (i : ℕ). IsMarked [] (replayed_path i h).places c.prefix) owner (all_marked g h steps c tells.0)) in
    let m : MarkedAt [] theirs q = marked_at [] theirs q marked in
    let their_front : q ≡ reverse (take (m.number + 1) (entries theirs)) =
    m.is ∙ ap (λ (es : List Entry). m.place.entry ∷ es) (append-nil (reverse (take m.number (entries theirs)))) ∙ sym (front_with theirs m.number m.place m.there) in
    let my_front : reverse (take (n + 1) (entries mine)) ≡ q = front_with mine n p here in
    let within : n < length mine = slice_get_within mine n p here in
    let their_within : m.number < length theirs = slice_get_within theirs m.number m.place m.there in
    let my_length : length q ≡ n + 1 =
    ap length (sym my_front) ∙ length-reverse (take (n + 1) (entries mine)) ∙ length-take-le (n + 1) (entries mine) (omega (arith, length-map mine (λ (x : Place). x.entry))) in
    let their_length : length q ≡ m.number + 1 =
    ap length their_front ∙ length-reverse (take (m.number + 1) (entries theirs)) ∙ length-take-le (m.number + 1) (entries theirs) (omega (arith, length-map theirs (λ (x : Place). x.entry))) in
    let same : m.number ≡ n = omega (arith, my_length, their_length) in
    let fronts : take (n + 1) (entries mine) ≡ take (n + 1) (entries theirs) =
    sym (reverse-reverse (take (n + 1) (entries mine))) ∙ ap reverse (my_front ∙ their_front)
    ∙ reverse-reverse (take (m.number + 1) (entries theirs)) ∙ ap (λ (k : ℕ). take (k + 1) (entries theirs)) same in
    let far : n + 1 ≤ common_length mine theirs = take_common mine theirs (n + 1) (omega arith) fronts in (
      m.outcome,
      there_now (nat_lt n (common_length mine theirs)) (slice_get theirs n) m.place m.outcome (lt-ltb n (common_length mine theirs) (omega arith))
          (ap (slice_get theirs) (sym same) ∙ m.there) m.marked,
    )

-- ---- what is shown

shown_same : (e : Entry) (c : Option Completion) (o : Option Outcome) → ((y : Outcome) → o ≡ Some y → (d : Completion) × (c ≡ Some d) × (d.outcome ≡ y))
    → ((d : Completion) → c ≡ Some d → (y : Outcome) × (o ≡ Some y)) → shown_by e o ≡ shown_as e c
shown_same e None None f k = refl
shown_same e (Some d) None f k = let y = k d refl in absurd (some_is_none y.0 y.1)
  where
    some_is_none : (y : Outcome) → ◌≡◌ {A = Option Outcome} None (Some y) → ⊥
    some_is_none y e = cc
shown_same e c (Some y) f k =
    let d = f y refl in
    ap (λ (z : Outcome). record { entry = e; outcome = z } ∷ []) (sym d.2) ∙ ap (shown_as e) (sym d.1)

-- a place shows what confirms it
pub place_shows : (g : Group) (h : List TraceStep) → AreSteps g h → (mine : List Place) (n : ℕ) (p : Place) → slice_get mine n ≡ Some p
    → shown_by p.entry (outcome_there mine (replayed_path p.entry.client h).places n) ≡ shown_as p.entry (confirmation (completions g h) (p.entry ∷ reverse (take n (entries mine))))
place_shows g h steps mine n p here =
    let q : List Entry = p.entry ∷ reverse (take n (entries mine)) in
    shown_same p.entry (confirmation (completions g h) q) (outcome_there mine (replayed_path p.entry.client h).places n)
    (λ y e. (completed_as p.entry.client q y, found_confirms g h steps mine n p here y e, refl))
    (λ d e. confirmed_found g h steps mine n p here d e)

none_within : {X : Type 0} (xs : List X) (n : ℕ) → slice_get xs n ≡ None → n < length xs → ⊥
none_within [] n e lt = omega arith
none_within (x ∷ xs) zero e lt = cc
none_within (x ∷ xs) (suc n) e lt = none_within xs n e (omega arith)

shows_next : (g : Group) (h : List TraceStep) → AreSteps g h → (paths : ℕ → List Place) → ((j : ℕ) → paths j ≡ (replayed_path j h).places) → (mine : List Place) (n : ℕ) → suc n ≤ length mine
    → shown_below paths mine n ≡ confirmed_calls (completions g h) (reverse (take n (entries mine))) → (s : Option Place) → slice_get mine n ≡ s
    → shown_place paths mine n s ++ shown_below paths mine n ≡ confirmed_calls (completions g h) (reverse (take (n + 1) (entries mine)))
unfolding confirmed_calls
shows_next g h steps paths are mine n le before None e = absurd (none_within mine n e le)
shows_next g h steps paths are mine n le before (Some p) e =
    ap (λ (theirs : List Place). shown_by p.entry (outcome_there mine theirs n) ++ shown_below paths mine n) (are p.entry.client)
    ∙ ap (λ (v : List Shown). v ++ shown_below paths mine n) (place_shows g h steps mine n p e)
    ∙ ap (λ (v : List Shown). shown_as p.entry (confirmation (completions g h) (p.entry ∷ reverse (take n (entries mine)))) ++ v) before
    ∙ ap (confirmed_calls (completions g h)) (sym (front_with mine n p e))

-- what a path shows below a place is what its front shows
pub shows_front : (g : Group) (h : List TraceStep) → AreSteps g h → (paths : ℕ → List Place) → ((j : ℕ) → paths j ≡ (replayed_path j h).places) → (mine : List Place) (n : ℕ) → n ≤ length mine
    → shown_below paths mine n ≡ confirmed_calls (completions g h) (reverse (take n (entries mine)))
unfolding shown_below confirmed_calls
shows_front g h steps paths are mine zero le = refl
shows_front g h steps paths are mine (suc n) le =
    let one : n + 1 ≡ suc n = omega arith in
    shows_next g h steps paths are mine n le (shows_front g h steps paths are mine n (omega arith)) (slice_get mine n) refl
    ∙ ap (λ (k : ℕ). confirmed_calls (completions g h) (reverse (take k (entries mine)))) one

-- ---- views

-- a client that is no member has no path
pub stranger : (g : Group) (h : List TraceStep) → AreSteps g h → (j : ℕ) → ((i : ℕ) → 0 < i → i ≤ g.count → i ≡ j → ⊥) → replayed_path j h ≡ no_path
unfolding replayed_path
stranger g [] steps j differs = refl
stranger g (x ∷ past) steps j differs =
    replayed_other j x past (differs x.client steps.1.member.0 steps.1.member.1) ∙ stranger g past steps.0 j differs

is_within : (n u : ℕ) → (u < n) ⊎ (n ≤ u)
is_within n u = grind arith

-- the paths that were replayed are those of all clients
pub paths_are : (g : Group) (h : List TraceStep) → AreSteps g h → (all : List ClientPath) → AreReplayed g.count h all → (j : ℕ) → path_among all j ≡ replayed_path j h
paths_are g h steps all r j =
    elim (cases_eq j 0) [
      | inl e ↦ ap (λ (b : Bool). if b then no_path else get_or all (j - 1) no_path) (eq-eqb j 0 e)
          ∙ sym (stranger g h steps j (λ i pos le same. omega (arith, e, same, pos)))
      | inr differ ↦ ap (λ (b : Bool). if b then no_path else get_or all (j - 1) no_path) (ne_eqb j 0 differ) ∙
          elim (is_within g.count (j - 1)) [
            | inl lt ↦ let same : j - 1 + 1 ≡ j = omega arith in r.each (j - 1) lt ∙ ap (λ (k : ℕ). replayed_path k h) same
            | inr ge ↦ let size : length all ≡ g.count = r.size in
                get_or_past all (j - 1) no_path (omega arith) ∙ sym (stranger g h steps j (λ i pos le same. omega (arith, same, pos, le)))
          ]
    ]

-- what a path shows by comparison with all others is its client's view
pub shows_view : (g : Group) (h : List TraceStep) → AreSteps g h → (all : List ClientPath) → AreReplayed g.count h all → (me : ℕ)
    → shown_below (λ j. (path_among all j).places) (replayed_path me h).places (replayed_path me h).done ≡ view_of g me h
unfolding view_of
shows_view g h steps all r me =
    let d : EndsDone (last_prefix me (completions g h)) (replayed_path me h) = done_is g h steps me in
    shows_front g h steps (λ j. (path_among all j).places) (λ j. ap (λ (p : ClientPath). p.places) (paths_are g h steps all r j)) (replayed_path me h).places (replayed_path me h).done d.within
    ∙ ap (confirmed_calls (completions g h)) (sym d.front)

-- ---- what the loop over a path keeps

none_with_nothing : (mine : List Place) → common_length mine [] ≡ 0
none_with_nothing [] = refl
none_with_nothing (p ∷ mine) = refl

length_at : (mine : List Place) (all : List ClientPath) (k : ℕ) → get_or (lengths_with mine all) k 0 ≡ common_length mine (get_or all k no_path).places
length_at mine [] k = sym (none_with_nothing mine)
length_at mine (p ∷ all) zero = refl
length_at mine (p ∷ all) (suc k) = length_at mine all k

length_is : (mine : List Place) (all : List ClientPath) (owner : ℕ) (b : Bool) → (if b then 0 else get_or (lengths_with mine all) (owner - 1) 0) ≡ common_length mine (if b then no_path else get_or all (owner - 1) no_path).places
length_is mine all owner true = sym (none_with_nothing mine)
length_is mine all owner false = length_at mine all (owner - 1)

-- with the lengths in common, the comparison is that of the two paths
among_there : (mine : List Place) (all : List ClientPath) (owner n : ℕ) → outcome_among (lengths_with mine all) all owner n ≡ outcome_there mine (places_among all owner) n
among_there mine all owner n =
    ap (λ (k : ℕ). if nat_lt n k then outcome_of (slice_get (places_among all owner) n) else None) (length_is mine all owner (nat_eq owner 0))

pub shown_start : (paths : ℕ → List Place) (mine : List Place) (v : List Shown) → v ≡ [] → reverse v ≡ shown_below paths mine 0
unfolding shown_below
shown_start paths mine v e = ap reverse e

pub reverse_shown : (v : List Shown) (e : Entry) (o : Option Outcome) → reverse (v ++ shown_by e o) ≡ shown_by e o ++ reverse v
reverse_shown v e None = ap reverse (append-nil v)
reverse_shown v e (Some o) = reverse-append v (record { entry = e; outcome = o } ∷ [])

shown_suc : (paths : ℕ → List Place) (mine : List Place) (n m : ℕ) (p : Place) → m ≡ suc n → slice_get mine n ≡ Some p
    → shown_by p.entry (outcome_there mine (paths p.entry.client) n) ++ shown_below paths mine n ≡ shown_below paths mine m
unfolding shown_below
shown_suc paths mine n m p e there =
    ap (λ (s : Option Place). shown_place paths mine n s ++ shown_below paths mine n) (sym there) ∙ ap (shown_below paths mine) (sym e)

-- one more place
pub shown_more : (lengths : List ℕ) (all : List ClientPath) (mine : List Place) (v w : List Shown) (n : ℕ) (p : Place) (o : Option Outcome)
    → reverse v ≡ shown_below (places_among all) mine n → slice_get mine n ≡ Some p → lengths ≡ lengths_with mine all
    → o ≡ outcome_among lengths all p.entry.client n → w ≡ v ++ shown_by p.entry o → reverse w ≡ shown_below (places_among all) mine (n + 1)
shown_more lengths all mine v w n p o before there are found e =
    let is : o ≡ outcome_there mine (places_among all p.entry.client) n =
    found ∙ ap (λ (l : List ℕ). outcome_among l all p.entry.client n) are ∙ among_there mine all p.entry.client n in
    let next : n + 1 ≡ suc n = omega arith in
    ap reverse e ∙ reverse_shown v p.entry o
    ∙ ap (λ (x : Option Outcome). shown_by p.entry x ++ reverse v) is
    ∙ ap (λ (u : List Shown). shown_by p.entry (outcome_there mine (places_among all p.entry.client) n) ++ u) before
    ∙ shown_suc (places_among all) mine n (n + 1) p next there

-- a path that was replayed shows its client's view
pub view_shown : (g : Group) (h : List TraceStep) → IsLawful g h → (all every : List ClientPath) → every ≡ all → AreReplayed g.count h all → (me : ℕ) (mine : ClientPath) → mine ≡ replayed_path me h
    → shown_below (places_among every) mine.places mine.done ≡ view_of g me h
view_shown g h lawful all every e r me mine is =
    ap (λ (x : List ClientPath). shown_below (places_among x) mine.places mine.done) e
    ∙ ap (λ (p : ClientPath). shown_below (places_among all) p.places p.done) is
    ∙ shows_view g h lawful.steps all r me

pub done_within : (g : Group) (h : List TraceStep) → IsLawful g h → (me : ℕ) (mine : ClientPath) → mine ≡ replayed_path me h → mine.done ≤ length mine.places
done_within g h lawful me mine is = subst (λ (p : ClientPath). p.done ≤ length p.places) (sym is) (done_is g h lawful.steps me).within
