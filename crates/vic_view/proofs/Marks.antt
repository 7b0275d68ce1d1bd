-- The replay marks each completion at the place where its call stands, and marks nothing else.
use Rattle.std.proofs.Common.{◌≡◌, ℕ, ◌≤◌, ◌⊎◌, inl, inr, List, [], ◌∷◌, ◌++◌, length, take, reverse, Option, Some, None, refl, sym, ◌∙◌, ap, subst, arith, length-append, Bool, if◌then◌else◌}
use Rattle.std.specs.Option.{IfSome}
use Rattle.std.proofs.lemmas.Bool.{eq-eqb, ne_eqb}
use Rattle.std.proofs.lemmas.List.{append-nil, map-append, take-append-le, take_all, length-map}
use Rattle.vic_dict.specs.declared.op.Entry.{Entry}
use Rattle.vic_dict.specs.declared.op.Outcome.{Outcome}
use Rattle.vic_dict.specs.declared.op.Outcome.TheVariants as outcome
use Rattle.vic_dict.specs.Lists.{IsIn}
use Rattle.vic_wire.specs.declared.message.Tagged.{Tagged}
use Rattle.vic_wire.specs.Hashes.{Group}
use Rattle.vic_rules.specs.declared.trace.TraceStep.{TraceStep}
use Rattle.vic_rules.specs.Client.{onto, newest_first}
use Rattle.vic_rules.specs.History.{standing, path, AreSteps, IsStep, Completion, completion, completions}
use Rattle.vic_rules.specs.Views.{last_prefix}
use Rattle.vic_laws.proofs.Steps.{call_of}
use Rattle.vic_laws.proofs.Calls.{RepliedAt, completed_by, completion_stays, completion_after}
use Rattle.vic_view.specs.declared.replay.Place.{Place}
use Rattle.vic_view.specs.declared.replay.ClientPath.{ClientPath}
use Rattle.vic_view.specs.Replay.{read_by, entries_in, entries_at, completed_with, places_with, path_with, path_after, replayed_path}
use Rattle.vic_view.proofs.Fronts.{below_next}
use Rattle.vic_view.proofs.Replays.{taken_told, entries, replayed_own, replayed_other, own_or_other, replays_path, path_joined}

abbrev pub completed_as : ℕ → List Entry → Outcome → Completion
completed_as me p o = record { client = me; prefix = p; outcome = o }

-- ---- each mark is a completion

-- each marked place, above the entries below it, is a completion of the client
abbrev pub MarksHold : List Completion → ℕ → List Entry → List Place → Type 0
MarksHold cs me below [] = Unit {0}
MarksHold cs me below (p ∷ ps) = IfSome p.outcome (λ o. IsIn cs (completed_as me (p.entry ∷ below) o)) × MarksHold cs me (p.entry ∷ below) ps

some_weaker : (P Q : Outcome → Type 0) → ((o : Outcome) → P o → Q o) → (x : Option Outcome) → IfSome x P → IfSome x Q
some_weaker P Q f None h = tt
some_weaker P Q f (Some o) h = f o h

marks_weaker : (cs ds : List Completion) → ((c : Completion) → IsIn cs c → IsIn ds c) → (me : ℕ) (below : List Entry) (ps : List Place) → MarksHold cs me below ps → MarksHold ds me below ps
marks_weaker cs ds f me below [] h = tt
marks_weaker cs ds f me below (p ∷ ps) h = (
  some_weaker (λ o. IsIn cs (completed_as me (p.entry ∷ below) o)) (λ o. IsIn ds (completed_as me (p.entry ∷ below) o)) (λ o. f (completed_as me (p.entry ∷ below) o)) p.outcome h.0,
  marks_weaker cs ds f me (p.entry ∷ below) ps h.1,
)

marks_append : (cs : List Completion) (me : ℕ) (below : List Entry) (ps qs : List Place) → MarksHold cs me below ps → MarksHold cs me (reverse (entries ps) ++ below) qs
    → MarksHold cs me below (ps ++ qs)
marks_append cs me below [] qs a b = b
marks_append cs me below (p ∷ ps) qs a b =
    (a.0, marks_append cs me (p.entry ∷ below) ps qs a.1 (subst (λ (es : List Entry). MarksHold cs me es qs) (sym (below_next p.entry (entries ps) below)) b))

-- new places are marked at their end
marks_with : (cs : List Completion) (me : ℕ) (o : Option Outcome) (ts : List Tagged) (below : List Entry) → IfSome o (λ x. IsIn cs (completed_as me (onto ts below) x))
    → MarksHold cs me below (places_with o ts)
marks_with cs me o [] below h = tt
marks_with cs me o (t ∷ []) below h = (h, tt)
marks_with cs me o (t ∷ u ∷ ts) below h = (tt, marks_with cs me o (u ∷ ts) (t.entry ∷ below) h)

-- what a step completes
abbrev pub one_completion : ℕ → List Entry → Option Outcome → List Completion
one_completion me p None = []
one_completion me p (Some o) = completed_as me p o ∷ []

completion_is : (me : ℕ) (p : List Entry) (returned : Option Outcome) → completion me p returned ≡ one_completion me p (completed_with returned)
completion_is me p None = refl
completion_is me p (Some (outcome.Done a)) = refl
completion_is me p (Some (outcome.Aborted u)) = refl
completion_is me p (Some (outcome.Refused r)) = refl
completion_is me p (Some (outcome.Halted k)) = refl

-- the completions after one more step, as it tells them
pub completions_told : (g : Group) (past : List TraceStep) (x : TraceStep)
    → completions g (x ∷ past) ≡ one_completion x.client (path g x.client (x ∷ past)) (completed_with x.returned) ++ completions g past
unfolding completions
completions_told g past x = ap (λ (cs : List Completion). cs ++ completions g past) (completion_is x.client (path g x.client (x ∷ past)) x.returned)

first_is_one : (cs : List Completion) (me : ℕ) (p : List Entry) (o : Option Outcome) → IfSome o (λ x. IsIn (one_completion me p o ++ cs) (completed_as me p x))
first_is_one cs me p None = tt
first_is_one cs me p (Some x) = inl refl

-- each mark of the replay is a completion
pub marks_hold : (g : Group) (h : List TraceStep) → AreSteps g h → (me : ℕ) → MarksHold (completions g h) me [] (replayed_path me h).places
unfolding replayed_path path_after
marks_hold g [] steps me = tt
marks_hold g (x ∷ past) steps me =
    let old : MarksHold (completions g (x ∷ past)) me [] (replayed_path me past).places =
    marks_weaker (completions g past) (completions g (x ∷ past)) (completion_stays g past x) me [] (replayed_path me past).places (marks_hold g past steps.0 me) in
    own_or_other me x (MarksHold (completions g (x ∷ past)) me [] (replayed_path me (x ∷ past)).places)
    (λ e.
    let o : Option Outcome = completed_with x.returned in
    let ts : List Tagged = entries_at x in
    let before : List Place = (replayed_path me past).places in
    let joined : path g x.client (x ∷ past) ≡ onto ts (reverse (entries before)) =
    path_joined g past x steps.1 ∙ ap (λ (i : ℕ). onto ts (path g i past)) e ∙ ap (onto ts) (sym (replays_path g past steps.0 me)) in
    let there : IfSome o (λ y. IsIn (completions g (x ∷ past)) (completed_as x.client (path g x.client (x ∷ past)) y)) =
    subst (λ (cs : List Completion). IfSome o (λ y. IsIn cs (completed_as x.client (path g x.client (x ∷ past)) y))) (sym (completions_told g past x))
    (first_is_one (completions g past) x.client (path g x.client (x ∷ past)) o) in
    let mine : IfSome o (λ y. IsIn (completions g (x ∷ past)) (completed_as me (path g x.client (x ∷ past)) y)) =
    subst (λ (i : ℕ). IfSome o (λ y. IsIn (completions g (x ∷ past)) (completed_as i (path g x.client (x ∷ past)) y))) e there in
    let here : IfSome o (λ y. IsIn (completions g (x ∷ past)) (completed_as me (onto ts (reverse (entries before))) y)) =
    subst (λ (p : List Entry). IfSome o (λ y. IsIn (completions g (x ∷ past)) (completed_as me p y))) joined mine in
    let new : MarksHold (completions g (x ∷ past)) me (reverse (entries before)) (places_with o ts) = marks_with (completions g (x ∷ past)) me o ts (reverse (entries before)) here in
    subst (λ (p : ClientPath). MarksHold (completions g (x ∷ past)) me [] p.places) (sym (replayed_own me x past e))
    (marks_append (completions g (x ∷ past)) me [] before (places_with o ts) old
    (subst (λ (es : List Entry). MarksHold (completions g (x ∷ past)) me es (places_with o ts)) (sym (append-nil (reverse (entries before)))) new)))
    (λ e. subst (λ (p : ClientPath). MarksHold (completions g (x ∷ past)) me [] p.places) (sym (replayed_other me x past e)) old)

-- ---- each completion is marked

-- the path stands at a marked place
abbrev pub IsMarked : List Entry → List Place → List Entry → Type 0
IsMarked below [] q = ⊥
IsMarked below (p ∷ ps) q = ((q ≡ p.entry ∷ below) × ((o : Outcome) × (p.outcome ≡ Some o))) ⊎ IsMarked (p.entry ∷ below) ps q

marked_left : (below : List Entry) (ps qs : List Place) (q : List Entry) → IsMarked below ps q → IsMarked below (ps ++ qs) q
marked_left below [] qs q m = absurd m
marked_left below (p ∷ ps) qs q (inl here) = inl here
marked_left below (p ∷ ps) qs q (inr later) = inr (marked_left (p.entry ∷ below) ps qs q later)

marked_right : (below : List Entry) (ps qs : List Place) (q : List Entry) → IsMarked (reverse (entries ps) ++ below) qs q → IsMarked below (ps ++ qs) q
marked_right below [] qs q m = m
marked_right below (p ∷ ps) qs q m =
    inr (marked_right (p.entry ∷ below) ps qs q (subst (λ (es : List Entry). IsMarked es qs q) (sym (below_next p.entry (entries ps) below)) m))

marked_with : (o : Outcome) (t : Tagged) (ts : List Tagged) (below : List Entry) → IsMarked below (places_with (Some o) (t ∷ ts)) (onto (t ∷ ts) below)
marked_with o t [] below = inl (refl, (o, refl))
marked_with o t (u ∷ ts) below = inr (marked_with o u ts (t.entry ∷ below))

-- new entries and an outcome, or a path that was there
marked_end : (o : Outcome) (ts : List Tagged) (below : List Entry) → (ts ≡ [] → ⊥) → IsMarked below (places_with (Some o) ts) (onto ts below)
marked_end o [] below some = absurd (some refl)
marked_end o (t ∷ ts) below some = marked_with o t ts below

-- the entries that a step with a Reply tells
replied_entries : (g : Group) (past : List TraceStep) (x : TraceStep) → IsStep g past x → (r : RepliedAt g past x) → entries_at x ≡ r.entries
replied_entries g past x is r =
    ap (λ (o : Option Outcome). entries_in (read_by x.input o)) is.returned
    ∙ ap entries_in (sym (taken_told g x.client (standing g x.client past) x.input) ∙ r.takes)

nothing_newest : (ts : List Tagged) (e : Entry) (es : List Entry) → newest_first ts ≡ e ∷ es → ts ≡ [] → ⊥
nothing_newest [] e es a b = absurd cc
nothing_newest (t ∷ ts) e es a b = absurd cc

new_entries : (g : Group) (past : List TraceStep) (x : TraceStep) → IsStep g past x → RepliedAt g past x → entries_at x ≡ [] → ⊥
new_entries g past x is r e =
    nothing_newest r.entries (call_of x.client r.seq r.op) r.others r.news (sym (replied_entries g past x is r) ∙ e)

-- a completion is an old one, or the one that the step tells
told_or_old : (me : ℕ) (p : List Entry) (o : Option Outcome) (cs : List Completion) (c : Completion) → IsIn (one_completion me p o ++ cs) c
    → ((y : Outcome) × (o ≡ Some y) × (c.prefix ≡ p)) ⊎ IsIn cs c
told_or_old me p None cs c h = inr h
told_or_old me p (Some y) cs c (inl e) = inl (y, refl, ap (λ (d : Completion). d.prefix) (sym e))
told_or_old me p (Some y) cs c (inr h) = inr h

marked_now : (g : Group) (past : List TraceStep) (x : TraceStep) → AreSteps g (x ∷ past) → RepliedAt g past x → (q : List Entry) (y : Outcome)
    → completed_with x.returned ≡ Some y → q ≡ path g x.client (x ∷ past) → IsMarked [] (replayed_path x.client (x ∷ past)).places q
unfolding path_after
marked_now g past x steps r q y told is =
    let ts : List Tagged = entries_at x in
    let before : List Place = (replayed_path x.client past).places in
    let joined : onto ts (reverse (entries before)) ≡ q =
    sym (is ∙ path_joined g past x steps.1 ∙ ap (onto ts) (sym (replays_path g past steps.0 x.client))) in
    let at_end : IsMarked (reverse (entries before)) (places_with (Some y) ts) q =
    subst (IsMarked (reverse (entries before)) (places_with (Some y) ts)) joined (marked_end y ts (reverse (entries before)) (new_entries g past x steps.1 r)) in
    let with_told : IsMarked (reverse (entries before) ++ []) (places_with (completed_with x.returned) ts) q =
    subst (λ (o : Option Outcome). IsMarked (reverse (entries before) ++ []) (places_with o ts) q) (sym told)
    (subst (λ (es : List Entry). IsMarked es (places_with (Some y) ts) q) (sym (append-nil (reverse (entries before)))) at_end) in
    subst (λ (p : ClientPath). IsMarked [] p.places q) (sym (replayed_own x.client x past refl)) (marked_right [] before (places_with (completed_with x.returned) ts) q with_told)

marked_later : (g : Group) (past : List TraceStep) (x : TraceStep) (me : ℕ) (q : List Entry) → IsMarked [] (replayed_path me past).places q → IsMarked [] (replayed_path me (x ∷ past)).places q
unfolding path_after
marked_later g past x me q m =
    own_or_other me x (IsMarked [] (replayed_path me (x ∷ past)).places q)
    (λ e. subst (λ (p : ClientPath). IsMarked [] p.places q) (sym (replayed_own me x past e))
    (marked_left [] (replayed_path me past).places (places_with (completed_with x.returned) (entries_at x)) q m))
    (λ e. subst (λ (p : ClientPath). IsMarked [] p.places q) (sym (replayed_other me x past e)) m)

-- each completion is marked on its client's path
pub all_marked : (g : Group) (h : List TraceStep) → AreSteps g h → (c : Completion) → IsIn (completions g h) c → IsMarked [] (replayed_path c.client h).places c.prefix
unfolding completions
all_marked g [] steps c w = absurd w
all_marked g (x ∷ past) steps c w =
    let old : IsIn (completions g past) c → IsMarked [] (replayed_path c.client (x ∷ past)).places c.prefix =
    λ v. marked_later g past x c.client c.prefix (all_marked g past steps.0 c v) in
    let Told : Type 0 = (y : Outcome) × (completed_with x.returned ≡ Some y) × (c.prefix ≡ path g x.client (x ∷ past)) in
    let told : Told ⊎ IsIn (completions g past) c =
    told_or_old x.client (path g x.client (x ∷ past)) (completed_with x.returned) (completions g past) c (subst (λ (cs : List Completion). IsIn cs c) (completions_told g past x) w) in
    let Goal : IsIn (completions g past) c ⊎ ((r : RepliedAt g past x) × (completed_by r ≡ c)) → Type 0 = λ v. IsMarked [] (replayed_path c.client (x ∷ past)).places c.prefix in
    elim (completion_after g past x steps.1 c w) as Goal [
      | inl v ↦ old v
      | inr r ↦
          let Goal2 : Told ⊎ IsIn (completions g past) c → Type 0 = λ v. IsMarked [] (replayed_path c.client (x ∷ past)).places c.prefix in
          elim told as Goal2 [
            | inl t ↦ subst (λ (i : ℕ). IsMarked [] (replayed_path i (x ∷ past)).places c.prefix) (ap (λ (d : Completion). d.client) r.1) (marked_now g past x steps r.0 c.prefix t.0 t.1 t.2)
            | inr v ↦ old v
          ]
    ]

-- ---- the last completed call

last_other : (me other : ℕ) (p : List Entry) (o : Option Outcome) (cs : List Completion) → (other ≡ me → ⊥) → last_prefix me (one_completion other p o ++ cs) ≡ last_prefix me cs
unfolding last_prefix
last_other me other p None cs differ = refl
last_other me other p (Some y) cs differ = ap (λ (b : Bool). if b then p else last_prefix me cs) (ne_eqb other me differ)

-- the front as long as the path was when the client last completed a call
abbrev pub done_front : ClientPath → List Entry
done_front p = reverse (take p.done (entries p.places))

pub record EndsDone (prefix : List Entry) (p : ClientPath) : Type 0 where
  pub within : p.done ≤ length p.places
  pub front : prefix ≡ done_front p

last_own : (me : ℕ) (o : Option Outcome) (now : List Entry) (cs : List Completion) (p : ClientPath) (ps : List Place) → EndsDone (last_prefix me cs) p → now ≡ reverse (entries (p.places ++ ps))
    → EndsDone (last_prefix me (one_completion me now o ++ cs)) (path_with o ps p)
unfolding last_prefix
last_own me None now cs p ps d e = record {
  within = let w : p.done ≤ length p.places = d.within in omega (arith, length-append p.places ps);
  front = d.front ∙ ap reverse (sym (
      ap (take p.done) (map-append (λ (q : Place). q.entry) p.places ps)
      ∙ take-append-le p.done (entries p.places) (entries ps) (let w : p.done ≤ length p.places = d.within in omega (arith, length-map p.places (λ (q : Place). q.entry)))));
}
last_own me (Some y) now cs p ps d e = record {
  within = omega arith;
  front =
      ap (λ (b : Bool). if b then now else last_prefix me cs) (eq-eqb me me refl)
      ∙ e
      ∙ ap reverse (sym (take_all (length (p.places ++ ps)) (entries (p.places ++ ps)) (omega (arith, length-map (p.places ++ ps) (λ (q : Place). q.entry)))));
}

-- the path up to the client's last completed call
pub done_is : (g : Group) (h : List TraceStep) → AreSteps g h → (me : ℕ) → EndsDone (last_prefix me (completions g h)) (replayed_path me h)
unfolding replayed_path completions last_prefix path_after
done_is g [] steps me = record { within = omega arith; front = refl }
done_is g (x ∷ past) steps me =
    own_or_other me x (EndsDone (last_prefix me (completions g (x ∷ past))) (replayed_path me (x ∷ past)))
    (λ e.
    let o : Option Outcome = completed_with x.returned in
    let now : List Entry = path g x.client (x ∷ past) in
    let is_now : now ≡ reverse (entries ((replayed_path me past).places ++ places_with o (entries_at x))) =
    ap (λ (i : ℕ). path g i (x ∷ past)) e ∙ sym (replays_path g (x ∷ past) steps me) ∙ ap (λ (p : ClientPath). reverse (entries p.places)) (replayed_own me x past e) in
    let told : completions g (x ∷ past) ≡ one_completion me now o ++ completions g past =
    completions_told g past x ∙ ap (λ (i : ℕ). one_completion i now o ++ completions g past) e in
    subst (λ (cs : List Completion). EndsDone (last_prefix me cs) (replayed_path me (x ∷ past))) (sym told)
    (subst (EndsDone (last_prefix me (one_completion me now o ++ completions g past))) (sym (replayed_own me x past e))
    (last_own me o now (completions g past) (replayed_path me past) (places_with o (entries_at x)) (done_is g past steps.0 me) is_now)))
    (λ e.
    let o : Option Outcome = completed_with x.returned in
    let now : List Entry = path g x.client (x ∷ past) in
    let same : last_prefix me (completions g past) ≡ last_prefix me (completions g (x ∷ past)) =
    sym (ap (last_prefix me) (completions_told g past x) ∙ last_other me x.client now o (completions g past) e) in
    subst (λ (p : List Entry). EndsDone p (replayed_path me (x ∷ past))) same
    (subst (EndsDone (last_prefix me (completions g past))) (sym (replayed_other me x past e)) (done_is g past steps.0 me)))
