-- A line more adds its own events.
use Rattle.std.proofs.Common.{◌≡◌, ℕ, ◌+◌, ◌≤◌, Bool, true, false, List, [], ◌∷◌, ◌++◌, length, take, Option, Some, None, refl, sym, ap, subst, ◌∙◌, arith, length-append}
use Rattle.std.specs.Prelude.{◌≢◌, if◌then◌else◌, nat_eq, nat_lt, IsSome}
use Rattle.std.specs.List.{AllByRecursion}
use Rattle.std.proofs.lemmas.Bool.{le-ltb, eqb-true}
use Rattle.std.proofs.lemmas.List.{append-nil, append_assoc, take_all}
use Rattle.std.proofs.lemmas.Option.{same_Some}
use Rattle.vic_order.specs.Scenes.{SceneOf, Event}
use Rattle.vic_attacks.specs.Hostile.{Hostile, by_kind}
use Rattle.vic_script.specs.declared.line.Line.{Line}
use Rattle.vic_script.specs.Lines.{put_first, lines_of, line_of}
use Rattle.vic_script.specs.Scenes.{events_of, done_line, bad_kind}
use Rattle.vic_script.specs.Run.{script_limit, ScriptHeader, group_by, opening_by, Progress, Before, Heads, Stands, scene_in, ScriptRun, run_to_bad_line, Trial, Fails, Does, trial_by, trial_in_scene, trial_in_header, trial_of_line, mode_in, run_by_trial, line_end, bad_end, run_from, run_of}
use Rattle.vic_runs.proofs.Headers.{header_so}
use Rattle.vic_script_runs.specs.Events.{line_events, events_then, events_from, script_events}
use Rattle.vic_script_runs.specs.Claims.{IsLineText, text_of, AddsItsOwn, NoLinesAddNone, LinesAddTheirOwn}

-- ---- the lines of a text

with-first : (b : Bool) (c : ℕ) (text : List ℕ) (texts : List (List ℕ)) → b ≡ false → (if b then [] ∷ text ∷ texts else put_first c (text ∷ texts)) ≡ (c ∷ text) ∷ texts
with-first true c text texts e = absurd cc
with-first false c text texts e = refl

not-ten : (b : ℕ) → b ≢ 10 → (e : Bool) → nat_eq b 10 ≡ e → e ≡ false
not-ten b other false is = refl
not-ten b other true is = absurd (other (eqb-true b 10 is))

lines-first : (text rest : List ℕ) → IsLineText text → lines_of (text ++ 10 ∷ rest) ≡ text ∷ lines_of rest
unfolding lines_of
lines-first [] rest one = refl
lines-first (b ∷ bs) rest one =
    ap (λ ls. if nat_eq b 10 then [] ∷ ls else put_first b ls) (lines-first bs rest one.1) ∙ with-first (nat_eq b 10) b bs (lines_of rest) (not-ten b one.0 (nat_eq b 10) refl)

lines-text_of : (texts : List (List ℕ)) → AllByRecursion IsLineText texts → lines_of (text_of texts) ≡ texts
unfolding lines_of
lines-text_of [] all = refl
lines-text_of (text ∷ texts) all = lines-first text (text_of texts) all.0 ∙ ap (λ ls. text ∷ ls) (lines-text_of texts all.1)

-- of lines of a longer text
all-first : (texts more : List (List ℕ)) → AllByRecursion IsLineText (texts ++ more) → AllByRecursion IsLineText texts
all-first [] more all = tt
all-first (text ∷ texts) more all = (all.0, all-first texts more all.1)

length-longer : (texts more : List (List ℕ)) → length (text_of texts) ≤ length (text_of (texts ++ more))
length-longer [] more = omega arith
length-longer (text ∷ texts) more = omega (arith, length-append text (10 ∷ text_of texts), length-append text (10 ∷ text_of (texts ++ more)), length-longer texts more)

-- ---- the last line

-- where no line follows the one that is tried
abbrev events_alone : List Event → Trial → List Event
events_alone own t = events_then own t (λ next. [])

alone-none : (t : Trial) → events_alone [] t ≡ []
alone-none (Fails k) = refl
alone-none (Does next text) = refl

-- a line has its events, unless it is bad
abbrev Tells : SceneOf Hostile → Line → List Event → Type 0
Tells s l own = (bad_kind s l ≡ None → own ≡ events_of by_kind s l) × ((k : ℕ) → bad_kind s l ≡ Some k → own ≡ [])

alone-by : (bad : Option ℕ) (s : SceneOf Hostile) (l : Line) (own : List Event) → let after : List Event = events_alone own (trial_by bad (done_line by_kind s l)) in (bad ≡ None → after ≡ own) × ((k : ℕ) → bad ≡ Some k → after ≡ [])
alone-by None s l own = (λ e. refl, λ k e. absurd cc)
alone-by (Some j) s l own = (λ e. absurd cc, λ k e. refl)

tells-event : (s : SceneOf Hostile) (l : Line) → Tells s l (events_alone (events_of by_kind s l) (trial_in_scene s l))
tells-event s l = alone-by (bad_kind s l) s l (events_of by_kind s l)

tells-header : (h : ScriptHeader) (l : Line) → Tells (opening_by h) l (events_alone (events_of by_kind (opening_by h) l) (trial_in_header h l))
tells-header h l =
    header_so (λ (x : Line) (t : Trial). Tells (opening_by h) x (events_alone (events_of by_kind (opening_by h) x) t)) h
    (λ digits. (λ e. refl, λ k e. refl)) (λ digits. (λ e. refl, λ k e. refl)) (λ name n only. (λ e. refl, λ k e. refl)) (λ name n. (λ e. refl, λ k e. refl)) (λ e. refl, λ k e. refl) (tells-event (opening_by h)) l

own-none : (s : SceneOf Hostile) (text : List ℕ) → line_of (Some s.group.mode) text ≡ None → AddsItsOwn s text [] []
own-none s text is = record {
  good = λ l e right. let spells : Some l ≡ None = sym e ∙ is in absurd cc;
  bad = λ l k e wrong. refl;
  other = λ e. refl;
}

own-some : (s : SceneOf Hostile) (text : List ℕ) (l : Line) (own : List Event) → line_of (Some s.group.mode) text ≡ Some l → Tells s l own → AddsItsOwn s text [] own
own-some s text l own is tells =
    let told : (m : Line) → line_of (Some s.group.mode) text ≡ Some m → Tells s m own = λ m e. subst (λ x. Tells s x own) (same_Some l m (sym is ∙ e)) tells in
    record {
      good = λ m e right. (told m e).0 right ∙ sym (append-nil (events_of by_kind s m));
      bad = λ m k e wrong. (told m e).1 k wrong;
      other = λ e. let spells : Some l ≡ None = sym is ∙ e in absurd cc;
    }

own-header : (h : ScriptHeader) (text : List ℕ) (o : Option Line) → line_of (Some (group_by h).mode) text ≡ o → AddsItsOwn (opening_by h) text [] (events_alone (line_events (Some (opening_by h)) o) (trial_of_line (Heads h) o))
own-header h text None is = own-none (opening_by h) text is
own-header h text (Some l) is = own-some (opening_by h) text l _ is (tells-header h l)

own-event : (s : SceneOf Hostile) (text : List ℕ) (o : Option Line) → line_of (Some s.group.mode) text ≡ o → AddsItsOwn s text [] (events_alone (line_events (Some s) o) (trial_of_line (Stands s) o))
own-event s text None is = own-none s text is
own-event s text (Some l) is = own-some s text l _ is (tells-event s l)

-- ---- one line more

-- of a run, and the events before a line more and behind it
record Adds (p : ScriptRun) (text : List ℕ) (before after : List Event) : Type 0 where
  pub adds : p.bad ≡ None → (s : SceneOf Hostile) → p.scene ≡ Some s → AddsItsOwn s text before after
  pub ends : IsSome p.bad → after ≡ before

adds-last : (n : ℕ) (place : Progress) (text : List ℕ) → let l : Option Line = line_of (mode_in (scene_in place)) text in
    Adds (record { scene = scene_in place; text = []; bad = bad_end n place }) text [] (events_alone (line_events (scene_in place) l) (trial_of_line place l))
adds-last n Before text = record {
  adds = λ good s is. absurd cc;
  ends = λ bad. alone-none (trial_of_line Before (line_of None text));
}
adds-last n (Heads h) text =
    let s : SceneOf Hostile = opening_by h in
    let own : List Event = events_alone (line_events (Some s) (line_of (Some s.group.mode) text)) (trial_of_line (Heads h) (line_of (Some s.group.mode) text)) in
    record {
      adds = λ good t is. subst (λ x. AddsItsOwn x text [] own) (same_Some s t is) (own-header h text (line_of (Some s.group.mode) text) refl);
      ends = λ bad. absurd cc;
    }
adds-last n (Stands s) text =
    let own : List Event = events_alone (line_events (Some s) (line_of (Some s.group.mode) text)) (trial_of_line (Stands s) (line_of (Some s.group.mode) text)) in
    record {
      adds = λ good t is. subst (λ x. AddsItsOwn x text [] own) (same_Some s t is) (own-event s text (line_of (Some s.group.mode) text) refl);
      ends = λ bad. absurd cc;
    }

-- behind other events
own-behind : (s : SceneOf Hostile) (text : List ℕ) (before after own : List Event) → AddsItsOwn s text before after → AddsItsOwn s text (before ++ own) (after ++ own)
own-behind s text before after own h = record {
  good = λ l e right. ap (λ es. es ++ own) (h.good l e right) ∙ append_assoc (events_of by_kind s l) before own;
  bad = λ l k e wrong. ap (λ es. es ++ own) (h.bad l k e wrong);
  other = λ e. ap (λ es. es ++ own) (h.other e);
}

adds-followed : (n : ℕ) (place : Progress) (t : Trial) (own : List Event) (text : List ℕ) (rest : Progress → ScriptRun) (later more : Progress → List Event) → ((next : Progress) → Adds (rest next) text (later next) (more next))
    → Adds (run_by_trial n place t rest) text (events_then own t later) (events_then own t more)
adds-followed n place (Fails k) own text rest later more each = record {
  adds = λ good s is. absurd cc;
  ends = λ bad. refl;
}
adds-followed n place (Does next words) own text rest later more each =
    let h = each next in
    record {
      adds = λ good s is. own-behind s text (later next) (more next) own (h.adds good s is);
      ends = λ bad. ap (λ es. es ++ own) (h.ends bad);
    }

by_test : {X : Type 0} (P : X → Type 0) (b : Bool) (x y : X) → b ≡ false → P y → P (if b then x else y)
by_test P true x y e h = absurd cc
by_test P false x y e h = h

-- no line of a script that is within the limit reaches past it
within : (total behind : ℕ) (text : List ℕ) → total ≤ script_limit → nat_lt script_limit (line_end total behind text) ≡ false
within total behind text few = le-ltb script_limit (line_end total behind text) (omega (arith, few))

adds-played : (total longer behind farther n : ℕ) (place : Progress) (texts : List (List ℕ)) (text : List ℕ) → total ≤ script_limit → longer ≤ script_limit
    → Adds (run_from total behind n place texts) text (events_from total behind place texts) (events_from longer farther place (texts ++ text ∷ []))
unfolding run_from events_from
adds-played total longer behind farther n place [] text few short =
    let l : Option Line = line_of (mode_in (scene_in place)) text in
    let end : ScriptRun = record { scene = scene_in place; text = []; bad = bad_end n place } in
    by_test (Adds end text []) (nat_lt script_limit (line_end longer farther text)) [] (events_alone (line_events (scene_in place) l) (trial_of_line place l)) (within longer farther text short) (adds-last n place text)
adds-played total longer behind farther n place (first ∷ texts) text few short =
    let l : Option Line = line_of (mode_in (scene_in place)) first in
    let t : Trial = trial_of_line place l in
    let own : List Event = line_events (scene_in place) l in
    let next_behind : ℕ = line_end total behind first in
    let next_farther : ℕ = line_end longer farther first in
    let rest : Progress → ScriptRun = λ next. run_from total next_behind (n + 1) next texts in
    let later : Progress → List Event = λ next. events_from total next_behind next texts in
    let more : Progress → List Event = λ next. events_from longer next_farther next (texts ++ text ∷ []) in
    let past : Bool = nat_lt script_limit next_behind in
    let past_longer : Bool = nat_lt script_limit next_farther in
    by_test (λ p. Adds p text (if past then [] else events_then own t later) (if past_longer then [] else events_then own t more)) past (run_to_bad_line place n 7) (run_by_trial n place t rest) (within total behind first few)
    (by_test (λ es. Adds (run_by_trial n place t rest) text es (if past_longer then [] else events_then own t more)) past [] (events_then own t later) (within total behind first few)
    (by_test (Adds (run_by_trial n place t rest) text (events_then own t later)) past_longer [] (events_then own t more) (within longer farther first short)
    (adds-followed n place t own text rest later more (λ next. adds-played total longer next_behind next_farther (n + 1) next texts text few short))))

-- ---- scripts of such lines

known-is : (script : List ℕ) → length script ≤ script_limit → take (script_limit + 1) script ≡ script
known-is script few = take_all (script_limit + 1) script (omega (arith, few))

run-is : (texts : List (List ℕ)) → AllByRecursion IsLineText texts → length (text_of texts) ≤ script_limit → run_of (text_of texts) ≡ run_from (length (text_of texts)) 0 1 Before texts
unfolding run_of
run-is texts all few =
    ap (λ (known : List ℕ). run_from (length known) 0 1 Before (lines_of known)) (known-is (text_of texts) few) ∙ ap (run_from (length (text_of texts)) 0 1 Before) (lines-text_of texts all)

events-are : (texts : List (List ℕ)) → AllByRecursion IsLineText texts → length (text_of texts) ≤ script_limit → script_events (text_of texts) ≡ events_from (length (text_of texts)) 0 Before texts
unfolding script_events
events-are texts all few =
    ap (λ (known : List ℕ). events_from (length known) 0 Before (lines_of known)) (known-is (text_of texts) few) ∙ ap (events_from (length (text_of texts)) 0 Before) (lines-text_of texts all)

pub none_add : NoLinesAddNone
unfolding script_events events_from lines_of
none_add = refl

pub lines_add : LinesAddTheirOwn
lines_add texts text all few =
    let script : List ℕ = text_of texts in
    let longer : List ℕ = text_of (texts ++ text ∷ []) in
    let short : length script ≤ script_limit = omega (arith, few, length-longer texts (text ∷ [])) in
    let first : AllByRecursion IsLineText texts = all-first texts (text ∷ []) all in
    let played = adds-played (length script) (length longer) 0 0 1 Before texts text short few in
    let told : Adds (run_of script) text (script_events script) (script_events longer) = rw (run-is texts first short, events-are texts first short, events-are (texts ++ text ∷ []) all few) played in
    record { adds = told.adds; ends = told.ends }
