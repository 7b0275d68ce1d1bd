-- Whole paths that are compared with all calls that were completed give the view.
use Rattle.std.proofs.Common.{◌≡◌, ℕ, ◌+◌, ◌<◌, Bool, true, false, ◌&&◌, List, [], ◌∷◌, ◌++◌, length, map, take, drop, reverse, Option, Some, None, get_or, if◌then◌else◌, refl, sym, ◌∙◌, ap}
use Rattle.std.specs.Option.{option_map}
use Rattle.std.specs.Cmp.Lexicographic.{pointwise}
use Rattle.std.proofs.lemmas.Bool.{eq-eqb, ne_eqb}
use Rattle.std.proofs.lemmas.List.{reverse-append, reverse-reverse, map-append, take_more}
use Rattle.std.proofs.lemmas.Bool.Decides.{same_from_decides, Decides-like}
use Rattle.vic_dict.specs.declared.op.Entry.{Entry}
use Rattle.vic_dict.specs.declared.op.Outcome.{Outcome}
use Rattle.vic_wire.specs.Hashes.{Group}
use Rattle.vic_rules.specs.declared.trace.TraceStep.{TraceStep}
use Rattle.vic_rules.specs.declared.trace.Shown.{Shown}
use Rattle.vic_rules.specs.Client.{same_entry}
use Rattle.vic_rules.specs.History.{path, AreSteps, Completion, completions}
use Rattle.vic_rules.specs.Views.{or_else, confirmation, confirmed_calls, shown_as, last_prefix, view_of}
use Rattle.vic_laws.proofs.Agreement.{same_path-Decides}
use Rattle.vic_view.specs.declared.replay.Place.{Place}
use Rattle.vic_view.specs.declared.plain.CompletedCall.{CompletedCall}
use Rattle.vic_view.specs.Replay.{completed_with, replayed_path, shown_by}
use Rattle.vic_view.specs.Plain.{prefix_of, completion_of, completions_of, completed_on, completed_in}
use Rattle.vic_view.proofs.Fronts.{rest_from}
use Rattle.vic_view.proofs.Loops.{newest_step}
use Rattle.vic_view.proofs.Hashing.{newest_entry}
use Rattle.vic_view.proofs.Marks.{one_completion, completions_told}
use Rattle.vic_view.proofs.Replays.{entries, replays_path}
use Rattle.vic_view.proofs.Shows.{reverse_shown}

-- ---- all calls that were completed

-- one more step
pub completed_next : (xs : List TraceStep) (i : ℕ) (x : TraceStep) (cs new : List CompletedCall) → i < length xs → x ≡ get_or xs i x → cs ≡ completed_in (reverse (take i xs))
    → new ≡ cs ++ completed_on x.client (replayed_path x.client (reverse (take (i + 1) xs))).places (completed_with x.returned) → new ≡ completed_in (reverse (take (i + 1) xs))
unfolding completed_in
completed_next xs i x cs new lt is before e =
    let newest : reverse (take (i + 1) xs) ≡ x ∷ reverse (take i xs) = newest_step xs i x lt is in
    e ∙ ap (λ (h : List TraceStep). cs ++ completed_on x.client (replayed_path x.client h).places (completed_with x.returned)) newest
    ∙ ap (λ (ds : List CompletedCall). ds ++ completed_on x.client (replayed_path x.client (x ∷ reverse (take i xs))).places (completed_with x.returned)) before
    ∙ ap completed_in (sym newest)

pub completed_start : (cs : List CompletedCall) → cs ≡ [] → cs ≡ completed_in []
unfolding completed_in
completed_start cs e = e

completions_append : (cs ds : List CompletedCall) → completions_of (cs ++ ds) ≡ completions_of ds ++ completions_of cs
completions_append cs ds = ap reverse (map-append completion_of cs ds) ∙ reverse-append (map completion_of cs) (map completion_of ds)

one_is : (me : ℕ) (ps : List Place) (o : Option Outcome) → completions_of (completed_on me ps o) ≡ one_completion me (prefix_of ps) o
one_is me ps None = refl
one_is me ps (Some o) = refl

-- they are the completions of the history
pub completed_are : (g : Group) (h : List TraceStep) → AreSteps g h → completions_of (completed_in h) ≡ completions g h
unfolding completed_in completions
completed_are g [] steps = refl
completed_are g (x ∷ past) steps =
    let o : Option Outcome = completed_with x.returned in
    let ps : List Place = (replayed_path x.client (x ∷ past)).places in
    completions_append (completed_in past) (completed_on x.client ps o)
    ∙ ap (λ (cs : List Completion). cs ++ completions_of (completed_in past)) (one_is x.client ps o)
    ∙ ap (λ (p : List Entry). one_completion x.client p o ++ completions_of (completed_in past)) (replays_path g (x ∷ past) steps x.client)
    ∙ ap (λ (cs : List Completion). one_completion x.client (path g x.client (x ∷ past)) o ++ cs) (completed_are g past steps.0)
    ∙ sym (completions_told g past x)

-- ---- the last one of a client

completions_next : (cs : List CompletedCall) (i : ℕ) (c : CompletedCall) → i < length cs → c ≡ get_or cs i c → completions_of (take (i + 1) cs) ≡ completion_of c ∷ completions_of (take i cs)
completions_next cs i c lt is =
    ap completions_of (take_more cs i c lt ∙ ap (λ (d : CompletedCall). take i cs ++ d ∷ []) (sym is)) ∙ completions_append (take i cs) (c ∷ [])

pub last_own_path : (me : ℕ) (cs : List CompletedCall) (i : ℕ) (c : CompletedCall) (ps : List Place) → i < length cs → c ≡ get_or cs i c → c.client ≡ me → ps ≡ c.path
    → prefix_of ps ≡ last_prefix me (completions_of (take (i + 1) cs))
unfolding last_prefix
last_own_path me cs i c ps lt is own e =
    ap prefix_of e
    ∙ sym (ap (λ (b : Bool). if b then prefix_of c.path else last_prefix me (completions_of (take i cs))) (eq-eqb c.client me own))
    ∙ sym (ap (last_prefix me) (completions_next cs i c lt is))

pub last_other_path : (me : ℕ) (cs : List CompletedCall) (i : ℕ) (c : CompletedCall) (ps : List Place) → i < length cs → c ≡ get_or cs i c → (c.client ≡ me → ⊥)
    → prefix_of ps ≡ last_prefix me (completions_of (take i cs)) → prefix_of ps ≡ last_prefix me (completions_of (take (i + 1) cs))
unfolding last_prefix
last_other_path me cs i c ps lt is other before =
    before
    ∙ sym (ap (λ (b : Bool). if b then prefix_of c.path else last_prefix me (completions_of (take i cs))) (ne_eqb c.client me other))
    ∙ sym (ap (last_prefix me) (completions_next cs i c lt is))

pub last_start : (me : ℕ) (ps : List Place) → ps ≡ [] → prefix_of ps ≡ last_prefix me []
unfolding last_prefix
last_start me ps e = ap prefix_of e

-- ---- whole paths compared

same_map : (a b : List Place) → pointwise (λ (x y : Place). same_entry x.entry y.entry) a b ≡ pointwise same_entry (entries a) (entries b)
same_map [] [] = refl
same_map [] (y ∷ b) = refl
same_map (x ∷ a) [] = refl
same_map (x ∷ a) (y ∷ b) = ap (λ (r : Bool). same_entry x.entry y.entry && r) (same_map a b)

turned : (xs ys : List Entry) → reverse xs ≡ reverse ys → xs ≡ ys
turned xs ys e = sym (reverse-reverse xs) ∙ ap reverse e ∙ reverse-reverse ys

-- paths are the same entry by entry from the oldest on exactly where they are from the newest on
pub same_prefix : (a b : List Place) → pointwise (λ (x y : Place). same_entry x.entry y.entry) a b ≡ pointwise same_entry (prefix_of a) (prefix_of b)
same_prefix a b =
    let forth : Bool = pointwise same_entry (entries a) (entries b) in
    let back : Bool = pointwise same_entry (prefix_of a) (prefix_of b) in
    same_map a b ∙ same_from_decides forth back (same_path-Decides (entries a) (entries b))
    (Decides-like back (turned (entries a) (entries b)) (λ e. ap reverse e) (same_path-Decides (prefix_of a) (prefix_of b)))

-- ---- the call that was completed on a path

or_none : (o : Option Completion) → or_else o None ≡ o
or_none None = refl
or_none (Some c) = refl

or_or : (a b c : Option Completion) → or_else (or_else a b) c ≡ or_else a (or_else b c)
or_or None b c = refl
or_or (Some x) b c = refl

confirmed_last : (cs : List Completion) (d : Completion) (p : List Entry) → confirmation (cs ++ d ∷ []) p ≡ or_else (if pointwise same_entry d.prefix p then Some d else None) (confirmation cs p)
unfolding confirmation
confirmed_last [] d p = sym (or_none (if pointwise same_entry d.prefix p then Some d else None))
confirmed_last (c ∷ cs) d p =
    ap (λ (o : Option Completion). or_else o (if pointwise same_entry c.prefix p then Some c else None)) (confirmed_last cs d p)
    ∙ or_or (if pointwise same_entry d.prefix p then Some d else None) (confirmation cs p) (if pointwise same_entry c.prefix p then Some c else None)

-- the first of the calls goes before the others
confirmed_first : (cs : List CompletedCall) (i : ℕ) (c : CompletedCall) (ps : List Place) (b : Bool) → i < length cs → c ≡ get_or cs i c
    → pointwise (λ (x y : Place). same_entry x.entry y.entry) c.path ps ≡ b
    → confirmation (completions_of (drop i cs)) (prefix_of ps) ≡ or_else (if b then Some (completion_of c) else None) (confirmation (completions_of (drop (i + 1) cs)) (prefix_of ps))
confirmed_first cs i c ps b lt is same =
    let rest : List CompletedCall = drop (i + 1) cs in
    ap (λ (ds : List CompletedCall). confirmation (completions_of ds) (prefix_of ps)) (rest_from cs i c lt is)
    ∙ ap (λ (ds : List Completion). confirmation ds (prefix_of ps)) (completions_append (c ∷ []) rest)
    ∙ confirmed_last (completions_of rest) (completion_of c) (prefix_of ps)
    ∙ ap (λ (t : Bool). or_else (if t then Some (completion_of c) else None) (confirmation (completions_of rest) (prefix_of ps))) (sym (same_prefix c.path ps) ∙ same)

pub found_here : (cs : List CompletedCall) (i : ℕ) (c : CompletedCall) (ps : List Place) → i < length cs → c ≡ get_or cs i c
    → pointwise (λ (x y : Place). same_entry x.entry y.entry) c.path ps ≡ true
    → confirmation (completions_of cs) (prefix_of ps) ≡ confirmation (completions_of (drop i cs)) (prefix_of ps)
    → Some c.outcome ≡ option_map (λ (d : Completion). d.outcome) (confirmation (completions_of cs) (prefix_of ps))
found_here cs i c ps lt is same before =
    ap (option_map (λ (d : Completion). d.outcome)) (sym (before ∙ confirmed_first cs i c ps true lt is same))

pub not_here : (cs : List CompletedCall) (i : ℕ) (c : CompletedCall) (ps : List Place) → i < length cs → c ≡ get_or cs i c
    → pointwise (λ (x y : Place). same_entry x.entry y.entry) c.path ps ≡ false
    → confirmation (completions_of cs) (prefix_of ps) ≡ confirmation (completions_of (drop i cs)) (prefix_of ps)
    → confirmation (completions_of cs) (prefix_of ps) ≡ confirmation (completions_of (drop (i + 1) cs)) (prefix_of ps)
not_here cs i c ps lt is same before = before ∙ confirmed_first cs i c ps false lt is same

pub found_nowhere : (cs : List CompletedCall) (i : ℕ) (ps : List Place) → drop i cs ≡ []
    → confirmation (completions_of cs) (prefix_of ps) ≡ confirmation (completions_of (drop i cs)) (prefix_of ps)
    → None ≡ option_map (λ (d : Completion). d.outcome) (confirmation (completions_of cs) (prefix_of ps))
unfolding confirmation
found_nowhere cs i ps none before =
    ap (option_map (λ (d : Completion). d.outcome)) (sym (before ∙ ap (λ (ds : List CompletedCall). confirmation (completions_of ds) (prefix_of ps)) none))

-- ---- the view

shown_is : (e : Entry) (c : Option Completion) → shown_by e (option_map (λ (d : Completion). d.outcome) c) ≡ shown_as e c
shown_is e None = refl
shown_is e (Some c) = refl

pub shows_none : (cs : List Completion) (v : List Shown) → v ≡ [] → reverse v ≡ confirmed_calls cs []
unfolding confirmed_calls
shows_none cs v e = ap reverse e

-- one more position of the path
pub shows_more : (cs : List Completion) (ps : List Place) (i : ℕ) (p : Place) (v w : List Shown) (o : Option Outcome) → i < length ps → p ≡ get_or ps i p
    → reverse v ≡ confirmed_calls cs (prefix_of (take i ps)) → o ≡ option_map (λ (d : Completion). d.outcome) (confirmation cs (prefix_of (take (i + 1) ps)))
    → w ≡ v ++ shown_by p.entry o → reverse w ≡ confirmed_calls cs (prefix_of (take (i + 1) ps))
unfolding confirmed_calls
shows_more cs ps i p v w o lt is before found e =
    let newest : prefix_of (take (i + 1) ps) ≡ p.entry ∷ prefix_of (take i ps) = newest_entry ps i p lt is in
    ap reverse e ∙ reverse_shown v p.entry o
    ∙ ap (λ (x : Option Outcome). shown_by p.entry x ++ reverse v) (found ∙ ap (λ (q : List Entry). option_map (λ (d : Completion). d.outcome) (confirmation cs q)) newest)
    ∙ ap (λ (s : List Shown). s ++ reverse v) (shown_is p.entry (confirmation cs (p.entry ∷ prefix_of (take i ps))))
    ∙ ap (λ (s : List Shown). shown_as p.entry (confirmation cs (p.entry ∷ prefix_of (take i ps))) ++ s) before
    ∙ ap (confirmed_calls cs) (sym newest)

-- what the last path of a client shows is the client's view
pub plain_view : (g : Group) (h : List TraceStep) → AreSteps g h → (cs ds : List CompletedCall) → cs ≡ completed_in h → ds ≡ cs → (me : ℕ) (p : List Entry) → p ≡ last_prefix me (completions_of ds)
    → (every : List CompletedCall) → every ≡ cs → confirmed_calls (completions_of every) p ≡ view_of g me h
unfolding view_of
plain_view g h steps cs ds is same me p last every all =
    ap (confirmed_calls (completions_of every)) (last ∙ ap (λ (x : List CompletedCall). last_prefix me (completions_of x)) (same ∙ is))
    ∙ ap (λ (x : List CompletedCall). confirmed_calls (completions_of x) (last_prefix me (completions_of (completed_in h)))) (all ∙ is)
    ∙ ap (λ (x : List Completion). confirmed_calls x (last_prefix me x)) (completed_are g h steps)
