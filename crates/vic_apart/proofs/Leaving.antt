-- The dictionaries that the fronts of a path leave, by comparison with the paths of all clients.
use Rattle.std.specs.Prelude.{◌≡◌, ℕ, zero, suc, ◌+◌, ◌-◌, ◌*◌, ◌<◌, ◌≤◌, ◌⊎◌, Bool, true, false, List, [], ◌∷◌, ◌++◌, length, take, drop, map, reverse, Option, Some, None, nat_eq, nat_lt, if◌then◌else◌, slice_get, sum_by}
use Rattle.std.specs.List.{AllByRecursion}
use Rattle.std.specs.FinMap as finmap
use Rattle.std.proofs.Common.{refl, ap, subst, sym, ◌∙◌, inl, inr, get_or, arith}
use Rattle.std.proofs.lemmas.Bool.{cases_eq, eq-eqb, ne_eqb}
use Rattle.std.proofs.lemmas.List.{append-nil, reverse-append, take-append-drop, length-map, length-reverse, length-take-le, get_or_past}
use Rattle.vic_dict.specs.declared.op.Entry.{Entry}
use Rattle.vic_dict.specs.declared.op.Outcome.{Outcome}
use Rattle.vic_dict.specs.declared.op.Outcome.TheVariants as outcome
use Rattle.vic_dict.specs.Lists.{front}
use Rattle.vic_dict.specs.Dictionary.{Dictionary, nothing, after}
use Rattle.vic_wire.specs.Hashes.{Group}
use Rattle.vic_wire.specs.Trees.{Empty, tree_of, node_texts}
use Rattle.vic_rules.specs.declared.trace.TraceStep.{TraceStep}
use Rattle.vic_rules.specs.declared.trace.Shown.{Shown}
use Rattle.vic_rules.specs.History.{standing, path, IsLawful, completions}
use Rattle.vic_rules.specs.Trust.{node_texts_left}
use Rattle.vic_rules.specs.Views.{confirmed_calls, left_by}
use Rattle.vic_laws.specs.Meanings.{texts_of_each, zero_to}
use Rattle.vic_laws.proofs.Growth.{front_grows, front_whole, stands_within}
use Rattle.vic_tree.proofs.Stands.{entries_of}
use Rattle.vic_trie.specs.Weights.{pair_weight, weight_of}
use Rattle.vic_trie.proofs.Kept.{empty_is}
use Rattle.vic_view.specs.Plain.{prefix_of}
use Rattle.vic_view.specs.Replay.{common_length, outcome_of, outcome_there, shown_by, shown_place, shown_below, replayed_path}
use Rattle.vic_view.specs.Making.{IsPlaceEntry}
use Rattle.vic_view.proofs.Forging.{replayed_spelled}
use Rattle.vic_made.proofs.Spelled.{path_few}
use Rattle.vic_view.proofs.Replays.{replays_path}
use Rattle.vic_view.proofs.Shows.{stranger, shows_front}
use Rattle.vic_apart.specs.declared.stand.Stand.{Stand}
use Rattle.vic_view.specs.declared.replay.Place.{Place}
use Rattle.vic_apart.specs.Places.{is_done_with, is_done_at}
use Rattle.vic_apart.specs.Stands.{no_stand, StandsAs, AreStands}
use Rattle.vic_apart.specs.Sealed.{paths_in, lengths_with, is_done_among, left_texts}
use Rattle.vic_apart.proofs.Gathered.{gathered_same, position_next}

-- ---- which calls were done

none_with_nothing : (mine : List Place) → common_length mine [] ≡ 0
none_with_nothing [] = refl
none_with_nothing (p ∷ mine) = refl

length_at : (mine : List Place) (all : List Stand) (k : ℕ) → get_or (lengths_with mine all) k 0 ≡ common_length mine (get_or all k no_stand).path
length_at mine [] k = sym (none_with_nothing mine)
length_at mine (s ∷ all) zero = refl
length_at mine (s ∷ all) (suc k) = length_at mine all k

length_is : (mine : List Place) (all : List Stand) (owner : ℕ) (b : Bool) → (if b then 0 else get_or (lengths_with mine all) (owner - 1) 0) ≡ common_length mine (if b then [] else (get_or all (owner - 1) no_stand).path)
length_is mine all owner true = sym (none_with_nothing mine)
length_is mine all owner false = length_at mine all (owner - 1)

done_if : (b : Bool) (s : Option Place) → (if b then is_done_at s else false) ≡ is_done_with (if b then outcome_of s else None)
done_if true None = refl
done_if true (Some p) = refl
done_if false s = refl

-- with the lengths in common, what is done is what the comparison of the two paths finds
done_among : (mine : List Place) (all : List Stand) (owner n : ℕ) → is_done_among (lengths_with mine all) all owner n ≡ is_done_with (outcome_there mine (paths_in all owner) n)
done_among mine all owner n =
    ap (λ (k : ℕ). if nat_lt n k then is_done_at (slice_get (paths_in all owner) n) else false) (length_is mine all owner (nat_eq owner 0))
    ∙ done_if (nat_lt n (common_length mine (paths_in all owner))) (slice_get (paths_in all owner) n)

-- ---- what is left

left_shown : (o : Option Outcome) (e : Entry) (v : List Shown) → (if is_done_with o then after (left_by v) e.op else left_by v) ≡ left_by (shown_by e o ++ v)
unfolding left_by
left_shown None e v = refl
left_shown (Some (outcome.Done a)) e v = refl
left_shown (Some (outcome.Aborted u)) e v = refl
left_shown (Some (outcome.Refused r)) e v = refl
left_shown (Some (outcome.Halted k)) e v = refl

shown_next : (paths : ℕ → List Place) (mine : List Place) (n : ℕ) (p : Place) → slice_get mine n ≡ Some p
    → shown_by p.entry (outcome_there mine (paths p.entry.client) n) ++ shown_below paths mine n ≡ shown_below paths mine (n + 1)
unfolding shown_below
shown_next paths mine n p there =
    let next : suc n ≡ n + 1 = omega arith in
    ap (λ (s : Option Place). shown_place paths mine n s ++ shown_below paths mine n) (sym there) ∙ ap (shown_below paths mine) next

get_there : (ps : List Place) (i : ℕ) (p : Place) → i < length ps → p ≡ get_or ps i p → slice_get ps i ≡ Some p
get_there [] i p lt is = absurd (omega arith)
get_there (q ∷ ps) zero p lt is = ap Some (sym is)
get_there (q ∷ ps) (suc i) p lt is = get_there ps i p (omega arith) is

-- ---- what the loop over positions keeps

pub record Leaves (all : List Stand) (mine : List Place) (first ts : List (List ℕ)) (d : Dictionary) (n : ℕ) : Type 0 where
  pub dict : d ≡ left_by (shown_below (paths_in all) mine n)
  pub light : weight_of d ≤ 335 * n
  pub texts : ts ≡ first ++ texts_of_each (left_texts (paths_in all) mine) (zero_to n)

no_weight : weight_of nothing ≤ 0
no_weight =
    let none : weight_of nothing ≡ 0 = ap (sum_by pair_weight) (ap finmap.entries (sym empty_is) ∙ entries_of Empty tt) in
    omega arith

pub leaves_start : (all : List Stand) (mine : List Place) (first ts : List (List ℕ)) (d : Dictionary) → d ≡ finmap.empty → ts ≡ first ++ node_texts (tree_of d) → Leaves all mine first ts d 0
unfolding shown_below left_by
leaves_start all mine first ts d e is = record {
  dict = e;
  light = subst (λ (x : Dictionary). weight_of x ≤ 0) (sym e) no_weight;
  texts = is ∙ ap (λ (x : Dictionary). first ++ node_texts (tree_of x)) e ∙ sym (ap (λ (xs : List (List ℕ)). first ++ xs) (append-nil (node_texts (tree_of nothing))));
}

pub leaves_next : (all : List Stand) (mine : List Place) (first ts us : List (List ℕ)) (d more : Dictionary) (n : ℕ) (p : Place) (e : Entry) (lengths : List ℕ) (done : Bool)
    → n < length mine → p ≡ get_or mine n p → e ≡ p.entry → lengths ≡ lengths_with mine all → done ≡ is_done_among lengths all e.client n
    → Leaves all mine first ts d n → more ≡ (if done then after d e.op else d) → weight_of more ≤ weight_of d + 335 → us ≡ ts ++ node_texts (tree_of more)
    → Leaves all mine first us more (n + 1)
leaves_next all mine first ts us d more n p e lengths done lt is entry are found before left weighs texts =
    let o : Option Outcome = outcome_there mine (paths_in all p.entry.client) n in
    let done_is : done ≡ is_done_with o =
    found ∙ ap (λ (l : List ℕ). is_done_among l all e.client n) are ∙ done_among mine all e.client n
    ∙ ap (λ (x : Entry). is_done_with (outcome_there mine (paths_in all x.client) n)) entry in
    let dict : more ≡ left_by (shown_below (paths_in all) mine (n + 1)) =
    left ∙ ap (λ (b : Bool). if b then after d e.op else d) done_is
    ∙ ap (λ (x : Entry). if is_done_with o then after d x.op else d) entry
    ∙ ap (λ (x : Dictionary). if is_done_with o then after x p.entry.op else x) before.dict
    ∙ left_shown o p.entry (shown_below (paths_in all) mine n)
    ∙ ap left_by (shown_next (paths_in all) mine n p (get_there mine n p lt is)) in
    record {
      dict = dict;
      light = let l = before.light in omega (arith, l, weighs);
      texts = position_next (left_texts (paths_in all) mine) n first ts us (node_texts (tree_of more)) before.texts texts (ap (λ (x : Dictionary). node_texts (tree_of x)) dict);
    }

-- ---- the sealed dictionaries

-- a front of a list that is turned round
front_turned : (es : List Entry) (n : ℕ) → n ≤ length es → front n (reverse es) ≡ reverse (take n es)
front_turned es n le =
    let size : length (reverse (take n es)) ≡ n = length-reverse (take n es) ∙ length-take-le n es le in
    ap (front n) (ap reverse (sym (take-append-drop n es)) ∙ reverse-append (take n es) (drop n es))
    ∙ front_grows (reverse (drop n es)) (reverse (take n es)) n (omega (arith, size))
    ∙ front_whole n (reverse (take n es)) (omega (arith, size))

is_within : (n u : ℕ) → (u < n) ⊎ (n ≤ u)
is_within n u = grind arith

-- the paths of all clients, a number that is no client's having none
paths_are : (g : Group) (h : List TraceStep) → IsLawful g h → (all : List Stand) → AreStands g.count g h all → (j : ℕ) → paths_in all j ≡ (replayed_path j h).places
paths_are g h lawful all r j =
    elim (cases_eq j 0) [
      | inl e ↦ ap (λ (b : Bool). if b then [] else (get_or all (j - 1) no_stand).path) (eq-eqb j 0 e)
          ∙ sym (ap (λ p. p.places) (stranger g h lawful.steps j (λ i pos le same. omega (arith, e, same, pos))))
      | inr differ ↦ ap (λ (b : Bool). if b then [] else (get_or all (j - 1) no_stand).path) (ne_eqb j 0 differ) ∙
          elim (is_within g.count (j - 1)) [
            | inl lt ↦ let same : j - 1 + 1 ≡ j = omega arith in (r.each (j - 1) lt).path ∙ ap (λ (k : ℕ). (replayed_path k h).places) same
            | inr ge ↦ let size : length all ≡ g.count = r.size in
                ap (λ (s : Stand). s.path) (get_or_past all (j - 1) no_stand (omega arith))
                ∙ sym (ap (λ p. p.places) (stranger g h lawful.steps j (λ i pos le same. omega (arith, same, pos, le))))
          ]
    ]

-- the path of a client that stands so
pub path_is : (g : Group) (h : List TraceStep) → IsLawful g h → (me : ℕ) (s : Stand) → StandsAs g me h s → prefix_of s.path ≡ path g me h
path_is g h lawful me s st = ap prefix_of st.path ∙ replays_path g h lawful.steps me

pub path_entries : (g : Group) (h : List TraceStep) → IsLawful g h → (me : ℕ) (s : Stand) → StandsAs g me h s → AllByRecursion IsPlaceEntry s.path
path_entries g h lawful me s st = subst (AllByRecursion IsPlaceEntry) (sym st.path) (replayed_spelled g h lawful.steps me)

path_length : (g : Group) (h : List TraceStep) → IsLawful g h → (me : ℕ) (s : Stand) → StandsAs g me h s → length s.path ≡ length (path g me h)
path_length g h lawful me s st =
    sym (length-map s.path (λ (p : Place). p.entry)) ∙ sym (length-reverse (map (λ (p : Place). p.entry) s.path)) ∙ ap length (path_is g h lawful me s st)

pub few_places : (g : Group) (h : List TraceStep) → IsLawful g h → (me : ℕ) (s : Stand) → StandsAs g me h s → length s.path ≤ 1048576
few_places g h lawful me s st = subst (λ (n : ℕ). n ≤ 1048576) (sym (path_length g h lawful me s st)) (path_few g h lawful.steps me)

pub sealed_within : (g : Group) (h : List TraceStep) → IsLawful g h → (me : ℕ) (s : Stand) → StandsAs g me h s → s.sealed ≤ length s.path
sealed_within g h lawful me s st =
    subst (λ (n : ℕ). n ≤ length s.path) (sym st.sealed) (subst (λ (n : ℕ). (standing g me h).sealed ≤ n) (sym (path_length g h lawful me s st)) (stands_within g h lawful.steps me).sealed)

-- the texts that are put for a client are those of its sealed dictionaries
pub left_is : (g : Group) (h : List TraceStep) → IsLawful g h → (all every : List Stand) → every ≡ all → AreStands g.count g h all → (me : ℕ) (s : Stand) → StandsAs g me h s
    → texts_of_each (left_texts (paths_in every) s.path) (zero_to s.sealed) ≡ texts_of_each (λ n. node_texts_left g h (front n (path g me h))) (zero_to (standing g me h).sealed)
left_is g h lawful all every same r me s st =
    ap (λ (x : List Stand). texts_of_each (left_texts (paths_in x) s.path) (zero_to s.sealed)) same
    ∙ gathered_same (left_texts (paths_in all) s.path) (λ n. node_texts_left g h (front n (path g me h))) s.sealed at_each
    ∙ ap (λ (n : ℕ). texts_of_each (λ k. node_texts_left g h (front k (path g me h))) (zero_to n)) st.sealed
  where
    at_each : (n : ℕ) → n ≤ s.sealed → left_texts (paths_in all) s.path n ≡ node_texts_left g h (front n (path g me h))
    at_each n le =
        let within : s.sealed ≤ length s.path = sealed_within g h lawful me s st in
        let es : List Entry = map (λ (p : Place). p.entry) s.path in
        let here : n ≤ length es = omega (arith, within, le, length-map s.path (λ (p : Place). p.entry)) in
        ap (λ (v : List Shown). node_texts (tree_of (left_by v)))
        (shows_front g h lawful.steps (paths_in all) (paths_are g h lawful all r) s.path n (omega (arith, within, le))
        ∙ ap (confirmed_calls (completions g h)) (sym (front_turned es n here) ∙ ap (front n) (path_is g h lawful me s st)))
