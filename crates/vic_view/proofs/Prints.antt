-- What the loops over views print is what is printed of the history.
use Rattle.std.proofs.Common.{◌≡◌, ℕ, suc, zero, ◌+◌, ◌-◌, ◌<◌, ◌≤◌, Bool, List, [], ◌∷◌, ◌++◌, length, map, drop, reverse, get_or, refl, sym, ◌∙◌, ap, arith, append_assoc}
use Rattle.std.specs.List.{flat_map}
use Rattle.std.proofs.lemmas.List.{get_or_default, reverse-reverse, map-append, length-map, drop-map}
use Rattle.vic_wire.specs.Hashes.{Group}
use Rattle.vic_rules.specs.declared.trace.TraceStep.{TraceStep}
use Rattle.vic_rules.specs.declared.trace.Shown.{Shown}
use Rattle.vic_rules.specs.History.{IsLawful}
use Rattle.vic_rules.specs.Views.{view_of}
use Rattle.vic_script.specs.Print.{view_lines, agreement, agree_line, numbers_from, all_views, all_agreements, tags_line}
use Rattle.vic_view.specs.declared.replay.ClientPath.{ClientPath}
use Rattle.vic_view.specs.Replay.{no_path, replayed_path, AreReplayed, shown_below, places_among}
use Rattle.vic_view.specs.Printed.{shown_view, views_up_to, view_texts, agree_with, agree_texts}
use Rattle.vic_view.specs.Together.{rows_of}
use Rattle.vic_view.proofs.Fronts.{rest_from}
use Rattle.vic_view.proofs.Parting.{row_at, as_many}
use Rattle.vic_view.proofs.Shows.{view_shown, done_within}

-- a path among those that were replayed
pub replayed_at : (count : ℕ) (h : List TraceStep) (all every : List ClientPath) → every ≡ all → AreReplayed count h all → (i : ℕ) (mine : ClientPath) → i < length every → mine ≡ get_or every i mine
    → mine ≡ replayed_path (i + 1) h
replayed_at count h all every same r i mine lt is =
    let size : length all ≡ count = r.size in
    let more : length every ≡ length all = ap length same in
    is ∙ ap (λ (xs : List ClientPath). get_or xs i mine) same ∙ get_or_default all i mine no_path (omega arith) ∙ r.each i (omega arith)

numbers_more : (first n : ℕ) → numbers_from first (suc n) ≡ numbers_from first n ++ (first + n) ∷ []
numbers_more first zero = let e : first ≡ first + zero = omega arith in ap (λ (k : ℕ). k ∷ []) e
numbers_more first (suc n) =
    let e : first + 1 + n ≡ first + suc n = omega arith in
    ap (λ (ks : List ℕ). first ∷ ks) (numbers_more (first + 1) n) ∙ ap (λ (k : ℕ). (first ∷ numbers_from (first + 1) n) ++ k ∷ []) e

-- one more view
views_more : (g : Group) (h : List TraceStep) (n : ℕ) → views_up_to g h (n + 1) ≡ views_up_to g h n ++ shown_view g h (n + 1) ∷ []
views_more g h n =
    let e : n + 1 ≡ suc n = omega arith in
    let f : 1 + n ≡ n + 1 = omega arith in
    ap (views_up_to g h) e ∙ ap (map (shown_view g h)) (numbers_more 1 n) ∙ map-append (shown_view g h) (numbers_from 1 n) ((1 + n) ∷ [])
    ∙ ap (λ (k : ℕ). views_up_to g h n ++ shown_view g h k ∷ []) f

pub views_next : (g : Group) (h : List TraceStep) (n : ℕ) (vs ws : List (List Shown)) (v w : List Shown) → vs ≡ views_up_to g h n → reverse v ≡ w → w ≡ view_of g (n + 1) h → ws ≡ vs ++ v ∷ []
    → ws ≡ views_up_to g h (n + 1)
views_next g h n vs ws v w before shown is e =
    let one : v ≡ shown_view g h (n + 1) = sym (reverse-reverse v) ∙ ap reverse (shown ∙ is) in
    e ∙ ap (λ (us : List (List Shown)). us ++ v ∷ []) before ∙ ap (λ (u : List Shown). views_up_to g h n ++ u ∷ []) one ∙ sym (views_more g h n)

-- a path among all shows its client's view
pub view_among_all : (g : Group) (h : List TraceStep) → IsLawful g h → (all every : List ClientPath) → every ≡ all → AreReplayed g.count h all → (i : ℕ) (mine : ClientPath) → i < length every
    → mine ≡ get_or every i mine → shown_below (places_among every) mine.places mine.done ≡ view_of g (i + 1) h
view_among_all g h lawful all every same r i mine lt is =
    view_shown g h lawful all every same r (i + 1) mine (replayed_at g.count h all every same r i mine lt is)

pub done_among : (g : Group) (h : List TraceStep) → IsLawful g h → (all every : List ClientPath) → every ≡ all → AreReplayed g.count h all → (i : ℕ) (mine : ClientPath) → i < length every
    → mine ≡ get_or every i mine → mine.done ≤ length mine.places
done_among g h lawful all every same r i mine lt is = done_within g h lawful (i + 1) mine (replayed_at g.count h all every same r i mine lt is)

-- as many views as paths
pub views_end : (g : Group) (h : List TraceStep) (all every : List ClientPath) (n : ℕ) → every ≡ all → AreReplayed g.count h all → n ≡ length every → views_up_to g h n ≡ views_up_to g h g.count
views_end g h all every n same r e = ap (views_up_to g h) (e ∙ ap length same ∙ r.size)

-- ---- what is printed

texts_are : (g : Group) (h : List TraceStep) (first n : ℕ) → view_texts first (map (shown_view g h) (numbers_from first n)) ≡ flat_map (view_lines g h) (numbers_from first n)
texts_are g h first zero = refl
texts_are g h first (suc n) = ap (λ (ts : List ℕ). view_lines g h first ++ ts) (texts_are g h (first + 1) n)

agree_is : (g : Group) (h : List TraceStep) (i first n : ℕ) → agree_with i first (map (agreement (shown_view g h i)) (map (shown_view g h) (numbers_from first n))) ≡ flat_map (agree_line g h i) (numbers_from first n)
agree_is g h i first zero = refl
agree_is g h i first (suc n) = ap (λ (ts : List ℕ). agree_line g h i first ++ ts) (agree_is g h i (first + 1) n)

agrees_are : (g : Group) (h : List TraceStep) (first n count : ℕ) → count + 1 ≡ first + n → agree_texts first (map (shown_view g h) (numbers_from first n))
    ≡ flat_map (λ i. flat_map (agree_line g h i) (numbers_from (i + 1) (count - i))) (numbers_from first n)
agrees_are g h first zero count e = refl
agrees_are g h first (suc n) count e =
    let left : n ≡ count - first = omega arith in
    ap (λ (ts : List ℕ). ts ++ agree_texts (first + 1) (map (shown_view g h) (numbers_from (first + 1) n)))
    (agree_is g h first (first + 1) n ∙ ap (λ (k : ℕ). flat_map (agree_line g h first) (numbers_from (first + 1) k)) left)
    ∙ ap (λ (ts : List ℕ). flat_map (agree_line g h first) (numbers_from (first + 1) (count - first)) ++ ts) (agrees_are g h (first + 1) n count (omega arith))

length_numbers : (first n : ℕ) → length (numbers_from first n) ≡ n
length_numbers first zero = refl
length_numbers first (suc n) = ap suc (length_numbers (first + 1) n)

-- how far the next view agrees with those behind it
agree_row : (views : List (List Shown)) (i : ℕ) (v : List Shown) (row : List ℕ) → row ≡ map (agreement v) views → i < length views → v ≡ get_or views i v
    → agree_with (i + 1) (i + 1 + 1) (drop (i + 1) row) ++ agree_texts (i + 1 + 1) (drop (i + 1) views) ≡ agree_texts (i + 1) (drop i views)
agree_row views i v row e lt is =
    ap (λ (ns : List ℕ). agree_with (i + 1) (i + 1 + 1) ns ++ agree_texts (i + 1 + 1) (drop (i + 1) views)) (ap (drop (i + 1)) e ∙ drop-map (agreement v) (i + 1) views)
    ∙ sym (ap (agree_texts (i + 1)) (rest_from views i v lt is))

pub agree_next : (views : List (List Shown)) (rows : List (List ℕ)) (i : ℕ) (kept row : List ℕ) (out more all : List ℕ) → rows ≡ rows_of agreement views → i < length rows → kept ≡ get_or rows i kept
    → row ≡ kept → more ≡ out ++ agree_with (i + 1) (i + 1 + 1) (drop (i + 1) row) → out ++ agree_texts (i + 1) (drop i views) ≡ all
    → more ++ agree_texts (i + 1 + 1) (drop (i + 1) views) ≡ all
agree_next views rows i kept row out more all are lt is same put before =
    let size : length rows ≡ length views = as_many agreement views rows are in
    let v : List Shown = get_or views i [] in
    let there : v ≡ get_or views i v = get_or_default views i [] v (omega (arith, size)) in
    let e : row ≡ map (agreement v) views = same ∙ row_at agreement views rows i v kept are (omega (arith, size)) there is in
    ap (λ (x : List ℕ). x ++ agree_texts (i + 1 + 1) (drop (i + 1) views)) put
    ∙ append_assoc out (agree_with (i + 1) (i + 1 + 1) (drop (i + 1) row)) (agree_texts (i + 1 + 1) (drop (i + 1) views))
    ∙ ap (λ (x : List ℕ). out ++ x) (agree_row views i v row e (omega (arith, size)) there)
    ∙ before

-- each row is as long as there are views
pub row_length : (views : List (List Shown)) (rows : List (List ℕ)) (i : ℕ) (kept row : List ℕ) → rows ≡ rows_of agreement views → i < length rows → kept ≡ get_or rows i kept → row ≡ kept
    → length row ≡ length views
row_length views rows i kept row are lt is same =
    let size : length rows ≡ length views = as_many agreement views rows are in
    let v : List Shown = get_or views i [] in
    let there : v ≡ get_or views i v = get_or_default views i [] v (omega (arith, size)) in
    ap length (same ∙ row_at agreement views rows i v kept are (omega (arith, size)) there is) ∙ length-map views (agreement v)

-- so many views as clients
pub length_views : (g : Group) (h : List TraceStep) (n : ℕ) → length (views_up_to g h n) ≡ n
length_views g h n = length-map (numbers_from 1 n) (shown_view g h) ∙ length_numbers 1 n

-- the three parts, one after the other
pub prints_all : (g : Group) (h : List TraceStep) (views : List (List Shown)) (forged : Bool) (a b c d : List ℕ) → views ≡ views_up_to g h g.count → b ≡ a ++ view_texts 1 views
    → c ≡ b ++ agree_texts 1 views → d ≡ c ++ tags_line forged → d ≡ a ++ (all_views g h ++ all_agreements g h ++ tags_line forged)
prints_all g h views forged a b c d is eb ec ed =
    let one : b ≡ a ++ all_views g h = eb ∙ ap (λ (x : List ℕ). a ++ x) (ap (view_texts 1) is ∙ texts_are g h 1 g.count) in
    let two : agree_texts 1 views ≡ all_agreements g h = ap (agree_texts 1) is ∙ agrees_are g h 1 g.count g.count (omega arith) in
    let both : c ≡ a ++ (all_views g h ++ all_agreements g h) =
    ec ∙ ap (λ (x : List ℕ). x ++ agree_texts 1 views) one ∙ ap (λ (x : List ℕ). a ++ all_views g h ++ x) two ∙ append_assoc a (all_views g h) (all_agreements g h) in
    ed ∙ ap (λ (x : List ℕ). x ++ tags_line forged) both ∙ append_assoc a (all_views g h ++ all_agreements g h) (tags_line forged)
