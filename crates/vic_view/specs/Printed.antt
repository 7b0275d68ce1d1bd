-- What is printed of a list of views, of clients 1, 2 and so on, each with the oldest call first.
use Rattle.std.specs.Prelude.{ℕ, ◌+◌, List, [], ◌∷◌, ◌++◌, map, reverse, codes}
use Rattle.std.specs.List.{flat_map}
use Rattle.std.specs.Fmt.{decimal}
use Rattle.vic_wire.specs.Hashes.{Group}
use Rattle.vic_rules.specs.declared.trace.TraceStep.{TraceStep}
use Rattle.vic_rules.specs.declared.trace.Shown.{Shown}
use Rattle.vic_rules.specs.Views.{view_of}
use Rattle.vic_script.specs.Words.{space, newline}
use Rattle.vic_script.specs.Print.{shown_line, agreement, numbers_from}

abbrev pub shown_view : Group → List TraceStep → ℕ → List Shown
shown_view g h i = reverse (view_of g i h)

-- the views of clients 1 and up, so many
abbrev pub views_up_to : Group → List TraceStep → ℕ → List (List Shown)
views_up_to g h n = map (shown_view g h) (numbers_from 1 n)

abbrev pub view_text : ℕ → List Shown → List ℕ
view_text i v = codes "view " ++ decimal i ++ newline ++ flat_map shown_line v

abbrev pub view_texts : ℕ → List (List Shown) → List ℕ
view_texts first [] = []
view_texts first (v ∷ vs) = view_text first v ++ view_texts (first + 1) vs

abbrev pub agree_text : ℕ → ℕ → ℕ → List ℕ
agree_text i j n = codes "agree " ++ decimal i ++ space ++ decimal j ++ space ++ decimal n ++ newline

-- how far a client's view agrees with those of others, the first of which has this number
abbrev pub agree_with : ℕ → ℕ → List ℕ → List ℕ
agree_with i first [] = []
agree_with i first (n ∷ ns) = agree_text i first n ++ agree_with i (first + 1) ns

-- how far each two agree
abbrev pub agree_texts : ℕ → List (List Shown) → List ℕ
agree_texts first [] = []
agree_texts first (v ∷ vs) = agree_with first (first + 1) (map (agreement v) vs) ++ agree_texts (first + 1) vs
