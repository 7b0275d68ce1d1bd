-- What the fronts of a path leave, by comparison with the paths of all clients.
use Rattle.std.specs.Prelude.{ℕ, ◌-◌, Bool, false, List, [], map, nat_eq, nat_lt, if◌then◌else◌, slice_index_or, slice_get}
use Rattle.vic_wire.specs.Trees.{tree_of, node_texts}
use Rattle.vic_rules.specs.Views.{left_by}
use Rattle.vic_view.specs.Replay.{common_length, length_among, shown_below}
use Rattle.vic_apart.specs.declared.stand.Stand.{Stand}
use Rattle.vic_view.specs.declared.replay.Place.{Place}
use Rattle.vic_apart.specs.Places.{is_done_at}
use Rattle.vic_apart.specs.Stands.{no_stand}

-- the path of a client; a number that is no client's has none
abbrev pub paths_in : List Stand → ℕ → List Place
paths_in all owner = if nat_eq owner 0 then [] else (slice_index_or all (owner - 1) no_stand).path

-- the lengths that a path has in common with those of all clients
abbrev pub lengths_with : List Place → List Stand → List ℕ
lengths_with mine all = map (λ (s : Stand). common_length mine s.path) all

-- the owner of the place's entry completed the call there as done, where so much of its path is the same
abbrev pub is_done_among : List ℕ → List Stand → ℕ → ℕ → Bool
is_done_among lengths all owner n = if nat_lt n (length_among lengths owner) then is_done_at (slice_get (paths_in all owner) n) else false

-- the texts of the dictionary that a path leaves below a place
abbrev pub left_texts : (ℕ → List Place) → List Place → ℕ → List (List ℕ)
left_texts paths mine n = node_texts (tree_of (left_by (shown_below paths mine n)))
