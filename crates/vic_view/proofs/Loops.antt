-- What the loop over steps keeps.
use Rattle.std.proofs.Common.{◌≡◌, ℕ, ◌+◌, ◌<◌, Bool, List, [], ◌∷◌, length, get_or, take, reverse, if◌then◌else◌, sym, ◌∙◌, ap}
use Rattle.std.proofs.lemmas.Bool.{eq-eqb, ne_eqb}
use Rattle.std.proofs.lemmas.List.{reverse-append, take_more}
use Rattle.vic_rules.specs.declared.trace.TraceStep.{TraceStep}
use Rattle.vic_view.specs.declared.replay.Place.{Place}
use Rattle.vic_view.specs.declared.replay.ClientPath.{ClientPath}
use Rattle.vic_view.specs.Replay.{path_after, replayed_path}

-- the newest step of the steps so far
pub newest_step : {X : Type 0} (xs : List X) (i : ℕ) (x : X) → i < length xs → x ≡ get_or xs i x → reverse (take (i + 1) xs) ≡ x ∷ reverse (take i xs)
newest_step {X} xs i x lt is =
    ap reverse (take_more xs i x lt) ∙ reverse-append (take i xs) (get_or xs i x ∷ []) ∙ ap (λ (y : X). y ∷ reverse (take i xs)) (sym is)

-- a step of the client
pub replay_own : (me : ℕ) (x : TraceStep) (past h : List TraceStep) (p : ClientPath) → x.client ≡ me → h ≡ x ∷ past → p ≡ replayed_path me past → path_after x p ≡ replayed_path me h
unfolding replayed_path
replay_own me x past h p own is e =
    ap (path_after x) e ∙ sym (ap (λ (b : Bool). if b then path_after x (replayed_path me past) else replayed_path me past) (eq-eqb x.client me own)) ∙ ap (replayed_path me) (sym is)

-- a step of another client
pub replay_other : (me : ℕ) (x : TraceStep) (past h : List TraceStep) (p : ClientPath) → (x.client ≡ me → ⊥) → h ≡ x ∷ past → p ≡ replayed_path me past → p ≡ replayed_path me h
unfolding replayed_path
replay_other me x past h p other is e =
    e ∙ sym (ap (λ (b : Bool). if b then path_after x (replayed_path me past) else replayed_path me past) (ne_eqb x.client me other)) ∙ ap (replayed_path me) (sym is)

-- no step
pub replay_start : (me : ℕ) (ps : List Place) → ps ≡ [] → record { places = ps; done = 0 } ≡ replayed_path me []
unfolding replayed_path
replay_start me ps e = ap (λ (xs : List Place). record { places = xs; done = 0 }) e
