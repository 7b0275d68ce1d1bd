-- Lists of passes.
use Rattle.std.proofs.Common.{◌≡◌, ℕ, zero, suc, ◌+◌, ◌<◌, List, [], ◌∷◌, ◌++◌, length, map, get_or, sym, ap, ◌∙◌, arith}
use Rattle.std.specs.List.{range_with_len}
use Rattle.std.proofs.lemmas.List.{map-id}
use Rattle.std.proofs.lemmas.List.FromFn.{map-range_with_len_more}
use Rattle.vic_turn.specs.Changes.{Each}

pub range_more : (a n j : ℕ) → a + n ≡ j → range_with_len a (n + 1) ≡ range_with_len a n ++ j ∷ []
range_more a n j e = sym (map-id (range_with_len a (n + 1))) ∙ map-range_with_len_more (λ (x : ℕ). x) a n j e ∙ ap (λ l. l ++ j ∷ []) (map-id (range_with_len a n))

pub each_map_at : {A B : Type 0} (P : B → Type 0) (f : A → B) (xs : List A) → Each P (map f xs) → (k : ℕ) (d : A) → k < length xs → P (f (get_or xs k d))
each_map_at P f [] e k d lt = absurd (omega arith)
each_map_at P f (x ∷ xs) e zero d lt = e.0
each_map_at P f (x ∷ xs) e (suc k) d lt = each_map_at P f xs e.1 k d (omega arith)
