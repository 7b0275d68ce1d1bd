-- Lists from a place on, and turned round.
use Rattle.std.proofs.Common.{◌≡◌, ℕ, suc, ◌+◌, ◌<◌, List, [], ◌∷◌, ◌++◌, length, get_or, drop, reverse, sym, ◌∙◌, ap, drop-cons, add-one, append_assoc}
use Rattle.std.proofs.lemmas.List.{reverse-append}
use Rattle.vic_dict.specs.declared.op.Entry.{Entry}

-- the rest of a list from a place on
pub rest_from : {X : Type 0} (xs : List X) (i : ℕ) (x : X) → i < length xs → x ≡ get_or xs i x → drop i xs ≡ x ∷ drop (i + 1) xs
rest_from {X} xs i x lt e = rw add-one (drop-cons xs i x lt ∙ ap (λ (y : X). y ∷ drop (suc i) xs) (sym e))

-- the next entry of a list that is turned round stands below the others
pub below_next : (e : Entry) (es below : List Entry) → reverse es ++ e ∷ below ≡ reverse (e ∷ es) ++ below
below_next e es below =
    sym (append_assoc (reverse es) (e ∷ []) below) ∙ ap (λ (xs : List Entry). xs ++ below) (sym (reverse-append (e ∷ []) es))
