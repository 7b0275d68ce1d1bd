-- A chain goes on by one answer.
use Rattle.std.proofs.Common.{◌≡◌, ℕ, List, [], ◌∷◌, ◌++◌, Option, Some, None, refl, sym, subst}
use Rattle.vic_gate.specs.Workers.{Handled, Manner, Chain}

pub chain_more : {A G P : Type 0} (manner : Manner A G) (answers : P → ℕ → List ℕ → Option A → P → Type 0) (greeted then : G) (p m q : P) (xs : List (Handled A)) (x : Handled A)
    → Chain manner answers greeted p xs then m → x.who ≡ manner.asks then → answers m x.who x.payload (Some x.answer) q
    → Chain manner answers greeted p (xs ++ x ∷ []) (manner.after then x.payload x.answer) q
chain_more {G = G} manner answers greeted then p m q [] x c is s =
    (q, (is-here, (subst (λ r. answers r x.who x.payload (Some x.answer) q) (sym c.0) s, (refl, again))))
  where
    is-here : x.who ≡ manner.asks greeted
    is-here = subst (λ (g : G). x.who ≡ manner.asks g) (sym c.1) is

    again : manner.after greeted x.payload x.answer ≡ manner.after then x.payload x.answer
    again = subst (λ (g : G). manner.after greeted x.payload x.answer ≡ manner.after g x.payload x.answer) c.1 refl
chain_more {G = G} manner answers greeted then p m q (y ∷ xs) x c is s =
    (c.0, (c.1.0, (c.1.1.0, chain_more manner answers (manner.after greeted y.payload y.answer) then c.0 m q xs x c.1.1.1 is s)))
