-- Lists in memory have the oldest first, and the rule's have the newest first: what stands where.
use Rattle.std.proofs.Common.{◌≡◌, ℕ, zero, suc, ◌+◌, ◌-◌, ◌<◌, ◌≤◌, true, false, cond, List, [], ◌∷◌, ◌++◌, length, get_or, take, drop, reverse, map, lt-ltb, Some, refl, sym, ap, ◌∙◌, arith, length-append, length-drop}
use Rattle.std.specs.Prelude.{nat_lt}
use Rattle.std.specs.List.{sum_by}
use Rattle.std.proofs.lemmas.Grind.{reverse_onto}
use Rattle.std.proofs.lemmas.List.{reverse-append, reverse-reverse, length-reverse, take-append-drop, drop_at, drop_all, drop-append-le, drop-take, take_more, map_push}
use Rattle.std.proofs.lemmas.List.Sums.{sum_by_push, sum_by-drop_more}
use Rattle.vic_dict.specs.Lists.{front, newest}
use Rattle.vic_order.specs.Order.{Ordered, tagged_entry, entries_above, op_weight, unsealed_weight}

-- the oldest items, the newest first
pub front-reverse : {X : Type 0} (n : ℕ) (xs : List X) → front n (reverse xs) ≡ reverse (take n xs)
front-reverse n xs =
    let parts : reverse xs ≡ reverse (drop n xs) ++ reverse (take n xs) = ap reverse (sym (take-append-drop n xs)) ∙ reverse-append (take n xs) (drop n xs) in
    let len : length (reverse (drop n xs)) ≡ length (reverse xs) - n = length-reverse (drop n xs) ∙ length-drop n xs ∙ ap (λ k. k - n) (sym (length-reverse xs)) in
    ap (drop (length (reverse xs) - n)) parts ∙ drop_at (reverse (drop n xs)) (reverse (take n xs)) (length (reverse xs) - n) len

-- the item at a place is the newest of those up to it
pub newest-front : {X : Type 0} (i : ℕ) (xs : List X) (d : X) → i < length xs → newest (front (suc i) (reverse xs)) ≡ Some (get_or xs i d)
newest-front {X} i xs d lt =
    let k : suc i ≡ i + 1 = omega arith in
    ap newest (front-reverse (suc i) xs ∙ ap (λ n. reverse (take n xs)) k ∙ ap reverse (take_more xs i d lt) ∙ reverse-append (take i xs) (get_or xs i d ∷ []))

drop_none : {X : Type 0} (n : ℕ) → ◌≡◌ {A = List X} (drop n []) []
drop_none zero = refl
drop_none (suc n) = refl

-- one item more above a position, or none
drop_newest : {X : Type 0} (n : ℕ) (x : X) (log : List X) → drop n (reverse (x ∷ log)) ≡ cond (nat_lt n (length (x ∷ log))) (drop n (reverse log) ++ x ∷ []) []
drop_newest n x log =
    let first : reverse (x ∷ log) ≡ reverse log ++ x ∷ [] = reverse_onto log x [] in
    let len : length (reverse log) ≡ length log = length-reverse log in
    ap (drop n) first ∙ elim (nat_lt n (length (x ∷ log))) as (λ b. nat_lt n (length (x ∷ log)) ≡ b → drop n (reverse log ++ x ∷ []) ≡ cond b (drop n (reverse log) ++ x ∷ []) []) [
      | true ↦ λ e. drop-append-le n (reverse log) (x ∷ []) (grind (arith, e, len))
      | false ↦ λ e. drop_all n (reverse log ++ x ∷ []) (grind (arith, e, len, length-append (reverse log) (x ∷ [])))
    ] refl

-- the entries above a position, the oldest first
pub entries_above-log : (known : ℕ) (log : List Ordered) → entries_above known log ≡ map tagged_entry (drop known (reverse log))
unfolding entries_above
entries_above-log known [] = ap (map tagged_entry) (sym (drop_none {X = Ordered} known))
entries_above-log known (o ∷ log) =
    elim (nat_lt known (length (o ∷ log))) as (λ b. cond b (entries_above known log ++ tagged_entry o ∷ []) [] ≡ map tagged_entry (cond b (drop known (reverse log) ++ o ∷ []) [])) [
      | true ↦ ap (λ l. l ++ tagged_entry o ∷ []) (entries_above-log known log) ∙ sym (map_push tagged_entry (drop known (reverse log)) o)
      | false ↦ refl
    ] ∙ ap (map tagged_entry) (sym (drop_newest known o log))

-- the weight of the puts above a position
pub unsealed_weight-log : (sealed : ℕ) (log : List Ordered) → unsealed_weight sealed log ≡ sum_by (λ o. op_weight o.entry.op) (drop sealed (reverse log))
unfolding unsealed_weight
unsealed_weight-log sealed [] = ap (sum_by (λ (o : Ordered). op_weight o.entry.op)) (sym (drop_none {X = Ordered} sealed))
unsealed_weight-log sealed (o ∷ log) =
    let f : Ordered → ℕ = λ x. op_weight x.entry.op in
    elim (nat_lt sealed (length (o ∷ log))) as (λ b. cond b (f o + unsealed_weight sealed log) 0 ≡ sum_by f (cond b (drop sealed (reverse log) ++ o ∷ []) [])) [
      | true ↦ (let so_far = unsealed_weight-log sealed log in let last = sum_by_push f (drop sealed (reverse log)) o in omega (arith, so_far, last))
      | false ↦ refl
    ] ∙ ap (sum_by f) (sym (drop_newest sealed o log))

-- a put that is sealed counts no longer among those that aren't
pub unsealed_weight-next : (sealed : ℕ) (rows : List Ordered) (d : Ordered) → sealed < length rows
    → unsealed_weight sealed (reverse rows) ≡ op_weight (get_or rows sealed d).entry.op + unsealed_weight (suc sealed) (reverse rows)
unsealed_weight-next sealed rows d lt =
    let f : Ordered → ℕ = λ x. op_weight x.entry.op in
    let here : unsealed_weight sealed (reverse rows) ≡ sum_by f (drop sealed rows) = unsealed_weight-log sealed (reverse rows) ∙ ap (λ l. sum_by f (drop sealed l)) (reverse-reverse rows) in
    let next : unsealed_weight (suc sealed) (reverse rows) ≡ sum_by f (drop (suc sealed) rows) = unsealed_weight-log (suc sealed) (reverse rows) ∙ ap (λ l. sum_by f (drop (suc sealed) l)) (reverse-reverse rows) in
    let k : sealed + 1 ≡ suc sealed = omega arith in
    let step : sum_by f (drop sealed rows) ≡ f (get_or rows sealed d) + sum_by f (drop (suc sealed) rows) = sum_by-drop_more f rows sealed d lt ∙ ap (λ n. f (get_or rows sealed d) + sum_by f (drop n rows)) k in
    here ∙ step ∙ ap (λ n. f (get_or rows sealed d) + n) (sym next)

-- an entry that comes in counts at once
pub unsealed_weight-more : (sealed : ℕ) (rows : List Ordered) (x : Ordered) → sealed ≤ length rows
    → unsealed_weight sealed (reverse (rows ++ x ∷ [])) ≡ op_weight x.entry.op + unsealed_weight sealed (reverse rows)
unfolding unsealed_weight
unsealed_weight-more sealed rows x le =
    let grown : reverse (rows ++ x ∷ []) ≡ x ∷ reverse rows = reverse-append rows (x ∷ []) in
    let len : length (reverse rows) ≡ length rows = length-reverse rows in
    let below : nat_lt sealed (length (x ∷ reverse rows)) ≡ true = lt-ltb _ _ (omega (arith, le, len)) in
    ap (unsealed_weight sealed) grown ∙ ap (λ b. cond b (op_weight x.entry.op + unsealed_weight sealed (reverse rows)) 0) below

-- the entries from one length to another, as they stand in memory
pub entries_above-rows : (known upto : ℕ) (rows : List Ordered) → known ≤ upto → entries_above known (front upto (reverse rows)) ≡ map tagged_entry (take (upto - known) (drop known rows))
entries_above-rows known upto rows le =
    let k : upto ≡ known + (upto - known) = omega arith in
    ap (entries_above known) (front-reverse upto rows) ∙ entries_above-log known (reverse (take upto rows))
    ∙ ap (λ l. map tagged_entry (drop known l)) (reverse-reverse (take upto rows) ∙ ap (λ n. take n rows) k)
    ∙ ap (map tagged_entry) (drop-take known (upto - known) rows)
