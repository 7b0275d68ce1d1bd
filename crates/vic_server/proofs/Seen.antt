-- What is seen of the lists in memory.
use Rattle.std.proofs.Common.{◌≡◌, ℕ, suc, ◌+◌, ◌-◌, ◌<◌, ◌≤◌, Bool, true, false, cond, List, [], ◌∷◌, ◌++◌, length, get_or, drop, nat_eq, lt-ltb, reverse, Option, Some, None, refl, sym, ap, ◌∙◌, arith, le-ltb}
use Rattle.std.specs.Prelude.{nat_lt}
use Rattle.std.proofs.lemmas.List.{length-reverse}
use Rattle.vic_dict.specs.Lists.{front, newest}
use Rattle.vic_dict.specs.Dictionary.{Dictionary, after}
use Rattle.vic_wire.specs.declared.message.Seal.{Seal}
use Rattle.vic_wire.specs.declared.message.ToClient.TheVariants as say
use Rattle.vic_order.specs.Order.{Ordered, Committed, Server, size, sealed_count, ordered_at, commit_in, commit_at, weight, unsealed_weight, applied_to, with_seal, top_seal, turn_on, turn, update_part, tagged_entry, entries_above, or_no_seal, seal_at_position}
use Rattle.vic_server.specs.Keeping.{status_in, or_nothing, pairs_weight, turn_from}
use Rattle.std.proofs.lemmas.Option.{slice_get_past}
use Rattle.vic_server.proofs.Logs.{newest-front}

-- the entry at a position, as it stands in memory
pub ordered-row : (rows : List Ordered) (s : Server) (position : ℕ) (x : Ordered) → reverse rows ≡ s.log → 0 < position → position - 1 < length rows → x ≡ get_or rows (position - 1) x → Some x ≡ ordered_at s position
ordered-row rows s position x is above lt at =
    let k : suc (position - 1) ≡ position = omega (arith, above) in
    let len : size s ≡ length rows = ap length (sym is) ∙ length-reverse rows in
    let within : nat_lt (size s) position ≡ false = le-ltb _ _ (omega (arith, len, lt, above)) in
    let found : newest (front position (reverse rows)) ≡ Some (get_or rows (position - 1) x) = ap (λ n. newest (front n (reverse rows))) (sym k) ∙ newest-front (position - 1) rows x lt in
    sym (ap (λ b. cond b None (newest (front position s.log))) within ∙ ap (λ l. newest (front position l)) (sym is) ∙ found ∙ ap Some (sym at))

-- the length of the log
pub size-rows : (rows : List Ordered) (s : Server) → reverse rows ≡ s.log → size s ≡ length rows
size-rows rows s is = ap length (sym is) ∙ length-reverse rows

pub sealed_count-rows : (rows : List Seal) (s : Server) → reverse rows ≡ s.seals → sealed_count s ≡ length rows
sealed_count-rows rows s is = ap length (sym is) ∙ length-reverse rows

-- past the index nothing is committed
pub commit_at-past : (commits : List Committed) (index : List (Option Bool)) (s : Server) (position : ℕ) → reverse commits ≡ s.commits
    → ((place : ℕ) → commit_in (reverse commits) (suc place) ≡ status_in index place) → 0 < position → length index ≤ position - 1 → None ≡ commit_at s position
commit_at-past commits index s position is all above past =
    let k : suc (position - 1) ≡ position = omega (arith, above) in
    sym (ap (λ l. commit_in l position) (sym is) ∙ ap (commit_in (reverse commits)) (sym k) ∙ all (position - 1) ∙ ap or_nothing (slice_get_past index (position - 1) past))

-- the seal of a position
pub seal-row : (rows : List Seal) (s : Server) (position : ℕ) (x : Seal) → reverse rows ≡ s.seals → 0 < position → position - 1 < length rows → x ≡ get_or rows (position - 1) x → x ≡ seal_at_position s position
seal-row rows s position x is above lt at =
    let k : suc (position - 1) ≡ position = omega (arith, above) in
    let found : newest (front position (reverse rows)) ≡ Some (get_or rows (position - 1) x) = ap (λ n. newest (front n (reverse rows))) (sym k) ∙ newest-front (position - 1) rows x lt in
    at ∙ sym (ap or_no_seal (ap (λ l. newest (front position l)) (sym is) ∙ found))

-- the weight, as it is counted
pub weight-rows : (rows : List Ordered) (seals : List Seal) (d : Dictionary) (s : Server) → reverse rows ≡ s.log → reverse seals ≡ s.seals → d ≡ s.dictionary
    → weight s ≡ pairs_weight d + unsealed_weight (length seals) (reverse rows)
weight-rows rows seals d s is_log is_seals is_d =
    ap (λ x. pairs_weight x + unsealed_weight (sealed_count s) s.log) (sym is_d)
    ∙ ap (λ n. pairs_weight d + unsealed_weight n s.log) (sealed_count-rows seals s is_seals)
    ∙ ap (λ l. pairs_weight d + unsealed_weight (length seals) l) (sym is_log)

-- the dictionary that a sealed entry leaves
pub sealed-dictionary : (s : Server) (x : Seal) (o : Ordered) (done : Bool) (next : Dictionary) → Some o ≡ ordered_at s x.position → commit_at s x.position ≡ Some done
    → next ≡ cond done (after s.dictionary o.entry.op) s.dictionary → next ≡ (with_seal s x).dictionary
sealed-dictionary s x o done next found committed leaves =
    leaves ∙ ap (λ r. applied_to s.dictionary r (Some done)) found ∙ ap (applied_to s.dictionary (ordered_at s x.position)) (sym committed)

-- a seal more, and the dictionary that its entry leaves
pub with_seal-rows : (s : Server) (x : Seal) (o : Ordered) (done : Bool) (next : Dictionary) (list : List Seal) → list ≡ x ∷ s.seals → Some o ≡ ordered_at s x.position → commit_at s x.position ≡ Some done
    → next ≡ cond done (after s.dictionary o.entry.op) s.dictionary → record s { seals = list; dictionary = next } ≡ with_seal s x
with_seal-rows s x o done next list more found committed leaves =
    let applied = sealed-dictionary s x o done next found committed leaves in
    λ i. record s { seals = more i; dictionary = applied i }

-- the whole of a list is its front
front-all : {X : Type 0} (xs : List X) → front (length xs) xs ≡ xs
front-all xs = let none : length xs - length xs ≡ 0 = omega arith in ap (λ n. drop n xs) none

-- the turn, over the highest seal
turn_on-from : (s : Server) (x : Seal) (who : ℕ) (o : Option Ordered) (status : Option Bool) → top_seal s ≡ x → turn_on s who o status ≡ turn_from x s.dictionary who o status
turn_on-from s x who (Some o) (Some done) e = ap (λ y. cond (nat_eq o.entry.client who) (say.Update y (update_part s.dictionary o.entry.op done)) say.Wait) e
turn_on-from s x who (Some o) None e = refl
turn_on-from s x who None status e = refl

-- the turn after the next position is sealed
pub turn-sealed : (s : Server) (x : Seal) (who next : ℕ) (d : Dictionary) → x.position ≡ sealed_count s + 1 → next ≡ sealed_count s + 2 → d ≡ (with_seal s x).dictionary
    → turn_from x d who (ordered_at s next) (commit_at s next) ≡ turn (with_seal s x) who
turn-sealed s x who next d position after leaves =
    let over : Server = with_seal s x in
    let top : top_seal over ≡ x = ap (λ l. or_no_seal (newest l)) (front-all over.seals) in
    let k : sealed_count over + 1 ≡ next = omega (arith, after) in
    ap (λ e. turn_from x e who (ordered_at s next) (commit_at s next)) leaves
    ∙ sym (turn_on-from over x who (ordered_at s next) (commit_at s next) top)
    ∙ sym (ap (λ n. turn_on over who (ordered_at s n) (commit_at s n)) k)

-- the entries above a length, once one more is ordered
pub entries_above-more : (known : ℕ) (x : Ordered) (s : Server) → known ≤ size s → entries_above known (front (size s) s.log) ++ tagged_entry x ∷ [] ≡ entries_above known (x ∷ s.log)
unfolding entries_above
entries_above-more known x s le =
    let below : nat_lt known (length (x ∷ s.log)) ≡ true = lt-ltb _ _ (omega (arith, le)) in
    ap (λ l. entries_above known l ++ tagged_entry x ∷ []) (front-all s.log) ∙ sym (ap (λ b. cond b (entries_above known s.log ++ tagged_entry x ∷ []) []) below)
