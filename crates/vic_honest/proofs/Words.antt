-- Lists that have their newest item first: fronts of joined lists, items that are kept, and texts that were made.
use Rattle.std.proofs.Common.{◌≡◌, ℕ, ◌+◌, ◌-◌, ◌≤◌, List, [], ◌∷◌, ◌++◌, length, drop, Some, refl, ap, subst, ◌∙◌, arith, length-append}
use Rattle.std.specs.Prelude.{if◌then◌else◌}
use Rattle.std.specs.List.{AllByRecursion}
use Rattle.std.proofs.Math.Seq.{drop-append-add}
use Rattle.std.proofs.lemmas.List.{map-append, length-map}
use Rattle.std.proofs.lemmas.Bool.{le-ltb, lt-ltb}
use Rattle.vic_dict.specs.Lists.{IsIn, front, newest}
use Rattle.vic_dict.specs.declared.op.Entry.{Entry}
use Rattle.vic_wire.specs.declared.message.Seal.{Seal}
use Rattle.vic_wire.specs.declared.message.Tagged.{Tagged}
use Rattle.vic_rules.specs.Client.{onto, newest_first}
use Rattle.vic_order.specs.Order.{Ordered, tagged_entry, entries_above, or_no_seal, no_seal}
use Rattle.vic_order.specs.Fates.{entries}

-- ---- fronts

-- the front of a joined list is that of its older part
pub front-joined : {X : Type 0} (n : ℕ) (new old : List X) → n ≤ length old → front n (new ++ old) ≡ front n old
front-joined n new old within =
    let at : length (new ++ old) - n ≡ length new + (length old - n) = omega (arith, length-append new old) in
    ap (λ k. drop k (new ++ old)) at ∙ drop-append-add new old (length old - n)

pub entries-joined : (new old : List Ordered) → entries (new ++ old) ≡ entries new ++ entries old
entries-joined new old = map-append (λ o. o.entry) new old

pub length-entries : (log : List Ordered) → length (entries log) ≡ length log
length-entries log = length-map log (λ o. o.entry)

pub front-entries : (n : ℕ) (new old : List Ordered) → n ≤ length old → front n (entries (new ++ old)) ≡ front n (entries old)
front-entries n new old within =
    ap (front n) (entries-joined new old) ∙ front-joined n (entries new) (entries old) (omega (arith, length-entries old))

-- ---- what the server tells of its log

-- entries with their tags, the oldest first
abbrev pub told : List Ordered → List Tagged
told [] = []
told (o ∷ below) = told below ++ tagged_entry o ∷ []

above-all : (n : ℕ) (log : List Ordered) → length log ≤ n → entries_above n log ≡ []
unfolding entries_above
above-all n [] h = refl
above-all n (o ∷ log) h = ap (λ b. if b then entries_above n log ++ tagged_entry o ∷ [] else []) (le-ltb n (length (o ∷ log)) h)

pub above-told : (new old : List Ordered) → entries_above (length old) (new ++ old) ≡ told new
unfolding entries_above
above-told [] old = above-all (length old) old (omega arith)
above-told (o ∷ new) old =
    ap (λ b. if b then entries_above (length old) (new ++ old) ++ tagged_entry o ∷ [] else []) (lt-ltb (length old) (length (o ∷ (new ++ old))) (omega (arith, length-append new old)))
    ∙ ap (λ ts. ts ++ tagged_entry o ∷ []) (above-told new old)

pub onto-last : (ts : List Tagged) (t : Tagged) (p : List Entry) → onto (ts ++ t ∷ []) p ≡ t.entry ∷ onto ts p
onto-last [] t p = refl
onto-last (x ∷ ts) t p = onto-last ts t (x.entry ∷ p)

pub newest-told : (new : List Ordered) → newest_first (told new) ≡ entries new
newest-told [] = refl
newest-told (o ∷ new) = onto-last (told new) (tagged_entry o) [] ∙ ap (λ p. o.entry ∷ p) (newest-told new)

pub length-told : (new : List Ordered) → length (told new) ≡ length new
length-told [] = refl
length-told (o ∷ new) = length-append (told new) (tagged_entry o ∷ []) ∙ omega (arith, length-told new)

-- ---- items

pub all-first : {X : Type 0} (P : X → Type 0) (xs ys : List X) → AllByRecursion P (xs ++ ys) → AllByRecursion P xs
all-first P [] ys h = tt
all-first P (x ∷ xs) ys h = (h.0, all-first P xs ys h.1)

pub all-second : {X : Type 0} (P : X → Type 0) (xs ys : List X) → AllByRecursion P (xs ++ ys) → AllByRecursion P ys
all-second P [] ys h = h
all-second P (x ∷ xs) ys h = all-second P xs ys h.1

pub newest_seal : (P : Seal → Type 0) (xs : List Seal) → P no_seal → AllByRecursion P xs → P (or_no_seal (newest xs))
newest_seal P [] first h = first
newest_seal P (x ∷ xs) first h = h.0

pub all-newest : (P : Ordered → Type 0) (xs : List Ordered) (o : Ordered) → AllByRecursion P xs → newest xs ≡ Some o → P o
all-newest P [] o h e = absurd cc
all-newest P (x ∷ xs) o h e = let is : x ≡ o = cc in subst P is h.0

-- ---- texts

-- each text of the list was made
abbrev pub AreMade : List (List ℕ) → List (List ℕ) → Type 0
AreMade made texts = (text : List ℕ) → IsIn texts text → IsIn made text

-- what was made stays made
abbrev pub Keeps : List (List ℕ) → List (List ℕ) → Type 0
Keeps before made = (text : List ℕ) → IsIn before text → IsIn made text
