-- Texts that were put under their hashes, one after the other.
use Rattle.std.specs.Prelude.{◌≡◌, ℕ, ◌+◌, ◌<◌, Bool, true, false, not, ◌&&◌, ◌||◌, cond, List, [], ◌∷◌, ◌++◌, length, take, drop, Option, Some, None, if◌then◌else◌}
use Rattle.std.specs.List.{list_all, find}
use Rattle.std.specs.Str.{bytes_eq}
use Rattle.std.specs.Ordering.{is_eq, nat_cmp}
use Rattle.std.specs.Cmp.Lexicographic.{slice_cmp}
use Rattle.std.proofs.Common.{refl, ap, subst, sym, ◌∙◌, true≢false, get_or, append_assoc}
use Rattle.std.proofs.lemmas.Bool.{and_parts}
use Rattle.std.proofs.lemmas.List.{take_more, take-append-drop}
use Rattle.std.proofs.lemmas.Map.Text.{is_eq-slice_cmp}
use Rattle.std.proofs.lemmas.Slice.Eq.{bytes_eq-Decides}
use Rattle.vic_wire.specs.Hashes.{hash}
use Rattle.vic_laws.specs.Meanings.{is_apart, are_apart}
use Rattle.vic_laws.proofs.Words.{bytes_same}
use Rattle.vic_apart.specs.ByHash.{is_other, first_of, if_here}

first_none : (o : Option (List ℕ)) → first_of o None ≡ o
first_none None = refl
first_none (Some t) = refl

-- a map with a text more under a hash that had none
pub put_new : (h text : List ℕ) (old new : List ℕ → Option (List ℕ)) → old h ≡ None
    → ((q : List ℕ) → new q ≡ cond (is_eq (slice_cmp nat_cmp h q)) (Some text) (old q))
    → (q : List ℕ) → new q ≡ first_of (old q) (if_here h q text)
put_new h text old new none more q = now (bytes_eq h q) refl (more q ∙ ap (λ b. cond b (Some text) (old q)) (is_eq-slice_cmp h q))
  where
    now : (b : Bool) → bytes_eq h q ≡ b → new q ≡ cond (bytes_eq h q) (Some text) (old q) → new q ≡ first_of (old q) (if_here h q text)
    now true e here =
        here ∙ ap (λ b. cond b (Some text) (old q)) e
        ∙ sym (ap (λ o. first_of o (if_here h q text)) (subst (λ z. old z ≡ None) (bytes_same h q e) none) ∙ ap (λ b. if b then Some text else None) e)
    now false e here =
        here ∙ ap (λ b. cond b (Some text) (old q)) e
        ∙ sym (ap (λ b. first_of (old q) (if b then Some text else None)) e ∙ first_none (old q))

-- ---- the texts so far

abbrev pub has_hash : List ℕ → List ℕ → Bool
has_hash h t = bytes_eq (hash t) h

same_eq : (a : List ℕ) → bytes_eq a a ≡ true
same_eq a = (bytes_eq-Decides a a).1 refl

eq_turned : (a b : List ℕ) (x y : Bool) → bytes_eq a b ≡ x → bytes_eq b a ≡ y → x ≡ y
eq_turned a b true true e f = refl
eq_turned a b false false e f = refl
eq_turned a b true false e f = sym ((bytes_eq-Decides b a).1 (sym (bytes_same a b e))) ∙ f
eq_turned a b false true e f = sym e ∙ (bytes_eq-Decides a b).1 (sym (bytes_same b a f))

apart_turned : (t u : List ℕ) → is_apart t u ≡ is_apart u t
apart_turned t u =
    ap (λ b. b || not (bytes_eq (hash t) (hash u))) (eq_turned t u (bytes_eq t u) (bytes_eq u t) refl refl)
    ∙ ap (λ b. bytes_eq u t || not b) (eq_turned (hash t) (hash u) (bytes_eq (hash t) (hash u)) (bytes_eq (hash u) (hash t)) refl refl)

apart_itself : (t : List ℕ) → is_apart t t ≡ true
apart_itself t = ap (λ b. b || not (bytes_eq (hash t) (hash t))) (same_eq t)

or_true : (a : Bool) → (a || true) ≡ true
or_true true = refl
or_true false = refl

all_turned : (t : List ℕ) (xs : List (List ℕ)) → list_all (is_apart t) xs ≡ true → list_all (λ x. is_apart x t) xs ≡ true
all_turned t [] h = refl
all_turned t (x ∷ xs) h =
    let p = and_parts (is_apart t x) (list_all (is_apart t) xs) h in
    ap (λ b. b && list_all (λ y. is_apart y t) xs) (apart_turned x t ∙ p.0) ∙ all_turned t xs p.1

all_with : (t u : List ℕ) (xs : List (List ℕ)) → list_all (is_apart t) xs ≡ true → is_apart t u ≡ true → list_all (is_apart t) (xs ++ u ∷ []) ≡ true
all_with t u [] h a = ap (λ b. b && true) a
all_with t u (x ∷ xs) h a =
    let p = and_parts (is_apart t x) (list_all (is_apart t) xs) h in
    ap (λ b. b && list_all (is_apart t) (xs ++ u ∷ [])) p.0 ∙ all_with t u xs p.1 a

-- texts that are apart, and one more that is apart from each
apart_with : (xs : List (List ℕ)) (u : List ℕ) → are_apart xs ≡ true → list_all (λ x. is_apart x u) xs ≡ true → are_apart (xs ++ u ∷ []) ≡ true
apart_with [] u h a = refl
apart_with (x ∷ xs) u h a =
    let p = and_parts (list_all (is_apart x) xs) (are_apart xs) h in
    let q = and_parts (is_apart x u) (list_all (λ y. is_apart y u) xs) a in
    ap (λ b. b && are_apart (xs ++ u ∷ [])) (all_with x u xs p.0 q.0) ∙ apart_with xs u p.1 q.1

not_other : (there u : List ℕ) → is_other (Some there) u ≡ false → there ≡ u
not_other there u e = bytes_same there u (not_false (bytes_eq there u) e)
  where
    not_false : (a : Bool) → not a ≡ false → a ≡ true
    not_false true h = refl
    not_false false h = absurd (true≢false h)

-- no other text has the hash of this one, so it is apart from each
apart_each : (xs : List (List ℕ)) (u : List ℕ) → are_apart xs ≡ true → is_other (find (has_hash (hash u)) xs) u ≡ false → list_all (λ x. is_apart x u) xs ≡ true
apart_each [] u h a = refl
apart_each (x ∷ xs) u h a = now (bytes_eq (hash x) (hash u)) refl a (apart_each xs u (and_parts (list_all (is_apart x) xs) (are_apart xs) h).1)
  where
    parts : (list_all (is_apart x) xs ≡ true) × (are_apart xs ≡ true)
    parts = and_parts (list_all (is_apart x) xs) (are_apart xs) h

    now : (b : Bool) → bytes_eq (hash x) (hash u) ≡ b → is_other (if bytes_eq (hash x) (hash u) then Some x else find (has_hash (hash u)) xs) u ≡ false
        → (is_other (find (has_hash (hash u)) xs) u ≡ false → list_all (λ y. is_apart y u) xs ≡ true)
        → (is_apart x u && list_all (λ y. is_apart y u) xs) ≡ true
    now true e found later =
        let same : x ≡ u = not_other x u (sym (ap (λ b. is_other (if b then Some x else find (has_hash (hash u)) xs) u) e) ∙ found) in
        subst (λ z. (is_apart x z && list_all (λ y. is_apart y z) xs) ≡ true) same
        (ap (λ b. b && list_all (λ y. is_apart y x) xs) (apart_itself x) ∙ all_turned x xs parts.0)
    now false e found later =
        let rest : list_all (λ y. is_apart y u) xs ≡ true =
        later (sym (ap (λ b. is_other (if b then Some x else find (has_hash (hash u)) xs) u) e) ∙ found) in
        ap (λ b. (bytes_eq x u || not b) && list_all (λ y. is_apart y u) xs) e
        ∙ ap (λ b. b && list_all (λ y. is_apart y u) xs) (or_true (bytes_eq x u)) ∙ rest

-- the first with a hash, of one text more
find_with : (h u : List ℕ) (xs : List (List ℕ)) → find (has_hash h) (xs ++ u ∷ []) ≡ first_of (find (has_hash h) xs) (if_here (hash u) h u)
find_with h u [] = refl
find_with h u (x ∷ xs) = now (bytes_eq (hash x) h) (find_with h u xs)
  where
    now : (b : Bool) → find (has_hash h) (xs ++ u ∷ []) ≡ first_of (find (has_hash h) xs) (if_here (hash u) h u)
        → (if b then Some x else find (has_hash h) (xs ++ u ∷ [])) ≡ first_of (if b then Some x else find (has_hash h) xs) (if_here (hash u) h u)
    now true later = refl
    now false later = later

-- a text of another with its hash before it isn't apart from all
and_false : (a : Bool) → (a && false) ≡ false
and_false true = refl
and_false false = refl

hit_all : (x u : List ℕ) (xs more : List (List ℕ)) → is_apart x u ≡ false → list_all (is_apart x) (xs ++ u ∷ more) ≡ false
hit_all x u [] more e = ap (λ b. b && list_all (is_apart x) more) e
hit_all x u (y ∷ xs) more e = ap (λ b. is_apart x y && b) (hit_all x u xs more e) ∙ and_false (is_apart x y)

other_true : (there u : List ℕ) → is_other (Some there) u ≡ true → bytes_eq there u ≡ false
other_true there u e = not_true (bytes_eq there u) e
  where
    not_true : (a : Bool) → not a ≡ true → a ≡ false
    not_true false h = refl
    not_true true h = absurd (true≢false (sym h))

clashes : (xs : List (List ℕ)) (u : List ℕ) (more : List (List ℕ)) → is_other (find (has_hash (hash u)) xs) u ≡ true → are_apart (xs ++ u ∷ more) ≡ false
clashes [] u more e = absurd (true≢false (sym e))
clashes (x ∷ xs) u more e = now (bytes_eq (hash x) (hash u)) refl e (clashes xs u more)
  where
    now : (b : Bool) → bytes_eq (hash x) (hash u) ≡ b → is_other (if bytes_eq (hash x) (hash u) then Some x else find (has_hash (hash u)) xs) u ≡ true
        → (is_other (find (has_hash (hash u)) xs) u ≡ true → are_apart (xs ++ u ∷ more) ≡ false)
        → (list_all (is_apart x) (xs ++ u ∷ more) && are_apart (xs ++ u ∷ more)) ≡ false
    now true f found later =
        let differ : bytes_eq x u ≡ false = other_true x u (sym (ap (λ b. is_other (if b then Some x else find (has_hash (hash u)) xs) u) f) ∙ found) in
        let hit : is_apart x u ≡ false = ap (λ b. b || not (bytes_eq (hash x) (hash u))) differ ∙ ap not f in
        ap (λ b. b && are_apart (xs ++ u ∷ more)) (hit_all x u xs more hit)
    now false f found later =
        ap (λ b. list_all (is_apart x) (xs ++ u ∷ more) && b) (later (sym (ap (λ b. is_other (if b then Some x else find (has_hash (hash u)) xs) u) f) ∙ found))
        ∙ and_false (list_all (is_apart x) (xs ++ u ∷ more))

-- ---- what the loop keeps

-- the texts are apart, and the map has the first of each hash
pub record Seen (ts : List (List ℕ)) (under : List ℕ → Option (List ℕ)) : Type 0 where
  pub apart : are_apart ts ≡ true
  pub found : (h : List ℕ) → under h ≡ find (has_hash h) ts

pub seen_next : (ts : List (List ℕ)) (i : ℕ) (u : List ℕ) → i < length ts → u ≡ get_or ts i u → (old new : List ℕ → Option (List ℕ)) → (h : List ℕ) → h ≡ hash u
    → Seen (take i ts) old → is_other (old h) u ≡ false → ((q : List ℕ) → new q ≡ first_of (old q) (if_here h q u)) → Seen (take (i + 1) ts) new
seen_next ts i u lt is old new h hashed seen none more =
    let longer : take (i + 1) ts ≡ take i ts ++ u ∷ [] = take_more ts i u lt ∙ ap (λ (t : List ℕ). take i ts ++ t ∷ []) (sym is) in
    let clear : is_other (find (has_hash (hash u)) (take i ts)) u ≡ false =
    sym (ap (λ o. is_other o u) (ap old hashed ∙ seen.found (hash u))) ∙ none in
    subst (λ (x : List (List ℕ)). Seen x new) (sym longer) (record {
      apart = apart_with (take i ts) u seen.apart (apart_each (take i ts) u seen.apart clear);
      found = λ q. more q ∙ ap (λ o. first_of o (if_here h q u)) (seen.found q) ∙ ap (λ z. first_of (find (has_hash q) (take i ts)) (if_here z q u)) hashed ∙ sym (find_with q u (take i ts));
    })

pub seen_clash : (ts : List (List ℕ)) (i : ℕ) (u : List ℕ) → i < length ts → u ≡ get_or ts i u → (old : List ℕ → Option (List ℕ)) → (h : List ℕ) → h ≡ hash u
    → Seen (take i ts) old → is_other (old h) u ≡ true → false ≡ are_apart ts
seen_clash ts i u lt is old h hashed seen some =
    let longer : take (i + 1) ts ≡ take i ts ++ u ∷ [] = take_more ts i u lt ∙ ap (λ (t : List ℕ). take i ts ++ t ∷ []) (sym is) in
    let whole : ts ≡ take i ts ++ u ∷ drop (i + 1) ts =
    sym (take-append-drop (i + 1) ts) ∙ ap (λ (x : List (List ℕ)). x ++ drop (i + 1) ts) longer ∙ append_assoc (take i ts) (u ∷ []) (drop (i + 1) ts) in
    let hit : is_other (find (has_hash (hash u)) (take i ts)) u ≡ true =
    sym (ap (λ o. is_other o u) (ap old hashed ∙ seen.found (hash u))) ∙ some in
    sym (ap are_apart whole ∙ clashes (take i ts) u (drop (i + 1) ts) hit)
