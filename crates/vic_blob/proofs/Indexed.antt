-- The index of contents, as one content more is kept.
use Rattle.std.specs.Prelude.{if◌then◌else◌, ◌≡◌, ℕ, zero, suc, ◌+◌, ◌<◌, ◌≤◌, Bool, true, false, cond, List, [], ◌∷◌, ◌++◌, length, reverse, Option, Some, None, slice_get}
use Rattle.std.specs.List.{find, sum_by}
use Rattle.std.specs.Str.{bytes_eq}
use Rattle.std.specs.Ordering.{is_eq, nat_cmp}
use Rattle.std.specs.Cmp.Lexicographic.{slice_cmp}
use Rattle.std.proofs.Common.{refl, ap, sym, ◌∙◌, arith}
use Rattle.std.proofs.lemmas.List.Sums.{sum_by-cons}
use Rattle.std.proofs.lemmas.List.{reverse-append, length-append, length-reverse}
use Rattle.std.proofs.lemmas.Map.Text.{is_eq-slice_cmp}
use Rattle.std.proofs.lemmas.Slice.Eq.{bytes_eq-Decides}
use Rattle.vic_wire.specs.Hashes.{hash}
use Rattle.vic_wire.specs.Texts.{content_text}
use Rattle.vic_blob.specs.Keeping.{has_hash, kept_under, at_place, place_of, IsSound, IsRoom}
use Rattle.std.specs.BTreeMap.{BTreeMap, get}
use Rattle.std.specs.Option.{option_to_list, MatchOption}

get_last : (rows : List (List ℕ)) (c : List ℕ) → slice_get (rows ++ c ∷ []) (length rows) ≡ Some c
get_last [] c = refl
get_last (r ∷ rows) c = get_last rows c

get_older : (rows : List (List ℕ)) (c : List ℕ) (p : ℕ) → p < length rows → slice_get (rows ++ c ∷ []) p ≡ slice_get rows p
get_older [] c p h = absurd (omega (arith, h))
get_older (r ∷ rows) c zero h = refl
get_older (r ∷ rows) c (suc p) h = get_older rows c p (omega (arith, h))

at_older : (rows : List (List ℕ)) (c : List ℕ) (o : Option ℕ) → ((p : ℕ) → o ≡ Some p → p < length rows) → at_place (rows ++ c ∷ []) o ≡ at_place rows o
at_older rows c None h = refl
at_older rows c (Some p) h = get_older rows c p (h p refl)

same_text : (a b : List ℕ) → bytes_eq a b ≡ true → a ≡ b
same_text a b e = (bytes_eq-Decides a b).0 e

-- the index with the new content's place leads to the content of each hash again
pub indexed_more : (rows : List (List ℕ)) (c : List ℕ) (n : ℕ) (old new : List ℕ → Option ℕ) → n ≡ length rows
    → ((q : List ℕ) → at_place rows (old q) ≡ kept_under (reverse rows) q)
    → ((q : List ℕ) (p : ℕ) → old q ≡ Some p → p < length rows)
    → ((q : List ℕ) → new q ≡ cond (is_eq (slice_cmp nat_cmp (hash (content_text c)) q)) (Some n) (old q))
    → (q : List ℕ) → at_place (rows ++ c ∷ []) (new q) ≡ kept_under (reverse (rows ++ c ∷ [])) q
indexed_more rows c n old new count leads within more q =
    let h : List ℕ = hash (content_text c) in
    let here : new q ≡ cond (bytes_eq h q) (Some n) (old q) = more q ∙ ap (λ b. cond b (Some n) (old q)) (is_eq-slice_cmp h q) in
    let back : kept_under (reverse (rows ++ c ∷ [])) q ≡ kept_under (c ∷ reverse rows) q = ap (λ xs. kept_under xs q) (reverse-append rows (c ∷ [])) in
    now (bytes_eq h q) refl here ∙ sym back
  where
    now : (b : Bool) → bytes_eq (hash (content_text c)) q ≡ b → new q ≡ cond b (Some n) (old q) → at_place (rows ++ c ∷ []) (new q) ≡ kept_under (c ∷ reverse rows) q
    now true e here = ap (at_place (rows ++ c ∷ [])) here ∙ (ap (slice_get (rows ++ c ∷ [])) count ∙ (get_last rows c ∙ sym (ap (λ b. if b then Some c else find (has_hash q) (reverse rows)) e)))
    now false e here = ap (at_place (rows ++ c ∷ [])) here ∙ (at_older rows c (old q) (within q) ∙ (leads q ∙ sym (ap (λ b. if b then Some c else find (has_hash q) (reverse rows)) e)))

-- each place that it names is one
pub within_more : (rows : List (List ℕ)) (c h : List ℕ) (n : ℕ) (old new : List ℕ → Option ℕ) → n ≡ length rows
    → ((q : List ℕ) (p : ℕ) → old q ≡ Some p → p < length rows)
    → ((q : List ℕ) → new q ≡ cond (is_eq (slice_cmp nat_cmp h q)) (Some n) (old q))
    → (q : List ℕ) (p : ℕ) → new q ≡ Some p → p < length (rows ++ c ∷ [])
within_more rows c h n old new count within more q p e = now (is_eq (slice_cmp nat_cmp h q)) (sym (more q) ∙ e)
  where
    some_same : (a b : ℕ) → Some a ≡ Some b → a ≡ b
    some_same a b e = cc

    longer : length (rows ++ c ∷ []) ≡ length rows + 1
    longer = length-append rows (c ∷ [])

    now : (b : Bool) → cond b (Some n) (old q) ≡ Some p → p < length (rows ++ c ∷ [])
    now true e = let s = some_same n p e in omega (arith, longer)
    now false e = let s : p < length rows = within q p e in omega (arith, longer)

-- the bytes that are counted
pub counted_more : (rows : List (List ℕ)) (c : List ℕ) (n : ℕ) → n ≡ sum_by length (reverse rows) → n + length c ≡ sum_by length (reverse (rows ++ c ∷ []))
counted_more rows c n e =
    let s : sum_by length (reverse (rows ++ c ∷ [])) ≡ length c + sum_by length (reverse rows) = ap (sum_by length) (reverse-append rows (c ∷ [])) ∙ sum_by-cons length c (reverse rows) in
    omega arith

-- each content is within the limit
small_more : (rows : List (List ℕ)) (c : List ℕ) → length c ≤ 8388608 → ((h x : List ℕ) → kept_under (reverse rows) h ≡ Some x → length x ≤ 8388608)
    → (h x : List ℕ) → kept_under (reverse (rows ++ c ∷ [])) h ≡ Some x → length x ≤ 8388608
small_more rows c fits each h x e =
    let back : kept_under (reverse (rows ++ c ∷ [])) h ≡ kept_under (c ∷ reverse rows) h = ap (λ xs. kept_under xs h) (reverse-append rows (c ∷ [])) in
    now (has_hash h c) (sym back ∙ e)
  where
    now : (b : Bool) → (if b then Some c else find (has_hash h) (reverse rows)) ≡ Some x → length x ≤ 8388608
    now true k = let same : c ≡ x = cc in let l : length c ≡ length x = ap length same in omega (arith, fits, l)
    now false k = each h x k

-- the invariant with one content more
pub sound_more : (rows : List (List ℕ)) (c : List ℕ) (places after : BTreeMap (List ℕ) ℕ) (counted : ℕ) → IsSound rows places counted → IsRoom (reverse rows) c → length c ≤ 8388608
    → ((q : List ℕ) → get (slice_cmp nat_cmp) after q ≡ cond (is_eq (slice_cmp nat_cmp (hash (content_text c)) q)) (Some (length rows)) (get (slice_cmp nat_cmp) places q))
    → IsSound (rows ++ c ∷ []) after (counted + length c)
sound_more rows c places after counted sound room fits more =
    let longer : length (rows ++ c ∷ []) ≡ length rows + 1 = length-append rows (c ∷ []) in
    let same : length (reverse rows) ≡ length rows = length-reverse rows in
    let first = room.0 in
    let second = room.1 in
    let counts : counted + length c ≡ sum_by length (reverse (rows ++ c ∷ [])) = counted_more rows c counted sound.counts in
    record {
      few = omega arith;
      indexed = indexed_more rows c (length rows) (place_of places) (place_of after) refl sound.indexed sound.within more;
      within = within_more rows c (hash (content_text c)) (length rows) (place_of places) (place_of after) refl sound.within more;
      counts = counts;
      light = let w = sound.counts in omega (arith, w);
      small = small_more rows c fits sound.small;
    }

-- and with the same entries
pub sound_same : (rows : List (List ℕ)) (places after : BTreeMap (List ℕ) ℕ) (counted : ℕ) → IsSound rows places counted → ((q : List ℕ) → get (slice_cmp nat_cmp) after q ≡ get (slice_cmp nat_cmp) places q)
    → IsSound rows after counted
sound_same rows places after counted sound same = record {
  few = sound.few;
  indexed = λ q. ap (at_place rows) (same q) ∙ sound.indexed q;
  within = λ q p e. sound.within q p (sym (same q) ∙ e);
  counts = sound.counts;
  light = sound.light;
  small = sound.small;
}

same_end : (xs ys : List (List ℕ)) (c d : List ℕ) → xs ++ c ∷ [] ≡ ys ++ d ∷ [] → ys ≡ xs
same_end [] [] c d e = refl
same_end [] (y ∷ ys) c d e = let t : ◌≡◌ {A = List (List ℕ)} [] (ys ++ d ∷ []) = cc in let l : length (ys ++ d ∷ []) ≡ length ys + 1 = length-append ys (d ∷ []) in absurd (let z : 0 ≡ length (ys ++ d ∷ []) = ap length t in omega arith)
same_end (x ∷ xs) [] c d e = let t : xs ++ c ∷ [] ≡ [] = cc in let l : length (xs ++ c ∷ []) ≡ length xs + 1 = length-append xs (c ∷ []) in absurd (let z : length (xs ++ c ∷ []) ≡ 0 = ap length t in omega arith)
same_end (x ∷ xs) (y ∷ ys) c d e = let t : xs ++ c ∷ [] ≡ ys ++ d ∷ [] = cc in let h : x ≡ y = cc in ap (λ z. z ∷ ys) (sym h) ∙ ap (λ zs. x ∷ zs) (same_end xs ys c d t)

-- what is left of a list that one item more was put onto, and then the last was taken off
pub popped : (xs ys : List (List ℕ)) (c : List ℕ) (o : Option (List ℕ)) (n : ℕ) → xs ++ c ∷ [] ≡ ys ++ option_to_list o → n ≡ length (xs ++ c ∷ []) → MatchOption o (n ≡ 0) (λ x. Unit {0}) → ys ≡ xs
popped xs ys c (Some d) n e l some = same_end xs ys c d e
popped xs ys c None n e l none = let k : length (xs ++ c ∷ []) ≡ length xs + 1 = length-append xs (c ∷ []) in absurd (omega (arith, none))
