-- What stands at a key's place in rows whose keys rise.
use Rattle.std.proofs.Common.{◌≡◌, ℕ, zero, suc, ◌<◌, ◌≤◌, Bool, true, false, cond, not, List, [], ◌∷◌, ◌++◌, length, get_or, set, Option, Some, None, Result, Ok, Err, refl, sym, ap, subst, ◌∙◌, arith}
use Rattle.std.specs.List.{insert, remove}
use Rattle.std.specs.Prelude.{MatchResult}
use Rattle.std.specs.Ordering.{is_lt, is_eq, eq_by_cmp, ordering_reverse}
use Rattle.std.specs.declared.cmp.Ordering.{Ordering}
use Rattle.std.specs.declared.cmp.Ordering.TheVariants.{Less, Equal, Greater}
use Rattle.std.specs.FinMap.{find, put, is_sorted, slice_cmp-IsAntisymmetric, nat_cmp-IsAntisymmetric}
use Rattle.std.specs.FinMap.Entries.{by_order, where_key, below_all}
use Rattle.std.proofs.lemmas.Cmp.{nat_list_cmp_total, tied_itself, eq_by_cmp_equiv}
use Rattle.std.proofs.Common.{◌+◌, ◌-◌, take}
use Rattle.std.proofs.lemmas.List.{take_more, get_or-take, get_or_default, length-take-le}
use Rattle.std.proofs.lemmas.Bool.{and_parts, and_from}
use Rattle.std.specs.FinMap as map
use Rattle.std.specs.FinMap.Entries.{is_sorted-put, is_sorted-where_key, find-where_key}
use Rattle.std.specs.Bool.{passes}
use Rattle.std.specs.Prelude.{T, ◌&&◌, slice_get}
use Rattle.std.specs.Prelude.{map as map_list}
use Rattle.vic_dict.specs.Lists.{AreBytes}
use Rattle.vic_dict.specs.Dictionary.{IsKey, Dictionary, nothing}
use Rattle.vic_dict.specs.Rows.{Row, bytes_cmp, place_in, spot_after_row, spot, AreFit, AreByteRows, IsTable, is_past}

abbrev the_map : List Row → Dictionary
the_map es = map.from_sorted es

holds : (b : Bool) → T b → b ≡ true
holds true t = refl
holds false t = absurd t

-- the order of byte texts tells all texts apart
pub same_text : (k l : List ℕ) → bytes_cmp k l ≡ Equal → k ≡ l
same_text = slice_cmp-IsAntisymmetric nat_cmp-IsAntisymmetric

pub is_less : (o : Ordering) → is_lt o ≡ true → o ≡ Less
is_less Less e = refl
is_less Equal e = cc
is_less Greater e = cc

-- below a row is below all later ones
pub below_later : (k : List ℕ) (e : Row) (es : List Row) → bytes_cmp k e.0 ≡ Less → below_all bytes_cmp e.0 es ≡ true → below_all bytes_cmp k es ≡ true
below_later k e [] p h = refl
below_later k e (f ∷ es) p h =
    let parts = and_parts _ _ h in
    and_from _ _ (ap is_lt (nat_list_cmp_total.trans k e.0 f.0 p (is_less _ parts.0))) (below_later k e es p parts.1)

-- below a row is below each later one
pub below_at : (k : List ℕ) (es : List Row) (i : ℕ) (d : Row) → below_all bytes_cmp k es ≡ true → i < length es → bytes_cmp k (get_or es i d).0 ≡ Less
below_at k [] i d h w = absurd (omega arith)
below_at k (e ∷ es) zero d h w = is_less _ (and_parts _ _ h).0
below_at k (e ∷ es) (suc i) d h w = below_at k es i d (and_parts _ _ h).1 (omega arith)

-- what is below all rows isn't found among them, and stands before them
pub find_below_all : (k : List ℕ) (es : List Row) → below_all bytes_cmp k es ≡ true → find bytes_cmp k es ≡ None
find_below_all k [] h = refl
find_below_all k (e ∷ es) h =
    let parts = and_parts _ _ h in
    ap (λ o. cond (is_eq o) (Some e.1) (find bytes_cmp k es)) (is_less _ parts.0) ∙ find_below_all k es parts.1

where_below_all : (k : List ℕ) (es : List Row) → below_all bytes_cmp k es ≡ true → where_key bytes_cmp (λ x. not (eq_by_cmp bytes_cmp k x)) es ≡ es
where_below_all k [] h = refl
where_below_all k (e ∷ es) h =
    let parts = and_parts _ _ h in
    ap (λ o. cond (not (is_eq o)) (e ∷ where_key bytes_cmp (λ x. not (eq_by_cmp bytes_cmp k x)) es) (where_key bytes_cmp (λ x. not (eq_by_cmp bytes_cmp k x)) es)) (is_less _ parts.0)
    ∙ ap (λ l. e ∷ l) (where_below_all k es parts.1)

-- a row with this key stands at place i
pub record IsAt (k : List ℕ) (es : List Row) (i : ℕ) : Type 0 where
  pub within : i < length es
  pub key : (d : Row) → (get_or es i d).0 ≡ k
  pub puts : (v : List ℕ) → put bytes_cmp k v es ≡ set es i (k, v)
  pub finds : (d : Row) → find bytes_cmp k es ≡ Some (get_or es i d).1
  pub others : where_key bytes_cmp (λ x. not (eq_by_cmp bytes_cmp k x)) es ≡ remove es i

-- no row has this key, and one would stand at place i
pub record IsGap (k : List ℕ) (es : List Row) (i : ℕ) : Type 0 where
  pub within : i ≤ length es
  pub puts : (v : List ℕ) → put bytes_cmp k v es ≡ insert es i (k, v)
  pub finds : find bytes_cmp k es ≡ None

at_next : (k : List ℕ) (e : Row) (es : List Row) (i : ℕ) → bytes_cmp k e.0 ≡ Greater → IsAt k es i → IsAt k (e ∷ es) (suc i)
at_next k e es i p h = record {
  within = let w = h.within in omega arith;
  key = h.key;
  puts = λ v. ap (λ o. by_order o ((k, v) ∷ e ∷ es) ((e.0, v) ∷ es) (e ∷ put bytes_cmp k v es)) p ∙ ap (λ l. e ∷ l) (h.puts v);
  finds = λ d. ap (λ o. cond (is_eq o) (Some e.1) (find bytes_cmp k es)) p ∙ h.finds d;
  others = ap (λ o. cond (not (is_eq o)) (e ∷ where_key bytes_cmp (λ x. not (eq_by_cmp bytes_cmp k x)) es) (where_key bytes_cmp (λ x. not (eq_by_cmp bytes_cmp k x)) es)) p ∙ ap (λ l. e ∷ l) h.others;
}

gap_next : (k : List ℕ) (e : Row) (es : List Row) (i : ℕ) → bytes_cmp k e.0 ≡ Greater → IsGap k es i → IsGap k (e ∷ es) (suc i)
gap_next k e es i p h = record {
  within = let w = h.within in omega arith;
  puts = λ v. ap (λ o. by_order o ((k, v) ∷ e ∷ es) ((e.0, v) ∷ es) (e ∷ put bytes_cmp k v es)) p ∙ ap (λ l. e ∷ l) (h.puts v);
  finds = ap (λ o. cond (is_eq o) (Some e.1) (find bytes_cmp k es)) p ∙ h.finds;
}

at_first : (k : List ℕ) (e : Row) (es : List Row) → bytes_cmp k e.0 ≡ Equal → below_all bytes_cmp e.0 es ≡ true → IsAt k (e ∷ es) 0
at_first k e es p h =
    let same = same_text k e.0 p in
    record {
      within = omega arith;
      key = λ d. sym same;
      puts = λ v. ap (λ o. by_order o ((k, v) ∷ e ∷ es) ((e.0, v) ∷ es) (e ∷ put bytes_cmp k v es)) p ∙ ap (λ x. (x, v) ∷ es) (sym same);
      finds = λ d. ap (λ o. cond (is_eq o) (Some e.1) (find bytes_cmp k es)) p;
      others = ap (λ o. cond (not (is_eq o)) (e ∷ where_key bytes_cmp (λ x. not (eq_by_cmp bytes_cmp k x)) es) (where_key bytes_cmp (λ x. not (eq_by_cmp bytes_cmp k x)) es)) p
          ∙ where_below_all k es (subst (λ x. below_all bytes_cmp x es ≡ true) (sym same) h);
    }

gap_first : (k : List ℕ) (e : Row) (es : List Row) → bytes_cmp k e.0 ≡ Less → below_all bytes_cmp e.0 es ≡ true → IsGap k (e ∷ es) 0
gap_first k e es p h = record {
  within = omega arith;
  puts = λ v. ap (λ o. by_order o ((k, v) ∷ e ∷ es) ((e.0, v) ∷ es) (e ∷ put bytes_cmp k v es)) p;
  finds = ap (λ o. cond (is_eq o) (Some e.1) (find bytes_cmp k es)) p ∙ find_below_all k es (below_later k e es p h);
}

next_spot : (k : List ℕ) (e : Row) (es : List Row) (r : Result ℕ ℕ) → bytes_cmp k e.0 ≡ Greater → MatchResult r (IsAt k es) (IsGap k es) → MatchResult (spot_after_row r) (IsAt k (e ∷ es)) (IsGap k (e ∷ es))
next_spot k e es (Ok i) p h = at_next k e es i p h
next_spot k e es (Err i) p h = gap_next k e es i p h

-- what the place of a key says of look-ups and changes
pub spotted : (k : List ℕ) (es : List Row) → is_sorted bytes_cmp es ≡ true → MatchResult (spot k es) (IsAt k es) (IsGap k es)
spotted k [] h = record { within = omega arith; puts = λ v. refl; finds = refl }
spotted k (e ∷ es) h =
    let parts = and_parts _ _ h in
    elim (bytes_cmp k e.0) as (λ o. bytes_cmp k e.0 ≡ o → MatchResult (by_order o (Err 0) (Ok 0) (spot_after_row (spot k es))) (IsAt k (e ∷ es)) (IsGap k (e ∷ es))) [
      | Less ↦ λ p. gap_first k e es p parts.0
      | Equal ↦ λ p. at_first k e es p parts.0
      | Greater ↦ λ p. next_spot k e es (spot k es) p (spotted k es parts.1)
    ] refl

-- ---- the place itself

pub place-le : (k : List ℕ) (es : List Row) → place_in k es ≤ length es
place-le k [] = omega arith
place-le k (e ∷ es) =
    let rest = place-le k es in
    elim (bytes_cmp k e.0) as (λ o. by_order o 0 0 (suc (place_in k es)) ≤ suc (length es)) [ Less ↦ omega arith | Equal ↦ omega arith | Greater ↦ omega arith ]

-- a lower key stands before the place
pub place_past : (k : List ℕ) (es : List Row) (i : ℕ) (d : Row) → is_sorted bytes_cmp es ≡ true → i < length es → bytes_cmp k (get_or es i d).0 ≡ Greater → i < place_in k es
place_past k [] i d s h p = absurd (omega arith)
place_past k (e ∷ es) zero d s h p = subst (λ o. 0 < by_order o 0 0 (suc (place_in k es))) (sym p) (omega arith)
place_past k (e ∷ es) (suc i) d s h p =
    let parts = and_parts _ _ s in
    let less : bytes_cmp e.0 (get_or es i d).0 ≡ Less = below_at e.0 es i d parts.0 (omega arith) in
    let back : bytes_cmp (get_or es i d).0 k ≡ Less = nat_list_cmp_total.antisymm (get_or es i d).0 k ∙ ap ordering_reverse p in
    let first : bytes_cmp k e.0 ≡ Greater = nat_list_cmp_total.antisymm k e.0 ∙ ap ordering_reverse (nat_list_cmp_total.trans e.0 (get_or es i d).0 k less back) in
    let rest = place_past k es i d parts.1 (omega arith) p in
    subst (λ o. suc i < by_order o 0 0 (suc (place_in k es))) (sym first) (omega arith)

-- a key that isn't lower stands at the place or after it
pub place_before : (k : List ℕ) (es : List Row) (i : ℕ) (d : Row) → i < length es → (bytes_cmp k (get_or es i d).0 ≡ Greater → ⊥) → place_in k es ≤ i
place_before k [] i d h p = absurd (omega arith)
place_before k (e ∷ es) zero d h p =
    elim (bytes_cmp k e.0) as (λ o. (o ≡ Greater → ⊥) → by_order o 0 0 (suc (place_in k es)) ≤ 0) [ Less ↦ λ q. omega arith | Equal ↦ λ q. omega arith | Greater ↦ λ q. absurd (q refl) ] p
place_before k (e ∷ es) (suc i) d h p =
    let rest = place_before k es i d (omega arith) p in
    elim (bytes_cmp k e.0) as (λ o. by_order o 0 0 (suc (place_in k es)) ≤ suc i) [ Less ↦ omega arith | Equal ↦ omega arith | Greater ↦ omega arith ]

-- with the key that stands at the place, or none
pub spot_here : (k : List ℕ) (es : List Row) (d : Row) → place_in k es < length es → (get_or es (place_in k es) d).0 ≡ k → spot k es ≡ Ok (place_in k es)
spot_here k [] d = λ h same. absurd (omega arith)
spot_here k (e ∷ es) d =
    elim (bytes_cmp k e.0) as (λ o. bytes_cmp k e.0 ≡ o → by_order o 0 0 (suc (place_in k es)) < suc (length es) → (get_or (e ∷ es) (by_order o 0 0 (suc (place_in k es))) d).0 ≡ k → by_order o (Err 0) (Ok 0) (spot_after_row (spot k es)) ≡ Ok (by_order o 0 0 (suc (place_in k es)))) [
      | Less ↦ λ p h same. let q : bytes_cmp k k ≡ Less = subst (λ x. bytes_cmp k x ≡ Less) same p in absurd (cc (q, tied_itself nat_list_cmp_total k))
      | Equal ↦ λ p h same. refl
      | Greater ↦ λ p h same. ap spot_after_row (spot_here k es d (omega arith) same)
    ] refl

pub spot_other : (k : List ℕ) (es : List Row) (d : Row) → (place_in k es < length es → (get_or es (place_in k es) d).0 ≡ k → ⊥) → spot k es ≡ Err (place_in k es)
spot_other k [] d = λ other. refl
spot_other k (e ∷ es) d =
    elim (bytes_cmp k e.0) as (λ o. bytes_cmp k e.0 ≡ o → (by_order o 0 0 (suc (place_in k es)) < suc (length es) → (get_or (e ∷ es) (by_order o 0 0 (suc (place_in k es))) d).0 ≡ k → ⊥) → by_order o (Err 0) (Ok 0) (spot_after_row (spot k es)) ≡ Err (by_order o 0 0 (suc (place_in k es)))) [
      | Less ↦ λ p other. refl
      | Equal ↦ λ p other. absurd (other (omega arith) (sym (same_text k e.0 p)))
      | Greater ↦ λ p other. ap spot_after_row (spot_other k es d (λ h same. other (omega arith) same))
    ] refl

-- ---- limits

pub fit_at : (es : List Row) (i : ℕ) (d : Row) → AreFit es → i < length es → IsKey (get_or es i d).0 × (length (get_or es i d).1 ≤ 64)
fit_at [] i d f h = absurd (omega arith)
fit_at (e ∷ es) zero d f h = f.0
fit_at (e ∷ es) (suc i) d f h = fit_at es i d f.1 (omega arith)

fit_set : (es : List Row) (i : ℕ) (x : Row) → AreFit es → IsKey x.0 → length x.1 ≤ 64 → AreFit (set es i x)
fit_set [] i x f a b = f
fit_set (e ∷ es) zero x f a b = ((a, b), f.1)
fit_set (e ∷ es) (suc i) x f a b = (f.0, fit_set es i x f.1 a b)

pub fit_insert : (es : List Row) (i : ℕ) (x : Row) → AreFit es → IsKey x.0 → length x.1 ≤ 64 → AreFit (insert es i x)
fit_insert es zero x f a b = ((a, b), f)
fit_insert [] (suc i) x f a b = ((a, b), tt)
fit_insert (e ∷ es) (suc i) x f a b = (f.0, fit_insert es i x f.1 a b)

bytes_set : (es : List Row) (i : ℕ) (x : Row) → AreByteRows es → AreBytes x.0 → AreBytes x.1 → AreByteRows (set es i x)
bytes_set [] i x f a b = f
bytes_set (e ∷ es) zero x f a b = ((a, b), f.1)
bytes_set (e ∷ es) (suc i) x f a b = (f.0, bytes_set es i x f.1 a b)

bytes_insert : (es : List Row) (i : ℕ) (x : Row) → AreByteRows es → AreBytes x.0 → AreBytes x.1 → AreByteRows (insert es i x)
bytes_insert es zero x f a b = ((a, b), f)
bytes_insert [] (suc i) x f a b = ((a, b), tt)
bytes_insert (e ∷ es) (suc i) x f a b = (f.0, bytes_insert es i x f.1 a b)

bytes_push : (es : List Row) (x : Row) → AreByteRows es → AreBytes x.0 → AreBytes x.1 → AreByteRows (es ++ x ∷ [])
bytes_push [] x f a b = ((a, b), tt)
bytes_push (e ∷ es) x f a b = (f.0, bytes_push es x f.1 a b)

bytes_remove : (es : List Row) (i : ℕ) → AreByteRows es → AreByteRows (remove es i)
bytes_remove [] zero f = f
bytes_remove [] (suc i) f = f
bytes_remove (e ∷ es) zero f = f.1
bytes_remove (e ∷ es) (suc i) f = (f.0, bytes_remove es i f.1)

fit_remove : (es : List Row) (i : ℕ) → AreFit es → AreFit (remove es i)
fit_remove [] zero f = f
fit_remove [] (suc i) f = f
fit_remove (e ∷ es) zero f = f.1
fit_remove (e ∷ es) (suc i) f = (f.0, fit_remove es i f.1)

-- ---- tables, and the dictionaries that they stand for

set_table : (k v : List ℕ) (es : List Row) (i : ℕ) → IsTable es → IsAt k es i → length v ≤ 64 → AreBytes k → AreBytes v → IsTable (set es i (k, v))
set_table k v es i t h b kb vb = record {
  rising = subst (λ l. is_sorted bytes_cmp l ≡ true) (h.puts v) (holds _ (is_sorted-put bytes_cmp nat_list_cmp_total k v es (passes _ t.rising)));
  fit = fit_set es i (k, v) t.fit (subst IsKey (h.key (k, v)) (fit_at es i (k, v) t.fit h.within).0) b;
  bytes = bytes_set es i (k, v) t.bytes kb vb;
}

insert_table : (k v : List ℕ) (es : List Row) (i : ℕ) → IsTable es → IsGap k es i → IsKey k → length v ≤ 64 → AreBytes k → AreBytes v → IsTable (insert es i (k, v))
insert_table k v es i t h a b kb vb = record {
  rising = subst (λ l. is_sorted bytes_cmp l ≡ true) (h.puts v) (holds _ (is_sorted-put bytes_cmp nat_list_cmp_total k v es (passes _ t.rising)));
  fit = fit_insert es i (k, v) t.fit a b;
  bytes = bytes_insert es i (k, v) t.bytes kb vb;
}

remove_table : (k : List ℕ) (es : List Row) (i : ℕ) → IsTable es → IsAt k es i → IsTable (remove es i)
remove_table k es i t h = record {
  rising = subst (λ l. is_sorted bytes_cmp l ≡ true) h.others (holds _ (is_sorted-where_key bytes_cmp (λ x. not (eq_by_cmp bytes_cmp k x)) es (passes _ t.rising)));
  fit = fit_remove es i t.fit;
  bytes = bytes_remove es i t.bytes;
}

put_is_insert : (k v : List ℕ) (es : List Row) → IsTable es → map.from_sorted (put bytes_cmp k v es) ≡ map.insert (the_map es) k v
put_is_insert k v es t =
    map.same_entries_map _ _ (
    map.entries-from_sorted bytes_cmp (put bytes_cmp k v es) (is_sorted-put bytes_cmp nat_list_cmp_total k v es (passes _ t.rising))
    ∙ ap (put bytes_cmp k v) (sym (map.entries-from_sorted bytes_cmp es (passes _ t.rising)))
    ∙ sym (map.entries-insert nat_list_cmp_total (the_map es) k v))

alike_at : (k q x : List ℕ) → bytes_cmp q x ≡ Equal → not (eq_by_cmp bytes_cmp k x) ≡ not (eq_by_cmp bytes_cmp k q)
alike_at k q x e = ap (λ y. not (eq_by_cmp bytes_cmp k y)) (sym (same_text q x e))

not_twice : (a b : Bool) (x : Option (List ℕ)) → a ≡ b → cond (not a) x None ≡ cond b None x
not_twice true true x e = refl
not_twice false false x e = refl
not_twice true false x e = cc
not_twice false true x e = cc

where_is_remove : (k : List ℕ) (es : List Row) → IsTable es → map.from_sorted (where_key bytes_cmp (λ x. not (eq_by_cmp bytes_cmp k x)) es) ≡ map.remove (the_map es) k
where_is_remove k es t =
    map.same_map nat_list_cmp_total same_text _ _ (λ q.
    map.get-from_sorted bytes_cmp (where_key bytes_cmp (λ x. not (eq_by_cmp bytes_cmp k x)) es) q (is_sorted-where_key bytes_cmp (λ x. not (eq_by_cmp bytes_cmp k x)) es (passes _ t.rising))
    ∙ find-where_key bytes_cmp (λ x. not (eq_by_cmp bytes_cmp k x)) q (alike_at k q) es
    ∙ not_twice (eq_by_cmp bytes_cmp k q) (eq_by_cmp bytes_cmp q k) (find bytes_cmp q es) ((eq_by_cmp_equiv nat_list_cmp_total).symm k q)
    ∙ ap (cond (eq_by_cmp bytes_cmp q k) None) (sym (map.get-from_sorted bytes_cmp es q (passes _ t.rising)))
    ∙ sym (map.get-remove nat_list_cmp_total (the_map es) k q))

none_either : (b : Bool) (x : Option (List ℕ)) → (b ≡ true → x ≡ None) → cond b None x ≡ x
none_either true x e = sym (e refl)
none_either false x e = refl

equal_from : (o : Ordering) → is_eq o ≡ true → o ≡ Equal
equal_from Less e = cc
equal_from Equal e = refl
equal_from Greater e = cc

-- to remove a key that isn't there changes nothing
remove_nothing : (k : List ℕ) (es : List Row) → IsTable es → find bytes_cmp k es ≡ None → the_map es ≡ map.remove (the_map es) k
remove_nothing k es t none =
    map.same_map nat_list_cmp_total same_text _ _ (λ q.
    sym (none_either (eq_by_cmp bytes_cmp q k) (map.get (the_map es) q) (λ e. ap (map.get (the_map es)) (same_text q k (equal_from _ e)) ∙ map.get-from_sorted bytes_cmp es k (passes _ t.rising) ∙ none))
    ∙ sym (map.get-remove nat_list_cmp_total (the_map es) k q))

-- ---- what the code does at the place that it found

-- a value was written over an old one
pub record Stores (k v : List ℕ) (es now : List Row) : Type 0 where
  pub table : IsTable now
  pub is : map.from_sorted {R = bytes_cmp} now ≡ map.insert (map.from_sorted es) k v

-- a row went
pub record Drops (k : List ℕ) (es now : List Row) : Type 0 where
  pub table : IsTable now
  pub is : map.from_sorted {R = bytes_cmp} now ≡ map.remove (map.from_sorted es) k

at_spot : (k : List ℕ) (es : List Row) (i : ℕ) → IsTable es → spot k es ≡ Ok i → IsAt k es i
at_spot k es i t e = subst (λ r. MatchResult r (IsAt k es) (IsGap k es)) e (spotted k es t.rising)

gap_spot : (k : List ℕ) (es : List Row) (i : ℕ) → IsTable es → spot k es ≡ Err i → IsGap k es i
gap_spot k es i t e = subst (λ r. MatchResult r (IsAt k es) (IsGap k es)) e (spotted k es t.rising)

pub spot_within : (k : List ℕ) (es : List Row) (i : ℕ) → IsTable es → spot k es ≡ Ok i → i < length es
spot_within k es i t e = (at_spot k es i t e).within

pub gap_within : (k : List ℕ) (es : List Row) (i : ℕ) → IsTable es → spot k es ≡ Err i → i ≤ length es
gap_within k es i t e = (gap_spot k es i t e).within

pub stores_over : (k v : List ℕ) (es : List Row) (i : ℕ) → IsTable es → spot k es ≡ Ok i → length v ≤ 64 → AreBytes k → AreBytes v → Stores k v es (set es i (k, v))
stores_over k v es i t e b kb vb =
    let h = at_spot k es i t e in
    record { table = set_table k v es i t h b kb vb; is = ap map.from_sorted (sym (h.puts v)) ∙ put_is_insert k v es t }

pub stores_new : (k v : List ℕ) (es : List Row) (i : ℕ) → IsTable es → spot k es ≡ Err i → IsKey k → length v ≤ 64 → AreBytes k → AreBytes v → Stores k v es (insert es i (k, v))
stores_new k v es i t e a b kb vb =
    let h = gap_spot k es i t e in
    record { table = insert_table k v es i t h a b kb vb; is = ap map.from_sorted (sym (h.puts v)) ∙ put_is_insert k v es t }

pub drops : (k : List ℕ) (es : List Row) (i : ℕ) → IsTable es → spot k es ≡ Ok i → Drops k es (remove es i)
drops k es i t e =
    let h = at_spot k es i t e in
    record { table = remove_table k es i t h; is = ap map.from_sorted (sym h.others) ∙ where_is_remove k es t }

pub drops_nothing : (k : List ℕ) (es : List Row) (i : ℕ) → IsTable es → spot k es ≡ Err i → Drops k es es
drops_nothing k es i t e = record { table = t; is = remove_nothing k es t (gap_spot k es i t e).finds }

-- no rows are no dictionary
pub no_rows : map.from_sorted {R = bytes_cmp} [] ≡ nothing
no_rows = map.empty_of_len _ (map.len-entries _ ∙ ap length (map.entries-from_sorted bytes_cmp [] tt))

-- what a look-up finds
pub gets_at : (k : List ℕ) (es : List Row) (i : ℕ) (d : Row) → IsTable es → spot k es ≡ Ok i → map.get (map.from_sorted {R = bytes_cmp} es) k ≡ Some (get_or es i d).1
gets_at k es i d t e = map.get-from_sorted bytes_cmp es k (passes _ t.rising) ∙ (at_spot k es i t e).finds d

pub gets_nothing : (k : List ℕ) (es : List Row) (i : ℕ) → IsTable es → spot k es ≡ Err i → map.get (map.from_sorted {R = bytes_cmp} es) k ≡ None
gets_nothing k es i t e = map.get-from_sorted bytes_cmp es k (passes _ t.rising) ∙ (gap_spot k es i t e).finds

pub rows_of : (es : List Row) → IsTable es → map.entries (map.from_sorted {R = bytes_cmp} es) ≡ es
rows_of es t = map.entries-from_sorted bytes_cmp es (passes _ t.rising)

pub len_of : (es : List Row) → IsTable es → map.len (map.from_sorted {R = bytes_cmp} es) ≡ length es
len_of es t = map.len-entries _ ∙ ap length (rows_of es t)

pub key_spot : (k : List ℕ) (es : List Row) (i : ℕ) (d : Row) → IsTable es → spot k es ≡ Ok i → (get_or es i d).0 ≡ k
key_spot k es i d t e = (at_spot k es i t e).key d

-- the spot that was found with slices of the same bytes and the same rows
pub spot_for : {k l : List ℕ} {es fs : List Row} {r : Result ℕ ℕ} → l ≡ k → fs ≡ es → r ≡ spot l fs → spot k es ≡ r
spot_for {k} {l} {es} {fs} {r} a b e = ap (λ x. spot x es) (sym a) ∙ ap (spot l) (sym b) ∙ sym e

-- ---- a dictionary seen as its rows

pub rows_seen : {m : Dictionary} (es : List Row) → map.from_sorted es ≡ m → IsTable es → map.entries m ≡ es
rows_seen es e t = ap map.entries (sym e) ∙ rows_of es t

pub len_seen : {m : Dictionary} (es : List Row) → map.from_sorted es ≡ m → IsTable es → map.len m ≡ length es
len_seen es e t = ap map.len (sym e) ∙ len_of es t

slice_get-map : {X : Type 0} (f : Row → X) (es : List Row) (i : ℕ) (d : Row) → i < length es → slice_get (map_list f es) i ≡ Some (f (get_or es i d))
slice_get-map f [] i d h = absurd (omega arith)
slice_get-map f (e ∷ es) zero d h = refl
slice_get-map f (e ∷ es) (suc i) d h = slice_get-map f es i d (omega arith)

pub key_seen : {m : Dictionary} (es : List Row) (i : ℕ) (d : Row) → map.from_sorted es ≡ m → IsTable es → i < length es → slice_get (map.keys m) i ≡ Some (get_or es i d).0
key_seen es i d e t h = ap (λ l. slice_get (map_list (λ r. r.0) l) i) (rows_seen es e t) ∙ slice_get-map (λ r. r.0) es i d h

pub value_seen : {m : Dictionary} (es : List Row) (i : ℕ) (d : Row) → map.from_sorted es ≡ m → IsTable es → i < length es → slice_get (map.values m) i ≡ Some (get_or es i d).1
value_seen es i d e t h = ap (λ l. slice_get (map_list (λ r. r.1) l) i) (rows_seen es e t) ∙ slice_get-map (λ r. r.1) es i d h

-- ---- a key above all others

past_puts : (k v : List ℕ) (es : List Row) → is_past k es ≡ true → put bytes_cmp k v es ≡ es ++ (k, v) ∷ []
past_puts k v [] h = refl
past_puts k v (e ∷ es) h =
    let parts = and_parts _ _ h in
    let above : bytes_cmp k e.0 ≡ Greater = nat_list_cmp_total.antisymm k e.0 ∙ ap ordering_reverse (is_less _ parts.0) in
    ap (λ o. by_order o ((k, v) ∷ e ∷ es) ((e.0, v) ∷ es) (e ∷ put bytes_cmp k v es)) above ∙ ap (λ l. e ∷ l) (past_puts k v es parts.1)

fit_push : (es : List Row) (x : Row) → AreFit es → IsKey x.0 → length x.1 ≤ 64 → AreFit (es ++ x ∷ [])
fit_push [] x f a b = ((a, b), tt)
fit_push (e ∷ es) x f a b = (f.0, fit_push es x f.1 a b)

pub past_seen : {m : Dictionary} (k : List ℕ) (es : List Row) → map.from_sorted es ≡ m → IsTable es → is_past k (map.entries m) ≡ true → is_past k es ≡ true
past_seen k es e t h = subst (λ l. is_past k l ≡ true) (rows_seen es e t) h

pub stores_last : (k v : List ℕ) (es : List Row) → IsTable es → is_past k es ≡ true → IsKey k → length v ≤ 64 → AreBytes k → AreBytes v → Stores k v es (es ++ (k, v) ∷ [])
stores_last k v es t h a b kb vb = record {
  table = record {
    rising = subst (λ l. is_sorted bytes_cmp l ≡ true) (past_puts k v es h) (holds _ (is_sorted-put bytes_cmp nat_list_cmp_total k v es (passes _ t.rising)));
    fit = fit_push es (k, v) t.fit a b;
    bytes = bytes_push es (k, v) t.bytes kb vb;
  };
  is = ap map.from_sorted (sym (past_puts k v es h)) ∙ put_is_insert k v es t;
}

and_true : (b : Bool) → (b && true) ≡ b
and_true true = refl
and_true false = refl

and_below : (o p : Ordering) → (p ≡ Less → o ≡ Less) → (is_lt o && is_lt p) ≡ is_lt p
and_below o Less h = ap (λ q. is_lt q && true) (h refl)
and_below Less Equal h = refl
and_below Equal Equal h = refl
and_below Greater Equal h = refl
and_below Less Greater h = refl
and_below Equal Greater h = refl
and_below Greater Greater h = refl

-- the last key decides
pub past_last : (k : List ℕ) (es : List Row) (i : ℕ) (d : Row) → is_sorted bytes_cmp es ≡ true → suc i ≡ length es → is_lt (bytes_cmp (get_or es i d).0 k) ≡ is_past k es
past_last k [] i d s h = absurd (omega arith)
past_last k (e ∷ []) zero d s h = sym (and_true _)
past_last k (e ∷ []) (suc i) d s h = absurd (omega arith)
past_last k (e ∷ f ∷ es) zero d s h = absurd (omega arith)
past_last k (e ∷ f ∷ es) (suc i) d s h =
    let parts = and_parts _ _ s in
    let less = below_at e.0 (f ∷ es) i d parts.0 (omega arith) in
    sym (and_below (bytes_cmp e.0 k) (bytes_cmp (get_or (f ∷ es) i d).0 k) (λ p. nat_list_cmp_total.trans e.0 (get_or (f ∷ es) i d).0 k less p))
    ∙ ap (λ b. is_lt (bytes_cmp e.0 k) && b) (past_last k (f ∷ es) i d parts.1 (omega arith))

-- ---- rows that were read one by one

pub sorted_push : (k v : List ℕ) (es : List Row) → is_sorted bytes_cmp es ≡ true → is_past k es ≡ true → is_sorted bytes_cmp (es ++ (k, v) ∷ []) ≡ true
sorted_push k v es s h = subst (λ l. is_sorted bytes_cmp l ≡ true) (past_puts k v es h) (holds _ (is_sorted-put bytes_cmp nat_list_cmp_total k v es (passes _ s)))

pub sorted_at : (es : List Row) (i : ℕ) (d : Row) → is_sorted bytes_cmp es ≡ true → suc i < length es → bytes_cmp (get_or es i d).0 (get_or es (suc i) d).0 ≡ Less
sorted_at [] i d s h = absurd (omega arith)
sorted_at (e ∷ es) zero d s h = below_at e.0 es 0 d (and_parts _ _ s).0 (omega arith)
sorted_at (e ∷ es) (suc i) d s h = sorted_at es i d (and_parts _ _ s).1 (omega arith)

-- one row more, above the one before it
pub rising_more : (es : List Row) (i : ℕ) (d : Row) → suc i < length es → is_sorted bytes_cmp (take (suc i) es) ≡ true
    → bytes_cmp (get_or es i d).0 (get_or es (suc i) d).0 ≡ Less → is_sorted bytes_cmp (take (suc i + 1) es) ≡ true
rising_more es i d h s less =
    let front = take (suc i) es in
    let last : get_or front i d ≡ get_or es i d = get_or-take (suc i) es i d (omega arith) in
    let past : is_past (get_or es (suc i) d).0 front ≡ true =
    sym (past_last (get_or es (suc i) d).0 front i d s (omega (arith, length-take-le (suc i) es (omega arith))))
    ∙ ap (λ r. is_lt (bytes_cmp r.0 (get_or es (suc i) d).0)) last ∙ ap is_lt less in
    subst (λ l. is_sorted bytes_cmp l ≡ true) (sym (take_more es (suc i) d h)) (sorted_push (get_or es (suc i) d).0 (get_or es (suc i) d).1 front s past)

pub rising_first : (es : List Row) (d : Row) → 0 < length es → is_sorted bytes_cmp (take (0 + 1) es) ≡ true
rising_first [] d h = absurd (omega arith)
rising_first (e ∷ es) d h = refl

pub bytes_more : (es : List Row) (i : ℕ) (d : Row) → i < length es → AreByteRows (take i es) → AreBytes (get_or es i d).0 → AreBytes (get_or es i d).1 → AreByteRows (take (i + 1) es)
bytes_more es i d h f a b = subst AreByteRows (sym (take_more es i d h)) (bytes_push (take i es) (get_or es i d) f a b)

pub rising_next : (es : List Row) (i : ℕ) (d : Row) → 0 < i → i < length es → is_sorted bytes_cmp (take i es) ≡ true
    → bytes_cmp (get_or es (i - 1) d).0 (get_or es i d).0 ≡ Less → is_sorted bytes_cmp (take (i + 1) es) ≡ true
rising_next es zero d p h s less = absurd (omega arith)
rising_next es (suc i) d p h s less =
    let before : suc i - 1 ≡ i = omega arith in
    rising_more es i d h s (subst (λ j. bytes_cmp (get_or es j d).0 (get_or es (suc i) d).0 ≡ Less) before less)

pub less_before : (es : List Row) (i : ℕ) (d : Row) → is_sorted bytes_cmp es ≡ true → 0 < i → i < length es → bytes_cmp (get_or es (i - 1) d).0 (get_or es i d).0 ≡ Less
less_before es zero d s p h = absurd (omega arith)
less_before es (suc i) d s p h =
    let before : i ≡ suc i - 1 = omega arith in
    subst (λ j. bytes_cmp (get_or es j d).0 (get_or es (suc i) d).0 ≡ Less) before (sorted_at es i d s h)

pub one_rising : (es : List Row) (i : ℕ) → i ≡ 0 → 0 < length es → is_sorted bytes_cmp (take (i + 1) es) ≡ true
one_rising [] i e h = absurd (omega arith)
one_rising (x ∷ es) zero e h = refl
one_rising (x ∷ es) (suc i) e h = absurd (omega arith)

-- the answer of a comparison of slices of two rows' keys
pub compared : (es : List Row) (i : ℕ) (d e : Row) {x y : List ℕ} {o : Ordering} → o ≡ bytes_cmp x y → x ≡ (get_or es (i - 1) d).0 → y ≡ (get_or es i e).0 → i < length es → bytes_cmp (get_or es (i - 1) d).0 (get_or es i d).0 ≡ o
compared es i d e {x} {y} {o} is a b h =
    ap (bytes_cmp (get_or es (i - 1) d).0) (ap (λ r. r.0) (get_or_default es i d e h) ∙ sym b) ∙ ap (λ k. bytes_cmp k y) (sym a) ∙ sym is

pub bytes_next : (es : List Row) (i : ℕ) (d e : Row) → i < length es → AreByteRows (take i es) → AreBytes (get_or es i d).0 → AreBytes (get_or es i e).1 → AreByteRows (take (i + 1) es)
bytes_next es i d e h f a b = bytes_more es i d h f a (subst (λ r. AreBytes r.1) (get_or_default es i e d h) b)
