-- Dictionaries that are alike at what an operation looks at, and operations that commute.
use Rattle.std.proofs.Common.{◌≡◌, ℕ, Bool, true, false, cond, ◌||◌, List, ◌∷◌, [], map, Option, None, Some, refl, sym, ap, ◌∙◌}
use Rattle.std.specs.List.{filter, starts_with}
use Rattle.std.specs.Prelude.{nat_eq}
use Rattle.std.specs.Ordering.{nat_cmp, eq_by_cmp}
use Rattle.std.specs.declared.cmp.Ordering.TheVariants.{Equal}
use Rattle.std.specs.Cmp.Lexicographic.{slice_cmp}
use Rattle.std.specs.Str.{bytes_eq}
use Rattle.std.specs.FinMap as map
use Rattle.std.specs.FinMap.Entries.{where_key, is_sorted-where_key, find-where_key, same_entries}
use Rattle.std.proofs.lemmas.Cmp.{nat_list_cmp_total}
use Rattle.std.proofs.lemmas.Map.Text.{is_eq-slice_cmp}
use Rattle.std.proofs.lemmas.Slice.Eq.{bytes_eq-Decides}
use Rattle.vic_dict.specs.declared.op.Op.{Op}
use Rattle.vic_dict.specs.declared.op.Op.TheVariants as op
use Rattle.vic_dict.specs.declared.op.Answer.TheVariants as answer
use Rattle.vic_dict.specs.Dictionary.{Dictionary, reply, after, answer_of_get, answer_of_del}
use Rattle.vic_wire.specs.Conflict.{conflicts, looks_at, is_met, changed_key}
use Rattle.vic_commute.specs.Commutes.{Commutes}

-- the two have equal values at each key that the operation looks at
abbrev pub Alike : Op → Dictionary → Dictionary → Type 0
Alike o d e = (k : List ℕ) → looks_at o k ≡ true → map.get d k ≡ map.get e k

-- ---- keys

abbrev pub is_key : List ℕ → List ℕ → Bool
is_key q k = eq_by_cmp (slice_cmp nat_cmp) q k

tells : (x y : List ℕ) → slice_cmp nat_cmp x y ≡ Equal → x ≡ y
tells x y e = map.slice_cmp-IsAntisymmetric map.nat_cmp-IsAntisymmetric x y e

is_key-eq : (q k : List ℕ) → is_key q k ≡ bytes_eq q k
is_key-eq q k = is_eq-slice_cmp q k

pub same_key : (q k : List ℕ) → is_key q k ≡ true → q ≡ k
same_key q k e = (bytes_eq-Decides q k).0 (sym (is_key-eq q k) ∙ e)

pub own_key : (k : List ℕ) → bytes_eq k k ≡ true
own_key k = (bytes_eq-Decides k k).1 refl

-- ---- what an operation leaves at a key

-- what it leaves there, given what was there
abbrev pub leaves_at : Op → List ℕ → Option (List ℕ) → Option (List ℕ)
leaves_at (op.Put k v) q was = cond (is_key q k) (Some v) was
leaves_at (op.Get k) q was = was
leaves_at (op.Del k) q was = cond (is_key q k) None was
leaves_at (op.List p) q was = was

pub get-after : (o : Op) (d : Dictionary) (q : List ℕ) → map.get (after d o) q ≡ leaves_at o q (map.get d q)
get-after (op.Put k v) d q = map.get-insert nat_list_cmp_total d k v q
get-after (op.Get k) d q = refl
get-after (op.Del k) d q = map.get-remove nat_list_cmp_total d k q
get-after (op.List p) d q = refl

-- the same operation keeps dictionaries alike
pub after_same : (o x : Op) (d e : Dictionary) → Alike o d e → Alike o (after d x) (after e x)
after_same o x d e alike k looks = get-after x d k ∙ ap (leaves_at x k) (alike k looks) ∙ sym (get-after x e k)

missed : (o : Op) (k q : List ℕ) → looks_at o k ≡ false → looks_at o q ≡ true → is_key q k ≡ false
missed o k q away looks =
    elim (is_key q k) as (λ b. is_key q k ≡ b → b ≡ false) [
      | true ↦ λ e. sym looks ∙ ap (looks_at o) (same_key q k e) ∙ away
      | false ↦ λ e. refl
    ] refl

-- an operation whose key the other doesn't look at leaves alone what it looks at
kept : (o x : Op) (q : List ℕ) (was : Option (List ℕ)) → is_met (changed_key x) o ≡ false → looks_at o q ≡ true → leaves_at x q was ≡ was
kept o (op.Put k v) q was away looks = ap (λ b. cond b (Some v) was) (missed o k q away looks)
kept o (op.Get k) q was away looks = refl
kept o (op.Del k) q was away looks = ap (λ b. cond b None was) (missed o k q away looks)
kept o (op.List p) q was away looks = refl

left_false : (a b : Bool) → (a || b) ≡ false → a ≡ false
left_false true b e = e
left_false false b e = refl

right_false : (a b : Bool) → (a || b) ≡ false → b ≡ false
right_false true b e = absurd cc
right_false false b e = e

-- an operation that doesn't conflict with the other keeps dictionaries alike at it
pub after_other : (o x : Op) (d e : Dictionary) → conflicts x o ≡ false → Alike o d e → Alike o (after d x) e
after_other o x d e apart alike k looks =
    get-after x d k ∙ kept o x k (map.get d k) (left_false _ _ apart) looks ∙ alike k looks

pub other_after : (o x : Op) (d e : Dictionary) → conflicts x o ≡ false → Alike o d e → Alike o d (after e x)
other_after o x d e apart alike k looks = sym (after_other o x e d apart (λ q l. sym (alike q l)) k looks)

pub alike_itself : (o : Op) (d : Dictionary) → Alike o d d
alike_itself o d k looks = refl

pub alike_back : (o : Op) (d e : Dictionary) → Alike o d e → Alike o e d
alike_back o d e alike k looks = sym (alike k looks)

pub alike_along : (o : Op) (d e f : Dictionary) → Alike o d e → Alike o e f → Alike o d f
alike_along o d e f one other k looks = one k looks ∙ other k looks

-- ---- answers

-- the keys that pass a test
abbrev keys_of : List (List ℕ × List ℕ) → List (List ℕ)
keys_of es = map {A = List ℕ × List ℕ} (λ e. e.0) es

filter-keys : (p : List ℕ → Bool) (es : List (List ℕ × List ℕ)) → filter p (keys_of es) ≡ keys_of (where_key (slice_cmp nat_cmp) p es)
filter-keys p [] = refl
filter-keys p (e ∷ es) =
    elim (p e.0) as (λ b. cond b (e.0 ∷ filter p (keys_of es)) (filter p (keys_of es)) ≡ keys_of (cond b (e ∷ where_key (slice_cmp nat_cmp) p es) (where_key (slice_cmp nat_cmp) p es))) [
      | true ↦ ap (λ ks. e.0 ∷ ks) (filter-keys p es)
      | false ↦ filter-keys p es
    ]

-- at a key that passes and at one that doesn't
passing : (b : Bool) (x y : Option (List ℕ)) → (b ≡ true → x ≡ y) → cond b x None ≡ cond b y None
passing true x y same = same refl
passing false x y same = refl

-- dictionaries that are alike at the keys that pass have the same keys that pass
pub same_passing : (p : List ℕ → Bool) (d e : Dictionary) → ((k : List ℕ) → p k ≡ true → map.get d k ≡ map.get e k) → filter p (map.keys d) ≡ filter p (map.keys e)
same_passing p d e alike =
    let R = slice_cmp nat_cmp in
    let tied : (q x : List ℕ) → slice_cmp nat_cmp q x ≡ Equal → p x ≡ p q = λ q x t. ap p (sym (tells q x t)) in
    filter-keys p (map.entries d)
    ∙ ap keys_of (same_entries R nat_list_cmp_total tells (where_key R p (map.entries d)) (where_key R p (map.entries e))
    (is_sorted-where_key R p (map.entries d) (map.entries_sorted d)) (is_sorted-where_key R p (map.entries e) (map.entries_sorted e))
    (λ q. find-where_key R p q (tied q) (map.entries d)
    ∙ passing (p q) _ _ (λ pass. sym (map.get-entries d q) ∙ alike q pass ∙ map.get-entries e q)
    ∙ sym (find-where_key R p q (tied q) (map.entries e))))
    ∙ sym (filter-keys p (map.entries e))

-- alike dictionaries give the operation the same answer
pub reply_alike : (o : Op) (d e : Dictionary) → Alike o d e → reply d o ≡ reply e o
reply_alike (op.Put k v) d e alike = refl
reply_alike (op.Get k) d e alike = ap answer_of_get (alike k (own_key k))
reply_alike (op.Del k) d e alike = ap answer_of_del (alike k (own_key k))
reply_alike (op.List p) d e alike = ap answer.Names (same_passing (λ k. starts_with nat_eq k p) d e alike)

-- ---- either order

swapped : (s t : Bool) (y z was : Option (List ℕ)) → (s ≡ true → t ≡ true → ⊥) → cond t y (cond s z was) ≡ cond s z (cond t y was)
swapped true true y z was apart = absurd (apart refl refl)
swapped true false y z was apart = refl
swapped false true y z was apart = refl
swapped false false y z was apart = refl

apart_keys : (k l q : List ℕ) → bytes_eq l k ≡ false → is_key q k ≡ true → is_key q l ≡ true → ⊥
apart_keys k l q away here there =
    let same : bytes_eq l k ≡ true = (bytes_eq-Decides l k).1 (sym (same_key q l there) ∙ same_key q k here) in cc

-- what the two leave at a key, in either order
orders : (a b : Op) (q : List ℕ) (was : Option (List ℕ)) → conflicts a b ≡ false → leaves_at b q (leaves_at a q was) ≡ leaves_at a q (leaves_at b q was)
orders (op.Put k v) (op.Put l w) q was apart = swapped (is_key q k) (is_key q l) (Some w) (Some v) was (apart_keys k l q (left_false _ _ apart))
orders (op.Put k v) (op.Get l) q was apart = refl
orders (op.Put k v) (op.Del l) q was apart = swapped (is_key q k) (is_key q l) None (Some v) was (apart_keys k l q (left_false _ _ apart))
orders (op.Put k v) (op.List l) q was apart = refl
orders (op.Get k) b q was apart = refl
orders (op.Del k) (op.Put l w) q was apart = swapped (is_key q k) (is_key q l) (Some w) None was (apart_keys k l q (left_false _ _ apart))
orders (op.Del k) (op.Get l) q was apart = refl
orders (op.Del k) (op.Del l) q was apart = swapped (is_key q k) (is_key q l) None None was (apart_keys k l q (left_false _ _ apart))
orders (op.Del k) (op.List l) q was apart = refl
orders (op.List k) b q was apart = refl

twice : (a b : Op) (d : Dictionary) (q : List ℕ) → map.get (after (after d a) b) q ≡ leaves_at b q (leaves_at a q (map.get d q))
twice a b d q = get-after b (after d a) q ∙ ap (leaves_at b q) (get-after a d q)

pub one_map : (a b : Op) (d : Dictionary) → conflicts a b ≡ false → after (after d a) b ≡ after (after d b) a
one_map a b d apart =
    map.same_map nat_list_cmp_total tells (after (after d a) b) (after (after d b) a)
    (λ q. twice a b d q ∙ orders a b q (map.get d q) apart ∙ sym (twice b a d q))

or-flips : (a b : Bool) → (a || b) ≡ (b || a)
or-flips true true = refl
or-flips true false = refl
or-flips false true = refl
or-flips false false = refl

-- a conflict goes both ways
pub conflicts-flips : (a b : Op) → conflicts a b ≡ conflicts b a
conflicts-flips a b = or-flips (is_met (changed_key a) b) (is_met (changed_key b) a)

pub in_either_order : Commutes
in_either_order d a b apart = record {
  leaves = one_map a b d apart;
  second = reply_alike b (after d a) d (after_other b a d d apart (alike_itself b d));
  first = reply_alike a (after d b) d (after_other a b d d (conflicts-flips b a ∙ apart) (alike_itself a d));
}
