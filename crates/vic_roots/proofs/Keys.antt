-- Keys that tie are equal, and what a look-up answers after a change.
use Rattle.std.proofs.Common.{◌≡◌, ℕ, ◌⊎◌, inl, inr, Ordering, Less, Equal, Greater, Bool, true, false, cond, List, Option, Some, None, refl, sym, ap, ◌∙◌}
use Rattle.std.proofs.lemmas.Cmp.{nat_list_cmp_total, tied_itself}
use Rattle.std.specs.Ordering.{nat_cmp, eq_by_cmp, is_eq}
use Rattle.std.specs.Cmp.Lexicographic.{slice_cmp}
use Rattle.std.specs.FinMap as map
use Rattle.std.specs.FinMap.{get-empty, get-insert, get-remove, slice_cmp-IsAntisymmetric, nat_cmp-IsAntisymmetric}
use Rattle.vic_dict.specs.Dictionary.{Dictionary, nothing}

-- the order of keys
abbrev pub key_order : List ℕ → List ℕ → Ordering
key_order = slice_cmp nat_cmp

is_equal : (o : Ordering) → is_eq o ≡ true → o ≡ Equal
is_equal Less e = absurd (cc)
is_equal Equal e = refl
is_equal Greater e = absurd (cc)

-- two keys that tie are equal
pub same_key : (a b : List ℕ) → eq_by_cmp key_order a b ≡ true → a ≡ b
same_key a b e = slice_cmp-IsAntisymmetric nat_cmp-IsAntisymmetric a b (is_equal (key_order a b) e)

-- a key ties with itself
pub key_ties : (a : List ℕ) → eq_by_cmp key_order a a ≡ true
key_ties a = ap is_eq (tied_itself nat_list_cmp_total a)

-- the empty dictionary has nothing at a key
pub none_in-nothing : (k v : List ℕ) → map.get nothing k ≡ Some v → ⊥
none_in-nothing k v e = let none : map.get nothing k ≡ None = get-empty key_order k in cc

-- a choice that gives w is the one or the other
pub from_insert : (b : Bool) (old : Option (List ℕ)) (v w : List ℕ) → cond b (Some v) old ≡ Some w → ((b ≡ true) × (v ≡ w)) ⊎ (old ≡ Some w)
from_insert true old v w e = inl (refl, cc)
from_insert false old v w e = inr e

from_remove : (b : Bool) (old : Option (List ℕ)) (w : List ℕ) → cond b None old ≡ Some w → old ≡ Some w
from_remove true old w e = absurd (cc)
from_remove false old w e = e

pub put_key : (q k v w : List ℕ) → (eq_by_cmp key_order q k ≡ true) × (v ≡ w) → (q ≡ k) × (v ≡ w)
put_key q k v w h = (same_key q k h.0, h.1)

-- what a look-up finds after an insertion is the new value at its key, or was there before
pub found_after_insert : (d : Dictionary) (k v q w : List ℕ) → map.get (map.insert d k v) q ≡ Some w → ((q ≡ k) × (v ≡ w)) ⊎ (map.get d q ≡ Some w)
found_after_insert d k v q w e =
    elim (from_insert (eq_by_cmp key_order q k) (map.get d q) v w (sym (get-insert nat_list_cmp_total d k v q) ∙ e)) [
      | inl new ↦ inl (put_key q k v w new)
      | inr old ↦ inr old
    ]

-- what a look-up finds after a removal was there before
pub found_after_remove : (d : Dictionary) (k q w : List ℕ) → map.get (map.remove d k) q ≡ Some w → map.get d q ≡ Some w
found_after_remove d k q w e = from_remove (eq_by_cmp key_order q k) (map.get d q) w (sym (get-remove nat_list_cmp_total d k q) ∙ e)
