-- The last done put of a key in a view, and what the view leaves at that key.
use Rattle.std.specs.Prelude.{◌≡◌, ℕ, Bool, true, false, cond, ◌&&◌, if◌then◌else◌, List, [], ◌∷◌, Option, Some, None}
use Rattle.std.specs.Str.{bytes_eq}
use Rattle.std.specs.Ordering.{nat_cmp}
use Rattle.std.specs.Cmp.Lexicographic.{slice_cmp}
use Rattle.std.specs.FinMap as map
use Rattle.std.proofs.Common.{refl, ap, sym, ◌∙◌, inl, inr}
use Rattle.std.proofs.lemmas.Map.Text.{is_eq-slice_cmp}
use Rattle.std.proofs.lemmas.Cmp.{nat_list_cmp_total}
use Rattle.vic_dict.specs.declared.op.Op.{Op}
use Rattle.vic_dict.specs.declared.op.Op.TheVariants as op
use Rattle.vic_dict.specs.declared.op.Outcome.{Outcome}
use Rattle.vic_dict.specs.declared.op.Outcome.TheVariants as outcome
use Rattle.vic_dict.specs.Lists.{IsIn}
use Rattle.vic_dict.specs.Dictionary.{Dictionary, nothing, after}
use Rattle.vic_rules.specs.declared.trace.Shown.{Shown}
use Rattle.vic_rules.specs.Client.{is_done}
use Rattle.vic_rules.specs.Views.{left_by, outcome_leaves}
use Rattle.vic_laws.specs.ContentClaims.{is_put_of, last_put}
use Rattle.vic_laws.proofs.Words.{some_same, none_is_some, bytes_same}

-- the put that left a value under a key: the last one of that key
pub record LastPut (k w : List ℕ) (v : List Shown) : Type 0 where
  pub shown : Shown
  pub last : last_put k v ≡ Some shown
  pub there : IsIn v shown
  pub puts_it : shown.entry.op ≡ op.Put k w

older : (k w : List ℕ) (x : Shown) (v : List Shown) → (is_done x.outcome && is_put_of k x.entry.op) ≡ false → LastPut k w v → LastPut k w (x ∷ v)
older k w x v e l = record {
  shown = l.shown;
  last = ap (λ b. if b then Some x else last_put k v) e ∙ l.last;
  there = inr l.there;
  puts_it = l.puts_it;
}

here : (k w : List ℕ) (x : Shown) (v : List Shown) → (is_done x.outcome && is_put_of k x.entry.op) ≡ true → x.entry.op ≡ op.Put k w → LastPut k w (x ∷ v)
here k w x v e same = record { shown = x; last = ap (λ b. if b then Some x else last_put k v) e; there = inl refl; puts_it = same }

no_key : (k w : List ℕ) → ◌≡◌ {A = Option (List ℕ)} (map.get nothing k) (Some w) → ⊥
no_key k w e = none_is_some (sym (map.get-empty (slice_cmp nat_cmp) k) ∙ e)

-- a look-up after an insert or a removal
pub after_put : (d : Dictionary) (q u k : List ℕ) → map.get (map.insert d q u) k ≡ cond (bytes_eq k q) (Some u) (map.get d k)
after_put d q u k = map.get-insert nat_list_cmp_total d q u k ∙ ap (λ b. cond b (Some u) (map.get d k)) (is_eq-slice_cmp k q)

pub after_del : (d : Dictionary) (q k : List ℕ) → map.get (map.remove d q) k ≡ cond (bytes_eq k q) None (map.get d k)
after_del d q k = map.get-remove nat_list_cmp_total d q k ∙ ap (λ b. cond b None (map.get d k)) (is_eq-slice_cmp k q)

by_put : (k w : List ℕ) (x : Shown) (v : List Shown) (q u : List ℕ) → is_done x.outcome ≡ true → x.entry.op ≡ op.Put q u → (b : Bool) → bytes_eq k q ≡ b
    → cond b (Some u) (map.get (left_by v) k) ≡ Some w → (map.get (left_by v) k ≡ Some w → LastPut k w v) → LastPut k w (x ∷ v)
by_put k w x v q u done same true e gets before =
    here k w x v (ap (λ c. c && is_put_of k x.entry.op) done ∙ (ap (is_put_of k) same ∙ e)) (same ∙ (ap (λ z. op.Put z u) (sym (bytes_same k q e)) ∙ ap (op.Put k) (some_same gets)))
by_put k w x v q u done same false e gets before = older k w x v (ap (λ c. c && is_put_of k x.entry.op) done ∙ (ap (is_put_of k) same ∙ e)) (before gets)

by_del : (k w : List ℕ) (x : Shown) (v : List Shown) (q : List ℕ) → x.entry.op ≡ op.Del q → is_done x.outcome ≡ true → (b : Bool)
    → cond b None (map.get (left_by v) k) ≡ Some w → (map.get (left_by v) k ≡ Some w → LastPut k w v) → LastPut k w (x ∷ v)
by_del k w x v q same done true gets before = absurd (none_is_some gets)
by_del k w x v q same done false gets before = older k w x v (ap (λ c. c && is_put_of k x.entry.op) done ∙ ap (is_put_of k) same) (before gets)

by_op : (k w : List ℕ) (x : Shown) (v : List Shown) (o : Op) → x.entry.op ≡ o → is_done x.outcome ≡ true → map.get (after (left_by v) o) k ≡ Some w
    → (map.get (left_by v) k ≡ Some w → LastPut k w v) → LastPut k w (x ∷ v)
by_op k w x v (op.Put q u) same done gets before = by_put k w x v q u done same (bytes_eq k q) refl (sym (after_put (left_by v) q u k) ∙ gets) before
by_op k w x v (op.Del q) same done gets before = by_del k w x v q same done (bytes_eq k q) (sym (after_del (left_by v) q k) ∙ gets) before
by_op k w x v (op.Get q) same done gets before = older k w x v (ap (λ c. c && is_put_of k x.entry.op) done ∙ ap (is_put_of k) same) (before gets)
by_op k w x v (op.List p) same done gets before = older k w x v (ap (λ c. c && is_put_of k x.entry.op) done ∙ ap (is_put_of k) same) (before gets)

by_outcome : (k w : List ℕ) (x : Shown) (v : List Shown) (y : Outcome) → x.outcome ≡ y → map.get (outcome_leaves (left_by v) x y) k ≡ Some w
    → (map.get (left_by v) k ≡ Some w → LastPut k w v) → LastPut k w (x ∷ v)
by_outcome k w x v (outcome.Done a) same gets before = by_op k w x v x.entry.op refl (ap is_done same) gets before
by_outcome k w x v (outcome.Aborted u) same gets before = older k w x v (ap (λ z. is_done z && is_put_of k x.entry.op) same) (before gets)
by_outcome k w x v (outcome.Refused r) same gets before = older k w x v (ap (λ z. is_done z && is_put_of k x.entry.op) same) (before gets)
by_outcome k w x v (outcome.Halted c) same gets before = older k w x v (ap (λ z. is_done z && is_put_of k x.entry.op) same) (before gets)

-- what a view leaves under a key was put there by the last done put of that key
pub last_put_is : (k w : List ℕ) (v : List Shown) → map.get (left_by v) k ≡ Some w → LastPut k w v
unfolding left_by
last_put_is k w [] gets = absurd (no_key k w gets)
last_put_is k w (x ∷ v) gets = by_outcome k w x v x.outcome refl gets (last_put_is k w v)
