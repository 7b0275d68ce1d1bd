-- What a del leaves.
use Rattle.std.proofs.Common.{◌≡◌, ℕ, Bool, true, false, cond, List, ◌++◌, Option, Some, None, refl, sym, ap, subst, ◌∙◌, inl, inr}
use Rattle.std.specs.Str.{bytes_eq}
use Rattle.std.specs.Ordering.{eq_by_cmp}
use Rattle.vic_wire.specs.Bits.{key_bit}
use Rattle.vic_tree.specs.Grown.{PartsAt, HasKey, IsGrown, IsTree}
use Rattle.vic_wire.specs.Trees.{Tree, Empty, Leaf, Inner, Stub, Pair, pairs_of}
use Rattle.vic_wire.specs.Walks.{tree_of_sides, del_in}
use Rattle.vic_tree.proofs.Lists.{key_cmp, found, or_else, or_else-none, found-append, found-none, same_key, HasKey-left, HasKey-right, HasKey-cases}
use Rattle.vic_tree.proofs.Grown.{append_nil}
use Rattle.vic_tree.proofs.Found.{not_left, not_right, grown_left, grown_right, grown_parts, make_grown, bytes_eq-key}

pub tree_of_grown : (t : Tree) → IsGrown t → IsTree t
unfolding IsGrown
tree_of_grown Empty g = tt
tree_of_grown (Leaf k v) g = g
tree_of_grown (Inner i l r) g = g
tree_of_grown (Stub root) g = g

pub pairs_of-tree_of_sides : (i : ℕ) (l r : Tree) → pairs_of (tree_of_sides i l r) ≡ pairs_of l ++ pairs_of r
pairs_of-tree_of_sides i Empty r = refl
pairs_of-tree_of_sides i (Leaf k v) Empty = refl
pairs_of-tree_of_sides i (Leaf k v) (Leaf q w) = refl
pairs_of-tree_of_sides i (Leaf k v) (Inner j m s) = refl
pairs_of-tree_of_sides i (Leaf k v) (Stub root) = refl
pairs_of-tree_of_sides i (Inner h m s) Empty = sym (append_nil (pairs_of m ++ pairs_of s))
pairs_of-tree_of_sides i (Inner h m s) (Leaf q w) = refl
pairs_of-tree_of_sides i (Inner h m s) (Inner j n u) = refl
pairs_of-tree_of_sides i (Inner h m s) (Stub root) = refl
pairs_of-tree_of_sides i (Stub root) Empty = refl
pairs_of-tree_of_sides i (Stub root) (Leaf q w) = refl
pairs_of-tree_of_sides i (Stub root) (Inner j m s) = refl
pairs_of-tree_of_sides i (Stub root) (Stub other) = refl

-- joined sides of which one may be gone
pub tree_joined : (i : ℕ) (l r : Tree) → IsTree l → IsTree r → ((a b : List ℕ) → HasKey (pairs_of l) a → HasKey (pairs_of r) b → PartsAt i a b) → IsTree (tree_of_sides i l r)
tree_joined i Empty r g h p = h
tree_joined i (Leaf k v) Empty g h p = g
tree_joined i (Leaf k v) (Leaf q w) g h p = make_grown i (Leaf k v) (Leaf q w) g h p
tree_joined i (Leaf k v) (Inner j m s) g h p = make_grown i (Leaf k v) (Inner j m s) g h p
tree_joined i (Leaf k v) (Stub root) g h p = absurd h
tree_joined i (Inner c m s) Empty g h p = g
tree_joined i (Inner c m s) (Leaf q w) g h p = make_grown i (Inner c m s) (Leaf q w) g h p
tree_joined i (Inner c m s) (Inner j n u) g h p = make_grown i (Inner c m s) (Inner j n u) g h p
tree_joined i (Inner c m s) (Stub root) g h p = absurd h
tree_joined i (Stub root) r g h p = absurd g

abbrev pub without : List ℕ → List ℕ → Option (List ℕ) → Option (List ℕ)
without z k o = cond (eq_by_cmp key_cmp z k) None o

less_right : (z k : List ℕ) (ls rs new : List Pair) → (HasKey ls k → ⊥) → found z new ≡ without z k (found z rs) → found z (ls ++ new) ≡ without z k (found z (ls ++ rs))
less_right z k ls rs new absent e =
    found-append z ls new ∙ ap (or_else (found z ls)) e
    ∙ elim (eq_by_cmp key_cmp z k) as (λ b. eq_by_cmp key_cmp z k ≡ b → or_else (found z ls) (cond b None (found z rs)) ≡ cond b None (or_else (found z ls) (found z rs))) [
      | true ↦ λ t. or_else-none (found z ls) ∙ found-none z ls (λ h. absent (subst (HasKey ls) (same_key z k t) h))
      | false ↦ λ t. refl
    ] refl
    ∙ ap (without z k) (sym (found-append z ls rs))

less_left : (z k : List ℕ) (ls rs new : List Pair) → (HasKey rs k → ⊥) → found z new ≡ without z k (found z ls) → found z (new ++ rs) ≡ without z k (found z (ls ++ rs))
less_left z k ls rs new absent e =
    found-append z new rs ∙ ap (λ o. or_else o (found z rs)) e
    ∙ elim (eq_by_cmp key_cmp z k) as (λ b. eq_by_cmp key_cmp z k ≡ b → or_else (cond b None (found z ls)) (found z rs) ≡ cond b None (or_else (found z ls) (found z rs))) [
      | true ↦ λ t. found-none z rs (λ h. absent (subst (HasKey rs) (same_key z k t) h))
      | false ↦ λ t. refl
    ] refl
    ∙ ap (without z k) (sym (found-append z ls rs))

-- a tree from which the key was taken
pub record IsDel (k : List ℕ) (t new : Tree) : Type 0 where
  pub tree : IsTree new
  pub keys : (a : List ℕ) → HasKey (pairs_of new) a → HasKey (pairs_of t) a
  pub finds : (z : List ℕ) → found z (pairs_of new) ≡ without z k (found z (pairs_of t))

joined_right : (k : List ℕ) (i : ℕ) (l r new : Tree) → IsGrown (Inner i l r) → key_bit k i ≡ true → IsDel k r new → IsDel k (Inner i l r) (tree_of_sides i l new)
joined_right k i l r new g e d =
    record {
      tree = tree_joined i l new (tree_of_grown l (grown_left i l r g)) d.tree (λ a b ha hb. grown_parts i l r g a b ha (d.keys b hb));
      keys = λ a h. elim (HasKey-cases (pairs_of l) (pairs_of new) a (subst (λ ps. HasKey ps a) (pairs_of-tree_of_sides i l new) h)) [ inl x ↦ HasKey-left (pairs_of l) (pairs_of r) a x | inr y ↦ HasKey-right (pairs_of l) (pairs_of r) a (d.keys a y) ];
      finds = λ z. ap (found z) (pairs_of-tree_of_sides i l new) ∙ less_right z k (pairs_of l) (pairs_of r) (pairs_of new) (not_left i l r k g e) (d.finds z);
    }

joined_left : (k : List ℕ) (i : ℕ) (l r new : Tree) → IsGrown (Inner i l r) → key_bit k i ≡ false → IsDel k l new → IsDel k (Inner i l r) (tree_of_sides i new r)
joined_left k i l r new g e d =
    record {
      tree = tree_joined i new r d.tree (tree_of_grown r (grown_right i l r g)) (λ a b ha hb. grown_parts i l r g a b (d.keys a ha) hb);
      keys = λ a h. elim (HasKey-cases (pairs_of new) (pairs_of r) a (subst (λ ps. HasKey ps a) (pairs_of-tree_of_sides i new r) h)) [ inl x ↦ HasKey-left (pairs_of l) (pairs_of r) a (d.keys a x) | inr y ↦ HasKey-right (pairs_of l) (pairs_of r) a y ];
      finds = λ z. ap (found z) (pairs_of-tree_of_sides i new r) ∙ less_left z k (pairs_of l) (pairs_of r) (pairs_of new) (not_right i l r k g e) (d.finds z);
    }

leaf_gone : (k q w : List ℕ) (b : Bool) → bytes_eq q k ≡ b → IsGrown (Leaf q w) → IsDel k (Leaf q w) (cond b Empty (Leaf q w))
leaf_gone k q w true e g = record {
  tree = tt;
  keys = λ a h. absurd h;
  finds = λ z. elim (eq_by_cmp key_cmp z k) as (λ b. eq_by_cmp key_cmp z k ≡ b → None ≡ cond b None (cond (eq_by_cmp key_cmp z q) (Some w) None)) [
    | true ↦ λ t. refl
    | false ↦ λ t. sym (ap (λ b. cond b (Some w) None) (sym (ap (eq_by_cmp key_cmp z) (same_key k q (sym (bytes_eq-key q k) ∙ e))) ∙ t))
  ] refl;
}
leaf_gone k q w false e g = record {
  tree = g;
  keys = λ a h. h;
  finds = λ z. elim (eq_by_cmp key_cmp z k) as (λ b. eq_by_cmp key_cmp z k ≡ b → cond (eq_by_cmp key_cmp z q) (Some w) None ≡ cond b None (cond (eq_by_cmp key_cmp z q) (Some w) None)) [
    | true ↦ λ t. ap (λ b. cond b (Some w) None) (ap (λ x. eq_by_cmp key_cmp x q) (same_key z k t) ∙ sym (bytes_eq-key q k) ∙ e)
    | false ↦ λ t. refl
  ] refl;
}

no_empty : IsGrown Empty → ⊥
unfolding IsGrown
no_empty g = g

pub no_stub : (root : List ℕ) → IsGrown (Stub root) → ⊥
unfolding IsGrown
no_stub root g = g

del_grown : (k : List ℕ) (t : Tree) → IsGrown t → IsDel k t (del_in k t)
del_grown k Empty g = absurd (no_empty g)
del_grown k (Leaf q w) g = leaf_gone k q w (bytes_eq q k) refl g
del_grown k (Inner i l r) g =
    elim (key_bit k i) as (λ b. key_bit k i ≡ b → IsDel k (Inner i l r) (cond b (tree_of_sides i l (del_in k r)) (tree_of_sides i (del_in k l) r))) [
      | true ↦ λ e. joined_right k i l r (del_in k r) g e (del_grown k r (grown_right i l r g))
      | false ↦ λ e. joined_left k i l r (del_in k l) g e (del_grown k l (grown_left i l r g))
    ] refl
del_grown k (Stub root) g = absurd (no_stub root g)

del_empty : (k : List ℕ) → IsDel k Empty (del_in k Empty)
del_empty k = record { tree = tt; keys = λ a h. h; finds = λ z. elim (eq_by_cmp key_cmp z k) as (λ b. ◌≡◌ {A = Option (List ℕ)} None (cond b None None)) [ true ↦ refl | false ↦ refl ] }

pub is_del : (k : List ℕ) (t : Tree) → IsTree t → IsDel k t (del_in k t)
is_del k Empty g = del_empty k
is_del k (Leaf q w) g = del_grown k (Leaf q w) g
is_del k (Inner i l r) g = del_grown k (Inner i l r) g
is_del k (Stub root) g = absurd g
