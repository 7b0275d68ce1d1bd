-- The tree of a dictionary, and how it changes with the dictionary.
use Rattle.std.proofs.Common.{◌≡◌, ℕ, cond, List, [], ◌∷◌, length, Some, None, refl, sym, ap, subst, ◌∙◌, arith, inl, inr}
use Rattle.std.specs.Ordering.{eq_by_cmp}
use Rattle.std.specs.Cmp.Lexicographic.{nat_list_cmp_total}
use Rattle.std.specs.FinMap.{nat_cmp-IsAntisymmetric, slice_cmp-IsAntisymmetric, same_map, get-from_sorted, entries-from_sorted, entries_sorted, get-insert, get-remove, get-empty, len-entries}
use Rattle.std.specs.FinMap as finmap
use Rattle.std.specs.FinMap.Entries.{same_entries}
use Rattle.vic_dict.specs.Dictionary.{Dictionary}
use Rattle.vic_dict.specs.Lists.{AreBytes}
use Rattle.vic_wire.specs.Trees.{Tree, Empty, Leaf, Inner, Stub, Pair, pairs_of, tree_by, tree_of}
use Rattle.vic_wire.specs.Walks.{end_at, put_in, del_in}
use Rattle.vic_tree.specs.Shown.{value_at}
use Rattle.vic_tree.specs.Grown.{HasKey, IsTree, HasByteEntries, dictionary_of}
use Rattle.vic_tree.proofs.Lists.{key_cmp, found, IsSorted, tied, second}
use Rattle.vic_tree.proofs.Grown.{grown_sorted, tree_by-pairs_of}
use Rattle.vic_tree.proofs.Found.{found-end_at, is_put}
use Rattle.vic_tree.proofs.Deleted.{tree_of_grown, is_del}

pub tree_sorted : (t : Tree) → IsTree t → IsSorted (pairs_of t)
tree_sorted Empty g = tt
tree_sorted (Leaf k v) g = grown_sorted (Leaf k v) g
tree_sorted (Inner i l r) g = grown_sorted (Inner i l r) g
tree_sorted (Stub root) g = absurd g

pub entries_of : (t : Tree) → IsTree t → finmap.entries (dictionary_of t) ≡ pairs_of t
entries_of t g = entries-from_sorted key_cmp (pairs_of t) (tree_sorted t g)

pub get_of : (t : Tree) (k : List ℕ) → IsTree t → finmap.get (dictionary_of t) k ≡ found k (pairs_of t)
get_of t k g = get-from_sorted key_cmp (pairs_of t) k (tree_sorted t g)

-- two dictionaries that answer alike are one
pub same_dictionary : (d e : Dictionary) → ((k : List ℕ) → finmap.get d k ≡ finmap.get e k) → d ≡ e
same_dictionary d e h = same_map nat_list_cmp_total (slice_cmp-IsAntisymmetric nat_cmp-IsAntisymmetric) d e h

nothing_by : tree_by (length (pairs_of Empty)) (pairs_of Empty) ≡ Empty
unfolding tree_by
nothing_by = refl

no_pairs : pairs_of Empty ≡ []
no_pairs = refl

found_nothing : (k : List ℕ) → found k (pairs_of Empty) ≡ None
found_nothing k = refl

by_length : (t : Tree) → IsTree t → tree_by (length (pairs_of t)) (pairs_of t) ≡ t
by_length Empty g = nothing_by
by_length (Leaf k v) g = tree_by-pairs_of (Leaf k v) g _ (omega arith)
by_length (Inner i l r) g = tree_by-pairs_of (Inner i l r) g _ (omega arith)
by_length (Stub root) g = absurd g

-- a tree is the tree of its dictionary
pub tree_of-dictionary_of : (t : Tree) → IsTree t → tree_of (dictionary_of t) ≡ t
unfolding tree_of
tree_of-dictionary_of t g =
    let e = entries_of t g in
    (λ i. tree_by ((len-entries (dictionary_of t) ∙ ap length e) i) (e i)) ∙ by_length t g

-- ---- changes

pub get-end_at : (k : List ℕ) (t : Tree) → IsTree t → finmap.get (dictionary_of t) k ≡ value_at k (end_at k t)
get-end_at k Empty g = get_of Empty k g ∙ found_nothing k
get-end_at k (Leaf q w) g = get_of (Leaf q w) k g ∙ found-end_at k (Leaf q w) g
get-end_at k (Inner i l r) g = get_of (Inner i l r) k g ∙ found-end_at k (Inner i l r) g
get-end_at k (Stub root) g = absurd g

pub dictionary_of-put_in : (k v : List ℕ) (t : Tree) → IsTree t → AreBytes k → dictionary_of (put_in k v t) ≡ finmap.insert (dictionary_of t) k v
dictionary_of-put_in k v t g bytes =
    let p = is_put k v t g bytes in
    same_dictionary _ _ (λ z. get_of (put_in k v t) z (tree_of_grown _ p.grown) ∙ p.finds z
    ∙ ap (λ o. cond (eq_by_cmp key_cmp z k) (Some v) o) (sym (get_of t z g)) ∙ sym (get-insert nat_list_cmp_total (dictionary_of t) k v z))

pub dictionary_of-del_in : (k : List ℕ) (t : Tree) → IsTree t → dictionary_of (del_in k t) ≡ finmap.remove (dictionary_of t) k
dictionary_of-del_in k t g =
    let p = is_del k t g in
    same_dictionary _ _ (λ z. get_of (del_in k t) z p.tree ∙ p.finds z
    ∙ ap (λ o. cond (eq_by_cmp key_cmp z k) None o) (sym (get_of t z g)) ∙ sym (get-remove nat_list_cmp_total (dictionary_of t) k z))

-- ---- every dictionary with byte keys has a tree

tree_of_pairs : (ps : List Pair) → IsSorted ps → ((k : List ℕ) → HasKey ps k → AreBytes k) → (t : Tree) × IsTree t × (pairs_of t ≡ ps)
tree_of_pairs [] s h = (Empty, tt, no_pairs)
tree_of_pairs (p ∷ ps) s h =
    let rest = tree_of_pairs ps (second _ _ s) (λ k g. h k (inr g)) in
    let put = is_put p.0 p.1 rest.0 rest.1 (h p.0 (inl refl)) in (
      put_in p.0 p.1 rest.0,
      tree_of_grown _ put.grown,
      same_entries key_cmp nat_list_cmp_total tied _ _ (tree_sorted _ (tree_of_grown _ put.grown)) s (λ z. put.finds z ∙ ap (λ qs. cond (eq_by_cmp key_cmp z p.0) (Some p.1) (found z qs)) rest.2),
    )

-- the tree of a dictionary is a tree, and its pairs are the dictionary's
pub record HasTree (d : Dictionary) (t : Tree) : Type 0 where
  pub tree : IsTree t
  pub pairs : pairs_of t ≡ finmap.entries d
  pub stands : dictionary_of t ≡ d
  pub is : tree_of d ≡ t

pub has_tree : (d : Dictionary) → HasByteEntries d → HasTree d (tree_of d)
has_tree d h =
    let made = tree_of_pairs (finmap.entries d) (entries_sorted d) h in
    let stands : dictionary_of made.0 ≡ d = finmap.same_entries_map _ _ (entries_of made.0 made.1 ∙ made.2) in
    let is : made.0 ≡ tree_of d = sym (tree_of-dictionary_of made.0 made.1) ∙ ap tree_of stands in
    subst (HasTree d) is (record { tree = made.1; pairs = made.2; stands = stands; is = sym is })

-- ---- the empty dictionary

pub empty_is : dictionary_of Empty ≡ finmap.empty
empty_is = same_dictionary _ _ (λ k. get_of Empty k tt ∙ sym (get-empty key_cmp k))

pub tree_of-empty : tree_of finmap.empty ≡ Empty
tree_of-empty = ap tree_of (sym empty_is) ∙ tree_of-dictionary_of Empty tt
