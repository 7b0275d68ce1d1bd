-- What a kept tree says of its dictionary, and how its weight and count change.
use Rattle.std.proofs.Common.{◌≡◌, ◌≢◌, ℕ, zero, suc, ◌+◌, ◌*◌, ◌<◌, ◌≤◌, Bool, true, false, cond, List, [], ◌∷◌, ◌++◌, length, map, sum_by, Option, Some, None, is_some, ◌^◌, ◌-◌, ◌&&◌, refl, sym, ap, subst, ◌∙◌, arith, inl, inr, ◌⊎◌, eqb}
use Rattle.std.specs.Str.{bytes_eq}
use Rattle.std.specs.Prelude.{filter, nat_eq}
use Rattle.std.specs.List.{starts_with}
use Rattle.std.specs.FinMap as finmap
use Rattle.std.proofs.lemmas.List.{length-take}
use Rattle.vic_dict.specs.Dictionary.{Dictionary, IsKey}
use Rattle.vic_dict.specs.Lists.{AreBytes}
use Rattle.vic_wire.specs.Trees.{Tree, Empty, Leaf, Inner, Pair, pairs_of, root_of, tree_of, dictionary_root}
use Rattle.vic_wire.specs.Walks.{end_at, tree_with_value, tree_with_fork, put_in, del_in, below, least, leaf_has_prefix}
use Rattle.vic_tree.specs.Shown.{value_at, names_in, names_below}
use Rattle.vic_tree.specs.Grown.{HasKey, IsTree, IsGrown, dictionary_of}
use Rattle.vic_tree.proofs.Lists.{key_cmp, same_key, found-none, HasKey-left, HasKey-right, HasKey-cases}
use Rattle.vic_tree.proofs.Stands.{get-end_at, get_of, entries_of, tree_of-dictionary_of, same_dictionary, dictionary_of-put_in, dictionary_of-del_in}
use Rattle.vic_tree.proofs.Deleted.{is_del, tree_of_grown}
use Rattle.vic_tree.proofs.Found.{is_put}
use Rattle.vic_tree.proofs.Names.{kept, keys_of, names_in-keys}
use Rattle.vic_tree.proofs.Sums.{length_by_sum, total-tree_with_fork, total-tree_with_value, total-del_in, total_least}
use Rattle.std.specs.FinMap.{len-entries, get-empty, get-remove}
use Rattle.std.specs.Ordering.{eq_by_cmp}
use Rattle.std.specs.Cmp.Lexicographic.{nat_list_cmp_total}
use Rattle.vic_trie.specs.declared.node.Node.{Node}
use Rattle.vic_trie.specs.declared.node.Node.TheVariants as node
use Rattle.vic_trie.specs.Nodes.{tree, IsSound}
use Rattle.vic_trie.specs.Weights.{pair_weight, weight_of}
use Rattle.vic_trie.specs.Tries.{top_tree, IsTopSound, IsKept, Grows, Keeps, Shrinks}

-- ---- weight and count

pub grows_planted : (n : ℕ) (k v : List ℕ) (t : Tree) → Grows t (tree_with_fork n k v t) k v
grows_planted n k v t = record {
  longer = omega (arith, length_by_sum (pairs_of t), length_by_sum (pairs_of (tree_with_fork n k v t)), total-tree_with_fork (λ p. 1) n k v t);
  heavier = total-tree_with_fork pair_weight n k v t;
}

pub keeps_revalued : (k v w : List ℕ) (t : Tree) → end_at k t ≡ Leaf k w → Keeps t (tree_with_value k v t) v (length w)
keeps_revalued k v w t e = record {
  as_long = omega (arith, length_by_sum (pairs_of t), length_by_sum (pairs_of (tree_with_value k v t)), total-tree_with_value (λ p. 1) k v w t e);
  weighs = omega (arith, total-tree_with_value pair_weight k v w t e);
}

pub shrinks_del : (k w : List ℕ) (t : Tree) → end_at k t ≡ Leaf k w → Shrinks t (del_in k t) k (length w)
shrinks_del k w t e = record {
  shorter = omega (arith, length_by_sum (pairs_of t), length_by_sum (pairs_of (del_in k t)), total-del_in (λ p. 1) k w t e);
  lighter = omega (arith, total-del_in pair_weight k w t e);
}

pub few : (ps : List Pair) → 16 * length ps ≤ sum_by pair_weight ps
few ps = total_least pair_weight 16 (λ p. omega arith) ps

-- ---- the dictionary of the tree

module _ (t : Tree) (d : Dictionary) (g : IsTree t) (view : dictionary_of t ≡ d) where
  pub get_is : (k q w : List ℕ) → end_at k t ≡ Leaf q w → finmap.get d k ≡ cond (bytes_eq q k) (Some w) None
  get_is k q w e = ap (λ x. finmap.get x k) (sym view) ∙ get-end_at k t g ∙ ap (value_at k) e

  pub get_at : (k : List ℕ) → finmap.get d k ≡ value_at k (end_at k t)
  get_at k = ap (λ x. finmap.get x k) (sym view) ∙ get-end_at k t g

  pub get_missing : (k : List ℕ) → (HasKey (pairs_of t) k → ⊥) → finmap.get d k ≡ None
  get_missing k absent = ap (λ x. finmap.get x k) (sym view) ∙ get_of t k g ∙ found-none k (pairs_of t) absent

  pub len_is : length (pairs_of t) ≡ finmap.len d
  len_is = sym (ap finmap.len (sym view) ∙ len-entries (dictionary_of t) ∙ ap length (entries_of t g))

  pub weight_is : sum_by pair_weight (pairs_of t) ≡ weight_of d
  weight_is = sym (ap weight_of (sym view) ∙ ap (sum_by pair_weight) (entries_of t g))

  pub tree_is : t ≡ tree_of d
  tree_is = sym (tree_of-dictionary_of t g) ∙ ap tree_of view

  pub root_is : root_of t ≡ dictionary_root d
  unfolding dictionary_root
  root_is = ap root_of tree_is

  pub keys_are : keys_of (pairs_of t) ≡ finmap.keys d
  keys_are = ap (map (λ (e : Pair). e.0)) (sym (entries_of t g)) ∙ ap (finmap.keys {R = key_cmp}) view

  pub names_are : (p : List ℕ) → AreBytes p → names_in p t ≡ filter (λ k. starts_with nat_eq k p) (finmap.keys d)
  names_are p bytes = names_in-keys p t bytes g ∙ ap (kept p) keys_are

  pub put_is : (k v : List ℕ) (new : Tree) → AreBytes k → new ≡ put_in k v t → IsTree new × (dictionary_of new ≡ finmap.insert d k v)
  put_is k v new bytes e =
      (subst IsTree (sym e) (tree_of_grown (put_in k v t) (is_put k v t g bytes).grown), ap dictionary_of e ∙ dictionary_of-put_in k v t g bytes ∙ ap (λ x. finmap.insert x k v) view)

  pub del_is : (k : List ℕ) (new : Tree) → new ≡ del_in k t → IsTree new × (dictionary_of new ≡ finmap.remove d k)
  del_is k new e = (subst IsTree (sym e) (is_del k t g).tree, ap dictionary_of e ∙ dictionary_of-del_in k t g ∙ ap (λ x. finmap.remove x k) view)

-- ---- an opened trie

pub record Opened (n : Node) (d : Dictionary) : Type 0 where
  pub grown : IsTree (tree n)
  pub sound : IsSound n
  pub view : dictionary_of (tree n) ≡ d

pub opened : {top : Option Node} {weight count : ℕ} {n : Node} {d : Dictionary} → IsKept top weight count → dictionary_of (top_tree top) ≡ d → top ≡ Some n → Opened n d
opened {top} {weight} {count} {n} {d} kept view is = record {
  grown = subst (λ o. IsTree (top_tree o)) is kept.tree;
  sound = subst IsTopSound is kept.sound;
  view = ap (λ o. dictionary_of (top_tree o)) (sym is) ∙ view;
}

pub opened_none : {top : Option Node} {d : Dictionary} → dictionary_of (top_tree top) ≡ d → top ≡ None → dictionary_of Empty ≡ d
opened_none {top} {d} view is = ap (λ o. dictionary_of (top_tree o)) (sym is) ∙ view

-- the keys are within the limits
pub sound_keys : (n : Node) → IsSound n → (k : List ℕ) → HasKey (pairs_of (tree n)) k → IsKey k
sound_keys (node.Leaf q v digest) s k (inl e) = subst IsKey e s.0
sound_keys (node.Leaf q v digest) s k (inr h) = absurd h
sound_keys (node.Inner' i digest p l q r) s k h = elim (HasKey-cases (pairs_of (tree l)) (pairs_of (tree r)) k h) [ inl a ↦ sound_keys l s.1 k a | inr b ↦ sound_keys r s.2 k b ]

pub get_long : (n : Node) (d : Dictionary) (k : List ℕ) → Opened n d → 255 < length k → finmap.get d k ≡ None
get_long n d k o h = get_missing (tree n) d o.grown o.view k (λ has. absurd (too_long (sound_keys n o.sound k has)))
  where
    too_long : IsKey k → ⊥
    too_long f = omega arith

short_prefix : (k p : List ℕ) → length k < length p → starts_with nat_eq k p ≡ false
short_prefix k [] h = absurd (omega arith)
short_prefix [] (y ∷ p) h = refl
short_prefix (x ∷ k) (y ∷ p) h = and_false (nat_eq y x) _ (short_prefix k p (omega arith))
  where
    and_false : (a b : Bool) → b ≡ false → a && b ≡ false
    and_false true b e = e
    and_false false b e = refl

pub names_long : (p : List ℕ) (ps : List Pair) → ((k : List ℕ) → HasKey ps k → length k < length p) → kept p (keys_of ps) ≡ []
names_long p [] h = refl
names_long p (e ∷ ps) h = ap (λ t. cond t (e.0 ∷ kept p (keys_of ps)) (kept p (keys_of ps))) (short_prefix e.0 p (h e.0 (inl refl))) ∙ names_long p ps (λ k g. h k (inr g))

pub list_long : (n : Node) (d : Dictionary) (p : List ℕ) → Opened n d → 255 < length p → filter (λ k. starts_with nat_eq k p) (finmap.keys d) ≡ []
list_long n d p o h = ap (kept p) (sym (keys_are (tree n) d o.grown o.view)) ∙ names_long p (pairs_of (tree n)) (λ k has. let f = sound_keys n o.sound k has in omega arith)

pub not_empty : (n : Node) → IsTree (tree n) → tree n ≡ Empty → ⊥
not_empty (node.Leaf q v digest) g e = cc
not_empty (node.Inner' i digest p l q r) g e = cc

pub empty_is : dictionary_of Empty ≡ finmap.empty
empty_is = same_dictionary _ _ (λ k. get_of Empty k tt ∙ sym (get-empty key_cmp k))

pub opened_some : (n : Node) (d : Dictionary) → Opened n d → d ≡ finmap.empty → ⊥
opened_some n d o e = not_empty n o.grown (sym (tree_of-dictionary_of (tree n) o.grown) ∙ ap tree_of (o.view ∙ e ∙ sym empty_is) ∙ tree_of-dictionary_of Empty tt)

pub remove_missing : (d : Dictionary) (k : List ℕ) → finmap.get d k ≡ None → d ≡ finmap.remove d k
remove_missing d k e = same_dictionary _ _ (λ z. by z (eq_by_cmp key_cmp z k) refl)
  where
    by : (z : List ℕ) (b : Bool) → eq_by_cmp key_cmp z k ≡ b → finmap.get d z ≡ finmap.get (finmap.remove d k) z
    by z true t = ap (finmap.get d) (same_key z k t) ∙ e ∙ sym (get-remove nat_list_cmp_total d k z ∙ ap (λ b. cond b None (finmap.get d z)) t)
    by z false t = sym (get-remove nat_list_cmp_total d k z ∙ ap (λ b. cond b None (finmap.get d z)) t)

-- the list by the prefix's node and its least leaf
pub listed : (p q w : List ℕ) (b t : Tree) (x : Bool) → b ≡ below p t → least b ≡ Leaf q w → starts_with nat_eq q p ≡ x → names_in p t ≡ cond x (keys_of (pairs_of b)) []
listed p q w b t x e l h = ap (names_below p) (sym e) ∙ ap (λ (y : Tree). cond (leaf_has_prefix p y) (keys_of (pairs_of b)) []) l ∙ ap (λ y. cond y (keys_of (pairs_of b)) []) h

pub names_nothing : (d : Dictionary) (p : List ℕ) → dictionary_of Empty ≡ d → filter (λ k. starts_with nat_eq k p) (finmap.keys d) ≡ []
names_nothing d p view = ap (kept p) (sym (keys_are Empty d tt view))

pub taken : (k q w : List ℕ) (n : ℕ) (t old new : Tree) → t ≡ old → end_at k t ≡ Leaf q w → q ≡ k → n ≡ length w → new ≡ del_in k t → Shrinks old new k n
taken k q w n t old new top e same long is =
    subst (λ o. Shrinks o new k n) top (subst (λ x. Shrinks t x k n) (sym is) (subst (λ m. Shrinks t (del_in k t) k m) (sym long) (shrinks_del k w t (e ∙ ap (λ x. Leaf x w) same))))

-- ---- an invariant after a change

module _ (top new : Option Node) (w c : ℕ) (kept : IsKept top w c) where
  few_pairs : 16 * c ≤ w
  few_pairs = omega (arith, few (pairs_of (top_tree top)), kept.counted, kept.weighed)

  pub room_for : w ≤ 4294967295 → c + 1 < 2 ^ 32
  room_for h = omega (arith, few_pairs)

  pub kept_grown : (k v : List ℕ) → IsKey k → length v ≤ 64 → w ≤ 4294967295 → IsTree (top_tree new) → IsTopSound new → Grows (top_tree top) (top_tree new) k v → IsKept new (w + (16 + length k + length v)) (c + 1)
  kept_grown k v kf vf room tree sound g = record {
    tree = tree;
    sound = sound;
    weighed = omega (arith, kept.weighed, g.heavier);
    counted = omega (arith, kept.counted, g.longer);
    room = omega (arith, kf.1);
  }

  pub kept_changed : (k v : List ℕ) (n : ℕ) → IsKey k → length v ≤ 64 → w ≤ 4294967295 → IsTree (top_tree new) → IsTopSound new → Keeps (top_tree top) (top_tree new) v n → IsKept new (w + length v - n) c
  kept_changed k v n kf vf room tree sound g = record {
    tree = tree;
    sound = sound;
    weighed = omega (arith, kept.weighed, g.weighs);
    counted = omega (arith, kept.counted, g.as_long);
    room = omega arith;
  }

  pub kept_shrunk : (k : List ℕ) (n : ℕ) → IsTree (top_tree new) → IsTopSound new → Shrinks (top_tree top) (top_tree new) k n → IsKept new (w - (16 + length k + n)) (c - 1)
  kept_shrunk k n tree sound g = record {
    tree = tree;
    sound = sound;
    weighed = omega (arith, kept.weighed, g.lighter);
    counted = omega (arith, kept.counted, g.shorter);
    room = omega (arith, kept.room);
  }

-- a key that isn't found below the limit isn't there
pub absent_top : (top : Option Node) (d : Dictionary) (k : List ℕ) → IsTree (top_tree top) → IsTopSound top → dictionary_of (top_tree top) ≡ d
    → (length k ≤ 255 → value_at k (end_at k (top_tree top)) ≡ None) → finmap.get d k ≡ None
absent_top None d k g s view h = get_missing Empty d tt view k (λ x. x)
absent_top (Some n) d k g s view h = elim (small_or (length k)) [
  | inl a ↦ get_at (tree n) d g view k ∙ h (omega (arith, a))
  | inr b ↦ get_long n d k (record { grown = g; sound = s; view = view }) b
]
  where
    small_or : (m : ℕ) → (m < 256) ⊎ (255 < m)
    small_or m = grind arith

pub not_some_none : {X : Type 0} (o : Option X) → o ≡ None → is_some o ≡ true → ⊥
not_some_none None e h = cc
not_some_none (Some x) e h = cc
