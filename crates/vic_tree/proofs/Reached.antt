-- An operation on a cut that it reaches answers as on the whole dictionary, and leaves its root.
use Rattle.std.proofs.Common.{◌≡◌, ℕ, Bool, true, false, cond, not, T, List, [], ◌∷◌, map, Some, None, refl, sym, ap, subst, ◌∙◌, inl, inr}
use Rattle.std.specs.declared.cmp.Ordering.{Ordering}
use Rattle.std.specs.declared.cmp.Ordering.TheVariants.{Less, Equal, Greater}
use Rattle.std.specs.Ordering.{eq_by_cmp, is_lt}
use Rattle.std.specs.Cmp.{tied_itself}
use Rattle.std.specs.Cmp.Lexicographic.{nat_list_cmp_total}
use Rattle.std.specs.FinMap.{get-insert, get-empty, get-from_sorted, entries-from_sorted}
use Rattle.std.specs.FinMap as finmap
use Rattle.vic_dict.specs.Dictionary.{Dictionary, reply, after, answer_of_get, answer_of_del}
use Rattle.vic_dict.specs.declared.op.Op.{Op}
use Rattle.vic_dict.specs.declared.op.Op.TheVariants as op
use Rattle.vic_dict.specs.declared.op.Answer.TheVariants as answer
use Rattle.vic_wire.specs.Bits.{key_bit}
use Rattle.vic_dict.specs.Lists.{AreBytes}
use Rattle.vic_wire.specs.Trees.{Tree, Empty, Leaf, Inner, Stub, Pair, pairs_of, root_of, tree_of, dictionary_root}
use Rattle.vic_wire.specs.Cuts.{IsCut}
use Rattle.vic_wire.specs.Walks.{end_at, is_stub, below, least, is_whole, leaf_has_prefix, reaches, dictionary_with_pairs, walked, put_in, del_in, tree_after}
use Rattle.vic_tree.specs.Shown.{value_at, names_below, names_in, answer_shown}
use Rattle.vic_tree.specs.Grown.{HasKey, IsGrown, IsTree, HasByteEntries, HasByteWords, IsKeyed}
use Rattle.vic_tree.proofs.Lists.{key_cmp, found, or_else, or_else-none, found-none, same_key, IsSorted, IsBelowAll, first, second}
use Rattle.vic_tree.proofs.Grown.{grown_sorted}
use Rattle.vic_tree.proofs.Found.{ends_at, bytes_eq-key, is_put}
use Rattle.vic_tree.proofs.Deleted.{tree_of_grown, is_del}
use Rattle.vic_tree.proofs.Names.{kept, keys_of, below_is, names_of_below, names_in-keys}
use Rattle.vic_tree.proofs.Stands.{HasTree, has_tree, get-end_at, same_dictionary, tree_of-dictionary_of, dictionary_of-put_in, dictionary_of-del_in}
use Rattle.vic_tree.proofs.Cuts.{root_of-cut, end_at-cut, put_in-cut, del_in-cut, least-cut, whole-cut, below-cut}

cross : true ≡ false → ⊥
cross e = cc

pub not_true : (b : Bool) → not b ≡ true → b ≡ false
not_true true e = cc
not_true false e = refl

-- ---- pairs gathered one over another

less_of : (o : Ordering) → T (is_lt o) → o ≡ Less
less_of Less p = refl
less_of Equal p = absurd p
less_of Greater p = absurd p

below_has : (a q : List ℕ) (ps : List Pair) → IsBelowAll a ps → HasKey ps q → key_cmp a q ≡ Less
below_has a q [] b h = absurd h
below_has a q (p ∷ ps) b (inl e) = ap (key_cmp a) (sym e) ∙ less_of _ (first _ _ b)
below_has a q (p ∷ ps) b (inr h) = below_has a q ps (second _ _ b) h

not_itself : (a : List ℕ) (ps : List Pair) → IsBelowAll a ps → HasKey ps a → ⊥
not_itself a ps b h = differ (sym (below_has a a ps b h) ∙ tied_itself nat_list_cmp_total a)
  where
    differ : ◌≡◌ {A = Ordering} Less Equal → ⊥
    differ e = cc

pub get_laid : (ps : List Pair) (d : Dictionary) (k : List ℕ) → IsSorted ps → finmap.get (dictionary_with_pairs d ps) k ≡ or_else (found k ps) (finmap.get d k)
get_laid [] d k s = refl
get_laid (p ∷ ps) d k s =
    get_laid ps (finmap.insert d p.0 p.1) k (second _ _ s)
    ∙ ap (or_else (found k ps)) (get-insert nat_list_cmp_total d p.0 p.1 k)
    ∙ elim (eq_by_cmp key_cmp k p.0) as (λ b. eq_by_cmp key_cmp k p.0 ≡ b → or_else (found k ps) (cond b (Some p.1) (finmap.get d k)) ≡ or_else (cond b (Some p.1) (found k ps)) (finmap.get d k)) [
      | true ↦ λ e. ap (λ o. or_else o (Some p.1)) (found-none k ps (λ h. not_itself p.0 ps (first _ _ s) (subst (HasKey ps) (same_key k p.0 e) h)))
      | false ↦ λ e. refl
    ] refl

pub laid_is : (ps : List Pair) → IsSorted ps → dictionary_with_pairs finmap.empty ps ≡ finmap.from_sorted ps
laid_is ps s = same_dictionary _ _ (λ k. get_laid ps finmap.empty k s ∙ ap (or_else (found k ps)) (get-empty key_cmp k) ∙ or_else-none (found k ps) ∙ sym (get-from_sorted key_cmp ps k s))

pub keys_laid : (ps : List Pair) → IsSorted ps → finmap.keys (dictionary_with_pairs finmap.empty ps) ≡ keys_of ps
keys_laid ps s = ap (finmap.keys {R = key_cmp}) (laid_is ps s) ∙ ap (map (λ (e : Pair). e.0)) (entries-from_sorted key_cmp ps s)

-- ---- the walk of a key

-- a walk's end that is no stub
abbrev pub IsEnd : Tree → Type 0
IsEnd Empty = Unit {0}
IsEnd (Leaf k v) = Unit {0}
IsEnd (Inner i l r) = ⊥
IsEnd (Stub root) = ⊥

pub end_is : (k : List ℕ) (t : Tree) → IsTree t → IsEnd (end_at k t)
end_is k Empty g = tt
end_is k (Leaf q w) g = tt
end_is k (Inner i l r) g = let s = ends_at k (Inner i l r) g in subst IsEnd (sym s.is) tt
end_is k (Stub root) g = absurd g

pub end_no_stub : (e : Tree) → IsEnd e → is_stub e ≡ false
end_no_stub Empty h = refl
end_no_stub (Leaf k v) h = refl
end_no_stub (Inner i l r) h = refl
end_no_stub (Stub root) h = absurd h

pub get_end : (k : List ℕ) (e : Tree) → IsEnd e → finmap.get (dictionary_with_pairs finmap.empty (pairs_of e)) k ≡ value_at k e
get_end k Empty h = get-empty key_cmp k
get_end k (Leaf q w) h =
    get-insert nat_list_cmp_total finmap.empty q w k ∙ ap (cond (eq_by_cmp key_cmp k q) (Some w)) (get-empty key_cmp k)
    ∙ ap (λ b. cond b (Some w) None) (sym (bytes_eq-key q k))
get_end k (Inner i l r) h = absurd h
get_end k (Stub root) h = absurd h

grown_below : (p : List ℕ) → AreBytes p → (t : Tree) → IsGrown t → kept p (finmap.keys (dictionary_with_pairs finmap.empty (pairs_of (below p t)))) ≡ names_below p (below p t)
grown_below p pb t g =
    let b = below_is p t g in
    ap (kept p) (keys_laid (pairs_of (below p t)) (grown_sorted (below p t) b.grown)) ∙ sym (names_of_below p (below p t) pb b.grown b.alike)

-- the least node of a tree is no Inner
least_is : (t : Tree) → is_stub (least t) ≡ false → IsEnd (least t)
least_is Empty n = tt
least_is (Leaf k v) n = tt
least_is (Inner i l r) n = least_is l n
least_is (Stub root) n = absurd (cross n)

-- ---- any part

end_or_stub : (k : List ℕ) (c : Tree) → is_stub (end_at k c) ≡ false → IsEnd (end_at k c)
end_or_stub k Empty n = tt
end_or_stub k (Leaf q w) n = tt
end_or_stub k (Inner i l r) n =
    (elim (key_bit k i) as (λ b. is_stub (cond b (end_at k r) (end_at k l)) ≡ false → IsEnd (cond b (end_at k r) (end_at k l))) [ true ↦ end_or_stub k r | false ↦ end_or_stub k l ]) n
end_or_stub k (Stub root) n = absurd (cross n)

-- where it reaches an operation on a key, the nodes of the walk answer as the dictionary of its leaves
pub answer_shown-walked : (c : Tree) (o : Op) → IsKeyed o → reaches c o ≡ true → answer_shown c o ≡ reply (walked c o) o
answer_shown-walked c (op.Put k v) w e = refl
answer_shown-walked c (op.Get k) w e = ap answer_of_get (sym (get_end k (end_at k c) (end_or_stub k c (not_true _ e))))
answer_shown-walked c (op.Del k) w e = ap answer_of_del (sym (get_end k (end_at k c) (end_or_stub k c (not_true _ e))))
answer_shown-walked c (op.List p) w e = absurd w

-- the keys below the prefix's node, gathered out
all_below : (p : List ℕ) → AreBytes p → (t : Tree) → IsTree t → kept p (finmap.keys (dictionary_with_pairs finmap.empty (pairs_of (below p t)))) ≡ names_below p (below p t)
all_below p pb Empty g = ap (kept p) (keys_laid [] tt)
all_below p pb (Leaf k v) g = grown_below p pb (Leaf k v) g
all_below p pb (Inner i l r) g = grown_below p pb (Inner i l r) g
all_below p pb (Stub root) g = absurd g

-- a leaf without the prefix, gathered out
one_leaf : (p : List ℕ) (l : Tree) → IsEnd l → leaf_has_prefix p l ≡ false → kept p (finmap.keys (dictionary_with_pairs finmap.empty (pairs_of l))) ≡ []
one_leaf p Empty e h = ap (kept p) (keys_laid [] tt)
one_leaf p (Leaf k v) e h = ap (kept p) (keys_laid ((k, v) ∷ []) tt) ∙ ap (λ b. cond b (k ∷ []) []) h
one_leaf p (Inner i l r) e h = absurd e
one_leaf p (Stub root) e h = absurd e

-- ---- a cut of the dictionary's tree

module _ (d : Dictionary) (bytes : HasByteEntries d) (c : Tree) (cut : IsCut c (tree_of d)) where
  pub whole : HasTree d (tree_of d)
  whole = has_tree d bytes

  pub get_walked : (k : List ℕ) → not (is_stub (end_at k c)) ≡ true → finmap.get (dictionary_with_pairs finmap.empty (pairs_of (end_at k c))) k ≡ finmap.get d k
  get_walked k n =
      let e = end_at-cut k c (tree_of d) cut (not_true _ n) in
      ap (λ x. finmap.get (dictionary_with_pairs finmap.empty (pairs_of x)) k) e
      ∙ get_end k (end_at k (tree_of d)) (end_is k (tree_of d) whole.tree)
      ∙ sym (get-end_at k (tree_of d) whole.tree)
      ∙ ap (λ x. finmap.get x k) whole.stands

  keys_whole : keys_of (pairs_of (tree_of d)) ≡ finmap.keys d
  keys_whole = ap (map (λ (e : Pair). e.0)) whole.pairs

  -- ---- the walk of a list

  pub least_end : (p : List ℕ) → reaches c (op.List p) ≡ true → is_stub (least (below p c)) ≡ false
  least_end p = by (least (below p c)) (is_whole (below p c))
    where
      by : (l : Tree) (w : Bool) → cond (leaf_has_prefix p l) w (not (is_stub l)) ≡ true → is_stub l ≡ false
      by Empty w e = refl
      by (Leaf k v) w e = refl
      by (Inner i l r) w e = refl
      by (Stub root) w e = absurd (cross (sym e))

  abbrev node : List ℕ → Tree
  node p = below p (tree_of d)

  lists : (p : List ℕ) → AreBytes p → reaches c (op.List p) ≡ true → kept p (finmap.keys (walked c (op.List p))) ≡ names_below p (node p)
  lists p pb e =
      let n = least_end p e in
      let b = below-cut p c (tree_of d) cut n in
      let l = least-cut (below p c) (node p) b n in
      elim (leaf_has_prefix p (least (below p c))) as (λ x. leaf_has_prefix p (least (below p c)) ≡ x → cond x (is_whole (below p c)) (not (is_stub (least (below p c)))) ≡ true
      → kept p (finmap.keys (dictionary_with_pairs finmap.empty (cond x (pairs_of (below p c)) (pairs_of (least (below p c)))))) ≡ names_below p (node p)) [
        | true ↦ λ h w. let same = whole-cut (below p c) (node p) b w in
            ap (λ x. kept p (finmap.keys (dictionary_with_pairs finmap.empty (pairs_of x)))) same ∙ all_below p pb (tree_of d) whole.tree
        | false ↦ λ h w. one_leaf p (least (below p c)) (least_is (below p c) n) h ∙ sym (ap (λ x. cond (leaf_has_prefix p x) (keys_of (pairs_of (node p))) []) (sym l) ∙ ap (λ x. cond x (keys_of (pairs_of (node p))) []) h)
      ] refl e

  -- the answer at what the walk shows is that of the dictionary
  pub reply-walked : (o : Op) → HasByteWords o → reaches c o ≡ true → reply (walked c o) o ≡ reply d o
  reply-walked (op.Put k v) w e = refl
  reply-walked (op.Get k) w e = ap answer_of_get (get_walked k e)
  reply-walked (op.Del k) w e = ap answer_of_del (get_walked k e)
  reply-walked (op.List p) w e = ap (λ names. answer.Names names) (lists p w e ∙ names_in-keys p (tree_of d) w whole.tree ∙ ap (kept p) keys_whole)

  names-cut : (p : List ℕ) → reaches c (op.List p) ≡ true → names_in p c ≡ names_in p (tree_of d)
  names-cut p e =
      let n = least_end p e in
      let b = below-cut p c (tree_of d) cut n in
      let l = least-cut (below p c) (node p) b n in
      elim (leaf_has_prefix p (least (below p c))) as (λ x. leaf_has_prefix p (least (below p c)) ≡ x → cond x (is_whole (below p c)) (not (is_stub (least (below p c)))) ≡ true
      → cond x (keys_of (pairs_of (below p c))) [] ≡ names_below p (node p)) [
        | true ↦ λ h w. ap (λ x. keys_of (pairs_of x)) (whole-cut (below p c) (node p) b w) ∙ sym (ap (λ x. cond (leaf_has_prefix p x) (keys_of (pairs_of (node p))) []) (sym l) ∙ ap (λ x. cond x (keys_of (pairs_of (node p))) []) h)
        | false ↦ λ h w. sym (ap (λ x. cond (leaf_has_prefix p x) (keys_of (pairs_of (node p))) []) (sym l) ∙ ap (λ x. cond x (keys_of (pairs_of (node p))) []) h)
      ] refl e

  value-cut : (k : List ℕ) → not (is_stub (end_at k c)) ≡ true → value_at k (end_at k c) ≡ finmap.get d k
  value-cut k n = ap (value_at k) (end_at-cut k c (tree_of d) cut (not_true _ n)) ∙ sym (get-end_at k (tree_of d) whole.tree) ∙ ap (λ x. finmap.get x k) whole.stands

  -- what the nodes answer is the dictionary's answer
  pub answer_shown-reply : (o : Op) → HasByteWords o → reaches c o ≡ true → answer_shown c o ≡ reply d o
  answer_shown-reply (op.Put k v) w e = refl
  answer_shown-reply (op.Get k) w e = ap answer_of_get (value-cut k e)
  answer_shown-reply (op.Del k) w e = ap answer_of_del (value-cut k e)
  answer_shown-reply (op.List p) w e = ap (λ names. answer.Names names) (names-cut p e ∙ names_in-keys p (tree_of d) w whole.tree ∙ ap (kept p) keys_whole)

  -- the tree after the operation is a cut of the new dictionary's
  pub cut-after : (o : Op) → HasByteWords o → reaches c o ≡ true → IsCut (tree_after c o) (tree_of (after d o))
  cut-after (op.Put k v) w e =
      let put = is_put k v (tree_of d) whole.tree w in
      let is : tree_of (finmap.insert d k v) ≡ put_in k v (tree_of d) =
      ap tree_of (sym (dictionary_of-put_in k v (tree_of d) whole.tree w ∙ ap (λ x. finmap.insert x k v) whole.stands)) ∙ tree_of-dictionary_of (put_in k v (tree_of d)) (tree_of_grown (put_in k v (tree_of d)) put.grown) in
      subst (IsCut (put_in k v c)) (sym is) (put_in-cut k v c (tree_of d) cut (not_true _ e))
  cut-after (op.Get k) w e = cut
  cut-after (op.Del k) w e =
      let del = is_del k (tree_of d) whole.tree in
      let is : tree_of (finmap.remove d k) ≡ del_in k (tree_of d) =
      ap tree_of (sym (dictionary_of-del_in k (tree_of d) whole.tree ∙ ap (λ x. finmap.remove x k) whole.stands)) ∙ tree_of-dictionary_of (del_in k (tree_of d)) del.tree in
      subst (IsCut (del_in k c)) (sym is) (del_in-cut k c (tree_of d) cut whole.tree (not_true _ e))
  cut-after (op.List p) w e = cut

  -- and so has its root
  pub root-after : (o : Op) → HasByteWords o → reaches c o ≡ true → root_of (tree_after c o) ≡ dictionary_root (after d o)
  unfolding dictionary_root
  root-after o w e = root_of-cut (tree_after c o) (tree_of (after d o)) (cut-after o w e)
