-- The dictionary that a walk of a cut shows has the values of the whole one wherever the operation looks.
use Rattle.std.proofs.Common.{◌≡◌, ◌⊎◌, ℕ, ◌*◌, ◌<◌, ltb, Bool, true, false, cond, not, List, [], ◌∷◌, ◌++◌, length, map, Option, Some, None, refl, sym, ap, subst, ◌∙◌, inl, inr}
use Rattle.std.specs.Prelude.{nat_eq}
use Rattle.std.specs.List.{starts_with}
use Rattle.std.specs.FinMap.{get-empty, get-entries, entries_sorted}
use Rattle.std.specs.FinMap as finmap
use Rattle.std.proofs.lemmas.Bool.{ltb-true}
use Rattle.std.proofs.lemmas.Slice.Eq.{bytes_eq-Decides}
use Rattle.vic_dict.specs.declared.op.Op.{Op}
use Rattle.vic_dict.specs.declared.op.Op.TheVariants as op
use Rattle.vic_dict.specs.Lists.{AreBytes}
use Rattle.vic_dict.specs.Dictionary.{Dictionary, nothing, HasByteKeys, AreBytesIn, IsProper}
use Rattle.vic_wire.specs.Bits.{key_bit}
use Rattle.vic_wire.specs.Conflict.{looks_at}
use Rattle.vic_wire.specs.Trees.{Tree, Empty, Leaf, Inner, Stub, Pair, pairs_of, tree_of}
use Rattle.vic_wire.specs.Cuts.{IsCut}
use Rattle.vic_wire.specs.Walks.{end_at, is_stub, below, least, is_whole, leaf_has_prefix, reaches, dictionary_with_pairs, walked}
use Rattle.vic_tree.specs.Grown.{HasKey, IsGrown, IsTree, HasByteEntries, HasShortEntries, HasByteWords, LeavesFit}
use Rattle.vic_tree.specs.Shown.{names_below, names_in}
use Rattle.vic_tree.proofs.Lists.{key_cmp, found, or_else, or_else-none, found-none, found-append, HasKey-left, HasKey-right}
use Rattle.vic_tree.proofs.Grown.{grown_sorted}
use Rattle.vic_tree.proofs.Found.{has_found, not_left, not_right, grown_left, grown_right, or_else-right, or_else-left}
use Rattle.vic_tree.proofs.KeyPrefixes.{prefix_agree}
use Rattle.vic_tree.proofs.Names.{kept, keys_of, below_is, names_in-keys}
use Rattle.vic_tree.proofs.Reached.{get_laid, get_end, get_walked, least_end, whole, IsEnd}
use Rattle.vic_tree.proofs.Cuts.{least-cut, whole-cut, below-cut}
use Rattle.vic_tree.proofs.Stands.{HasTree, has_tree}

-- ---- the words for keys

pub byte_entries : (d : Dictionary) → HasByteKeys d → HasByteEntries d
byte_entries d h k there = let f = has_found k (finmap.entries d) there in (h k f.0 (get-entries d k ∙ f.1)).1

pub short_entries : (d : Dictionary) → HasByteKeys d → HasShortEntries d
short_entries d h k there = let f = has_found k (finmap.entries d) there in (h k f.0 (get-entries d k ∙ f.1)).0.1

pub byte_words : (o : Op) → AreBytesIn o → HasByteWords o
byte_words (op.Put k v) h = h.0
byte_words (op.Get k) h = h
byte_words (op.Del k) h = h
byte_words (op.List p) h = h

-- ---- keys with a prefix stand below its node

pub found-below : (p q : List ℕ) → starts_with nat_eq q p ≡ true → (t : Tree) → IsGrown t → found q (pairs_of t) ≡ found q (pairs_of (below p t))
found-below p q s Empty g = refl
found-below p q s (Leaf k v) g = refl
found-below p q s (Stub root) g = refl
found-below p q s (Inner i l r) g =
    elim (ltb i (9 * length p)) as (λ b. ltb i (9 * length p) ≡ b → found q (pairs_of l ++ pairs_of r) ≡ found q (pairs_of (cond b (cond (key_bit p i) (below p r) (below p l)) (Inner i l r)))) [
      | true ↦ λ lt.
          let same : key_bit p i ≡ key_bit q i = prefix_agree p q s i (ltb-true i (9 * length p) lt) in
          elim (key_bit p i) as (λ b. key_bit p i ≡ b → found q (pairs_of l ++ pairs_of r) ≡ found q (pairs_of (cond b (below p r) (below p l)))) [
            | true ↦ λ e. found-append q (pairs_of l) (pairs_of r) ∙ or_else-right q (pairs_of l) (pairs_of r) (not_left i l r q g (sym same ∙ e)) ∙ found-below p q s r (grown_right i l r g)
            | false ↦ λ e. found-append q (pairs_of l) (pairs_of r) ∙ or_else-left q (pairs_of l) (pairs_of r) (not_right i l r q g (sym same ∙ e)) ∙ found-below p q s l (grown_left i l r g)
          ] refl
      | false ↦ λ ge. refl
    ] refl

cons_not_nil : (k : List ℕ) (ks : List (List ℕ)) → ◌≡◌ {A = List (List ℕ)} (k ∷ ks) [] → ⊥
cons_not_nil k ks e = cc

true_not_false : true ≡ false → ⊥
true_not_false e = cc

kept_one : (p k : List ℕ) (x : Pair) (ks : List (List ℕ)) (b : Bool) → starts_with nat_eq x.0 p ≡ b → starts_with nat_eq k p ≡ true → cond b (x.0 ∷ ks) ks ≡ [] → ((x.0 ≡ k → ⊥) × (ks ≡ []))
kept_one p k x ks true t s e = absurd (cons_not_nil x.0 ks e)
kept_one p k x ks false t s e = (λ same. true_not_false (sym s ∙ ap (λ y. starts_with nat_eq y p) (sym same) ∙ t), e)

-- a key with the prefix is kept
kept_has : (p k : List ℕ) (ps : List Pair) → starts_with nat_eq k p ≡ true → HasKey ps k → kept p (keys_of ps) ≡ [] → ⊥
kept_has p k [] s h e = h
kept_has p k (x ∷ ps) s (inl same) e = (kept_one p k x (kept p (keys_of ps)) (starts_with nat_eq x.0 p) refl s e).0 same
kept_has p k (x ∷ ps) s (inr more) e = kept_has p k ps s more (kept_one p k x (kept p (keys_of ps)) (starts_with nat_eq x.0 p) refl s e).1

-- ---- on a cut

-- a leaf without the prefix hasn't a key with it
lone_none : (p k : List ℕ) (l : Tree) → IsEnd l → leaf_has_prefix p l ≡ false → starts_with nat_eq k p ≡ true → finmap.get (dictionary_with_pairs nothing (pairs_of l)) k ≡ None
lone_none p k Empty e h s = get-empty key_cmp k
lone_none p k (Leaf q w) e h s =
    get_laid ((q, w) ∷ []) nothing k tt ∙ ap (or_else (found k ((q, w) ∷ []))) (get-empty key_cmp k) ∙ or_else-none (found k ((q, w) ∷ []))
    ∙ found-none k ((q, w) ∷ []) (λ there. elim there [
      | inl same ↦ true_not_false (sym s ∙ ap (λ y. starts_with nat_eq y p) (sym same) ∙ h)
      | inr none ↦ none
    ])
lone_none p k (Inner i l r) e h s = absurd e
lone_none p k (Stub root) e h s = absurd e

is_end : (t : Tree) → is_stub (least t) ≡ false → IsEnd (least t)
is_end Empty n = tt
is_end (Leaf k v) n = tt
is_end (Inner i l r) n = is_end l n
is_end (Stub root) n = absurd (true_not_false n)

-- the leaves below the prefix's node have what the pairs have
below_all : (p k : List ℕ) → starts_with nat_eq k p ≡ true → (t : Tree) → IsTree t → finmap.get (dictionary_with_pairs nothing (pairs_of (below p t))) k ≡ found k (pairs_of t)
below_all p k s Empty g = get-empty key_cmp k
below_all p k s (Leaf q w) g = below_grown (Leaf q w) g
  where
    below_grown : (t : Tree) → IsGrown t → finmap.get (dictionary_with_pairs nothing (pairs_of (below p t))) k ≡ found k (pairs_of t)
    below_grown t g =
        get_laid (pairs_of (below p t)) nothing k (grown_sorted (below p t) (below_is p t g).grown)
        ∙ ap (or_else (found k (pairs_of (below p t)))) (get-empty key_cmp k) ∙ or_else-none (found k (pairs_of (below p t))) ∙ sym (found-below p k s t g)
below_all p k s (Inner i l r) g = below_grown (Inner i l r) g
  where
    below_grown : (t : Tree) → IsGrown t → finmap.get (dictionary_with_pairs nothing (pairs_of (below p t))) k ≡ found k (pairs_of t)
    below_grown t g =
        get_laid (pairs_of (below p t)) nothing k (grown_sorted (below p t) (below_is p t g).grown)
        ∙ ap (or_else (found k (pairs_of (below p t)))) (get-empty key_cmp k) ∙ or_else-none (found k (pairs_of (below p t))) ∙ sym (found-below p k s t g)
below_all p k s (Stub root) g = absurd g

module _ (d : Dictionary) (keys : HasByteKeys d) (c : Tree) (cut : IsCut c (tree_of d)) where
  bytes : HasByteEntries d
  bytes = byte_entries d keys

  tree : HasTree d (tree_of d)
  tree = has_tree d bytes

  in_list : (p k : List ℕ) → AreBytes p → reaches c (op.List p) ≡ true → starts_with nat_eq k p ≡ true → finmap.get (walked c (op.List p)) k ≡ finmap.get d k
  in_list p k pb e s =
      let n = least_end d bytes c cut p e in
      let b = below-cut p c (tree_of d) cut n in
      let l = least-cut (below p c) (below p (tree_of d)) b n in
      let there : found k (pairs_of (tree_of d)) ≡ finmap.get d k = ap (found k) tree.pairs ∙ sym (get-entries d k) in
      elim (leaf_has_prefix p (least (below p c))) as (λ x. leaf_has_prefix p (least (below p c)) ≡ x → cond x (is_whole (below p c)) (not (is_stub (least (below p c)))) ≡ true
      → finmap.get (dictionary_with_pairs nothing (cond x (pairs_of (below p c)) (pairs_of (least (below p c))))) k ≡ finmap.get d k) [
        | true ↦ λ h w. ap (λ x. finmap.get (dictionary_with_pairs nothing (pairs_of x)) k) (whole-cut (below p c) (below p (tree_of d)) b w) ∙ below_all p k s (tree_of d) tree.tree ∙ there
        | false ↦ λ h w.
            let none : names_in p (tree_of d) ≡ [] = ap (λ x. cond (leaf_has_prefix p x) (keys_of (pairs_of (below p (tree_of d)))) []) (sym l) ∙ ap (λ x. cond x (keys_of (pairs_of (below p (tree_of d)))) []) h in
            let kept_none : kept p (keys_of (pairs_of (tree_of d))) ≡ [] = sym (names_in-keys p (tree_of d) pb tree.tree) ∙ none in
            lone_none p k (least (below p c)) (is_end (below p c) n) h s
            ∙ sym (sym there ∙ found-none k (pairs_of (tree_of d)) (λ has. kept_has p k (pairs_of (tree_of d)) s has kept_none))
      ] refl e

  at_key : (q k : List ℕ) → not (is_stub (end_at q c)) ≡ true → q ≡ k → finmap.get (dictionary_with_pairs nothing (pairs_of (end_at q c))) k ≡ finmap.get d k
  at_key q k e same = subst (λ x. finmap.get (dictionary_with_pairs nothing (pairs_of (end_at q c))) x ≡ finmap.get d x) same (get_walked d bytes c cut q e)

  -- wherever the operation looks, the walk shows what is there
  pub alike : (o : Op) → AreBytesIn o → reaches c o ≡ true → (k : List ℕ) → looks_at o k ≡ true → finmap.get (walked c o) k ≡ finmap.get d k
  alike (op.Put q v) b e k looks = at_key q k e ((bytes_eq-Decides q k).0 looks)
  alike (op.Get q) b e k looks = at_key q k e ((bytes_eq-Decides q k).0 looks)
  alike (op.Del q) b e k looks = at_key q k e ((bytes_eq-Decides q k).0 looks)
  alike (op.List p) b e k looks = in_list p k b e looks
