-- Pairs put one after the other.
use Rattle.std.proofs.Common.{◌≡◌, ℕ, Bool, true, false, cond, not, T, List, [], ◌∷◌, ◌++◌, Option, Some, None, refl, sym, ap, subst, ◌∙◌}
use Rattle.std.specs.FinMap.{is_sorted}
use Rattle.std.specs.FinMap as map
use Rattle.vic_dict.specs.Dictionary.{Dictionary, nothing}
use Rattle.vic_dict.specs.Rows.{AreFit, bytes_cmp}
use Rattle.vic_wire.specs.Trees.{Tree, Empty, Leaf, Inner, Stub, Pair, pairs_of}
use Rattle.vic_wire.specs.Bits.{key_bit}
use Rattle.vic_wire.specs.Walks.{dictionary_with_pairs, end_at, least, is_whole, is_stub}
use Rattle.vic_tree.specs.Grown.{LeavesFit}
use Rattle.vic_tree.proofs.Reached.{laid_is}
use Rattle.vic_tree.proofs.Lists.{key_cmp}
use Rattle.vic_prune.specs.Parts.{found_at}
use Rattle.std.specs.Prelude.{if◌then◌else◌}
use Rattle.std.specs.Str.{bytes_eq}
use Rattle.std.proofs.lemmas.Cmp.{nat_list_cmp_total}
use Rattle.std.proofs.lemmas.Map.Text.{is_eq-slice_cmp}

pub gathered_append : (d : Dictionary) (ps qs : List Pair) → dictionary_with_pairs d (ps ++ qs) ≡ dictionary_with_pairs (dictionary_with_pairs d ps) qs
gathered_append d [] qs = refl
gathered_append d (p ∷ ps) qs = gathered_append (map.insert d p.0 p.1) ps qs

fit_append : (ps qs : List Pair) → AreFit ps → AreFit qs → AreFit (ps ++ qs)
fit_append [] qs f g = g
fit_append (p ∷ ps) qs f g = (f.0, fit_append ps qs f.1 g)

pub rows_fit : (t : Tree) → LeavesFit t → AreFit (pairs_of t)
rows_fit Empty h = tt
rows_fit (Leaf k v) h = (h, tt)
rows_fit (Inner i l r) h = fit_append (pairs_of l) (pairs_of r) (rows_fit l h.0) (rows_fit r h.1)
rows_fit (Stub root) h = tt

sorted_true : (b : Bool) → b ≡ true → T b
sorted_true true e = tt
sorted_true false e = absurd cc

some_is : (x y : Dictionary) → Some x ≡ Some y → x ≡ y
some_is x y e = cc

by : (ps : List Pair) (b : Bool) (d : Dictionary) → is_sorted bytes_cmp ps ≡ b → Some d ≡ cond b (Some (map.from_sorted ps)) None → d ≡ dictionary_with_pairs nothing ps
by ps true d s e = some_is d (map.from_sorted ps) e ∙ sym (laid_is ps (sorted_true (is_sorted bytes_cmp ps) s))
by ps false d s e = absurd cc

-- rising rows are the dictionary of themselves
pub gathered_sorted : (ps : List Pair) (d : Dictionary) → Some d ≡ cond (is_sorted bytes_cmp ps) (Some (map.from_sorted ps)) None → d ≡ dictionary_with_pairs nothing ps
gathered_sorted ps d e = by ps (is_sorted bytes_cmp ps) d refl e

-- a walk's end is whole where it is no stub
pub least_whole : (t : Tree) → is_whole (least t) ≡ not (is_stub (least t))
least_whole Empty = refl
least_whole (Leaf k v) = refl
least_whole (Inner i l r) = least_whole l
least_whole (Stub root) = refl

pub end_whole : (k : List ℕ) (t : Tree) → is_whole (end_at k t) ≡ not (is_stub (end_at k t))
end_whole k Empty = refl
end_whole k (Leaf q w) = refl
end_whole k (Inner i l r) = elim (key_bit k i) as (λ b. is_whole (cond b (end_at k r) (end_at k l)) ≡ not (is_stub (cond b (end_at k r) (end_at k l)))) [ true ↦ end_whole k r | false ↦ end_whole k l ]
end_whole k (Stub root) = refl

-- what the walk of a get finds
pub found_end : (k : List ℕ) (t : Tree) → found_at k (end_at k t) ≡ map.get (dictionary_with_pairs nothing (pairs_of (end_at k t))) k
found_end k Empty = sym (map.get-empty key_cmp k)
found_end k (Leaf q w) = sym (map.get-insert nat_list_cmp_total nothing q w k ∙ (λ i. cond (is_eq-slice_cmp k q i) (Some w) (map.get-empty key_cmp k i)))
found_end k (Inner i l r) = elim (key_bit k i) as (λ b. found_at k (cond b (end_at k r) (end_at k l)) ≡ map.get (dictionary_with_pairs nothing (pairs_of (cond b (end_at k r) (end_at k l)))) k) [ true ↦ found_end k r | false ↦ found_end k l ]
found_end k (Stub root) = sym (map.get-empty key_cmp k)
