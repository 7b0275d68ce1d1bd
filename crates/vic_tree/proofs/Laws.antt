-- The laws, by the lemmas of the other files.
use Rattle.std.proofs.Common.{◌≤◌, ◌≡◌, ℕ, ◌<◌, Bool, true, false, cond, List, [], length, Option, Some, None, refl, sym, ap, ◌∙◌}
use Rattle.std.specs.FinMap as map
use Rattle.std.specs.FinMap.{get-entries}
use Rattle.vic_dict.specs.declared.op.Op.{Op}
use Rattle.vic_dict.specs.Dictionary.{Dictionary, IsKey, HasByteKeys, IsProper}
use Rattle.vic_wire.specs.Bits.{key_bit}
use Rattle.vic_wire.specs.Trees.{Tree, Empty, Leaf, Inner, Stub, Pair, pairs_of, tree_of}
use Rattle.vic_tree.specs.Grown.{IsGrown, IsTree, LeavesFit}
use Rattle.vic_tree.specs.Laws.{TreesHold, PartsAreBound, WalksShow, CutsAnswer, CutsFollow, PartsAreCuts}
use Rattle.vic_tree.proofs.Lists.{found, found-none, found-append, or_else, key_same}
use Rattle.vic_tree.proofs.Found.{not_left, not_right, grown_left, grown_right, or_else-left, or_else-right}
use Rattle.vic_tree.proofs.Stands.{HasTree, has_tree}
use Rattle.vic_tree.proofs.Grammar.{part_is_spelled, tree_is_part, cut_is_part}
use Rattle.vic_tree.proofs.Binding.{part_is_bound}
use Rattle.vic_tree.proofs.Made.{cut_for-cut, cut_for-reaches, cut_none-cut}
use Rattle.vic_tree.proofs.Reached.{reply-walked, root-after}
use Rattle.vic_tree.proofs.Alike.{byte_entries, short_entries, byte_words, alike}

-- ---- the leaves of a proper dictionary's tree are within the limits

abbrev AreFit : Tree → Type 0
AreFit t = (k v : List ℕ) → found k (pairs_of t) ≡ Some v → IsKey k × (length v ≤ 64)

grown_fits : (t : Tree) → IsGrown t → AreFit t → LeavesFit t
grown_fits Empty g h = tt
grown_fits (Leaf k v) g h = h k v (ap (λ (b : Bool). cond b (Some v) None) (key_same k))
grown_fits (Inner i l r) g h = (grown_fits l (grown_left i l r g) on_left, grown_fits r (grown_right i l r g) on_right)
  where
    none_found : (ps : List Pair) (k v : List ℕ) → found k ps ≡ None → found k ps ≡ Some v → ⊥
    none_found ps k v a b = let wrong : None ≡ Some v = sym a ∙ b in absurd cc

    on_left : AreFit l
    on_left k v e =
        elim (key_bit k i) as (λ b. key_bit k i ≡ b → IsKey k × (length v ≤ 64)) [
          | true ↦ λ b. absurd (none_found (pairs_of l) k v (found-none k (pairs_of l) (not_left i l r k g b)) e)
          | false ↦ λ b. h k v (found-append k (pairs_of l) (pairs_of r) ∙ or_else-left k (pairs_of l) (pairs_of r) (not_right i l r k g b) ∙ e)
        ] refl

    on_right : AreFit r
    on_right k v e =
        elim (key_bit k i) as (λ b. key_bit k i ≡ b → IsKey k × (length v ≤ 64)) [
          | true ↦ λ b. h k v (found-append k (pairs_of l) (pairs_of r) ∙ or_else-right k (pairs_of l) (pairs_of r) (not_left i l r k g b) ∙ e)
          | false ↦ λ b. absurd (none_found (pairs_of r) k v (found-none k (pairs_of r) (not_right i l r k g b)) e)
        ] refl
grown_fits (Stub root) g h = tt

fits : (t : Tree) → IsTree t → AreFit t → LeavesFit t
fits Empty g h = tt
fits (Leaf k v) g h = grown_fits (Leaf k v) g h
fits (Inner i l r) g h = grown_fits (Inner i l r) g h
fits (Stub root) g h = tt

byte_keys : (d : Dictionary) → IsProper d → HasByteKeys d
byte_keys d h k v e = (h k v e).0

module _ (d : Dictionary) (proper : IsProper d) where
  tree : HasTree d (tree_of d)
  tree = has_tree d (byte_entries d (byte_keys d proper))

  leaves : LeavesFit (tree_of d)
  leaves = fits (tree_of d) tree.tree (λ k v e. let p = proper k v (get-entries d k ∙ sym (ap (found k) tree.pairs) ∙ e) in (p.0.0, p.1.0))

-- ---- the laws

pub trees_hold : TreesHold
trees_hold d keys = (has_tree d (byte_entries d keys)).pairs

pub parts_are_bound : PartsAreBound
parts_are_bound c d is keys e = part_is_bound c d (part_is_spelled c is) (byte_entries d keys) (short_entries d keys) e

pub walks_show : WalksShow
walks_show c d o s = alike d s.keys c s.cut o s.words s.reached

pub cuts_answer : CutsAnswer
cuts_answer c d o s = reply-walked d (byte_entries d s.keys) c s.cut o (byte_words o s.words) s.reached

pub cuts_follow : CutsFollow
cuts_follow c d o s = root-after d (byte_entries d s.keys) c s.cut o (byte_words o s.words) s.reached

pub parts_are_cuts : PartsAreCuts
parts_are_cuts = record {
  shown = λ d o proper.
      let t = tree_of d in let cut = cut_for-cut t o in
      ((cut, cut_is_part _ t cut (tree_is_part t (tree d proper).tree (leaves d proper))), cut_for-reaches t o (tree d proper).tree);
  bare = λ d proper.
      let t = tree_of d in let cut = cut_none-cut t in
      (cut, cut_is_part _ t cut (tree_is_part t (tree d proper).tree (leaves d proper)));
}
