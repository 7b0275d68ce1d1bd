-- The parts that an honest server sends are cuts of its dictionary's tree; they are read again, and are bytes.
use Rattle.std.specs.Prelude.{◌≤◌, ◌≡◌, ℕ, ◌<◌, Bool, true, false, not, ◌&&◌, ◌||◌, List, length, Some, if◌then◌else◌}
use Rattle.std.proofs.Common.{refl, sym, subst, inl}
use Rattle.vic_dict.specs.declared.op.Op.{Op}
use Rattle.vic_dict.specs.Lists.{IsIn, AreBytes}
use Rattle.vic_dict.specs.Dictionary.{Dictionary, IsProper}
use Rattle.vic_wire.specs.Trees.{Tree, Empty, Leaf, Inner, Stub, Pair, pairs_of, root_of, tree_of, dictionary_root}
use Rattle.vic_wire.specs.Cuts.{IsCut, cut_for, cut_none}
use Rattle.vic_wire.specs.Parts.{Part, IsPart, part_text, part_for, bare_part, read_part, reaches}
use Rattle.vic_rules.specs.Client.{is_write}
use Rattle.vic_order.specs.Order.{update_part}
use Rattle.vic_spellings.specs.Spellings.{PartHoldsBytes}
use Rattle.vic_spellings.proofs.Bytes.{bytes-sha256}
use Rattle.vic_spellings.proofs.SpelledParts.{part_again, parts_are_spelled}
use Rattle.vic_laws.proofs.Words.{in_left, in_right}
use Rattle.vic_roots.proofs.Proper.{byte_keys-proper}
use Rattle.vic_roots.proofs.Members.{in_is_entry}
use Rattle.vic_tree.specs.Grown.{IsGrown, IsTree, LeavesFit}
use Rattle.vic_tree.proofs.Stands.{HasTree, has_tree}
use Rattle.vic_tree.proofs.Grammar.{tree_is_part, cut_is_part}
use Rattle.vic_tree.proofs.Made.{cut_for-cut, cut_for-reaches, cut_none-cut}
use Rattle.vic_tree.proofs.Cuts.{root_of-cut}
use Rattle.vic_tree.proofs.Alike.{byte_entries}

-- ---- the leaves of a proper dictionary's tree

abbrev AreProper : Tree → Type 0
AreProper t = (p : Pair) → IsIn (pairs_of t) p → ((0 < length p.0) × (length p.0 ≤ 255)) × (AreBytes p.0 × ((length p.1 ≤ 64) × AreBytes p.1))

leaves_fit : (t : Tree) → AreProper t → LeavesFit t
leaves_fit Empty h = tt
leaves_fit (Leaf k v) h = let p = h (k, v) (inl refl) in (p.0, p.1.1.0)
leaves_fit (Inner i l r) h = (leaves_fit l (λ p g. h p (in_left (pairs_of l) (pairs_of r) p g)), leaves_fit r (λ p g. h p (in_right (pairs_of l) (pairs_of r) p g)))
leaves_fit (Stub root) h = tt

leaves_hold : (t : Tree) → IsGrown t → AreProper t → PartHoldsBytes t
unfolding IsGrown
leaves_hold Empty g h = tt
leaves_hold (Leaf k v) g h = let p = h (k, v) (inl refl) in (p.1.0, p.1.1.1)
leaves_hold (Inner i l r) g h = (leaves_hold l g.0 (λ p f. h p (in_left (pairs_of l) (pairs_of r) p f)), leaves_hold r g.1 (λ p f. h p (in_right (pairs_of l) (pairs_of r) p f)))
leaves_hold (Stub root) g h = absurd g

tree_holds : (t : Tree) → IsTree t → AreProper t → PartHoldsBytes t
tree_holds Empty g h = tt
tree_holds (Leaf k v) g h = leaves_hold (Leaf k v) g h
tree_holds (Inner i l r) g h = leaves_hold (Inner i l r) g h
tree_holds (Stub root) g h = absurd g

-- the root of a tree whose stubs are digests of bytes is one
root_bytes : (t : Tree) → PartHoldsBytes t → AreBytes (root_of t)
root_bytes Empty h = bytes-sha256 _
root_bytes (Leaf k v) h = bytes-sha256 _
root_bytes (Inner i l r) h = bytes-sha256 _
root_bytes (Stub root) h = h

cut_holds : (c t : Tree) → IsCut c t → PartHoldsBytes t → PartHoldsBytes c
unfolding IsCut
cut_holds Empty t e h = tt
cut_holds (Leaf k v) t e h = subst PartHoldsBytes e h
cut_holds (Stub root) t e h = subst AreBytes (sym e) (root_bytes t h)
cut_holds (Inner i l r) Empty e h = absurd e
cut_holds (Inner i l r) (Leaf k v) e h = absurd e
cut_holds (Inner i l r) (Stub root) e h = absurd e
cut_holds (Inner i l r) (Inner j m s) e h = (cut_holds l m e.1 h.0, cut_holds r s e.2 h.1)

-- ---- a sent part

-- it is a cut of the tree of the dictionary, in the grammar, and its spelling is bytes and is read as it
pub record IsSent (d : Dictionary) (bytes : List ℕ) (part : Part) : Type 0 where
  pub text : bytes ≡ part_text part
  pub cut : IsCut part (tree_of d)
  pub grammar : IsPart part
  pub read : read_part bytes ≡ Some part
  pub root : root_of part ≡ dictionary_root d
  pub are_bytes : AreBytes bytes

module _ (d : Dictionary) (proper : IsProper d) where
  whole : HasTree d (tree_of d)
  whole = has_tree d (byte_entries d (byte_keys-proper d proper))

  pairs_proper : AreProper (tree_of d)
  pairs_proper p there =
      let x = proper p.0 p.1 (in_is_entry d p (subst (λ ps. IsIn ps p) whole.pairs there)) in
      (x.0.0, (x.0.1, (x.1.0, x.1.1)))

  sent : (part : Part) → IsCut part (tree_of d) → IsSent d (part_text part) part
  unfolding dictionary_root
  sent part cut =
      let grammar : IsPart part = cut_is_part part (tree_of d) cut (tree_is_part (tree_of d) whole.tree (leaves_fit (tree_of d) pairs_proper)) in
      record {
        text = refl;
        cut = cut;
        grammar = grammar;
        read = part_again part grammar;
        root = root_of-cut part (tree_of d) cut;
        are_bytes = (parts_are_spelled.in_bytes part grammar).1 (cut_holds part (tree_of d) cut (tree_holds (tree_of d) whole.tree pairs_proper));
      }

  -- the part for an operation, which it reaches
  pub sent_for : (o : Op) → IsSent d (part_for d o) (cut_for (tree_of d) o)
  sent_for o = sent (cut_for (tree_of d) o) (cut_for-cut (tree_of d) o)

  pub for_reaches : (o : Op) → reaches (cut_for (tree_of d) o) o ≡ true
  for_reaches o = cut_for-reaches (tree_of d) o whole.tree

  pub sent_bare : IsSent d (bare_part d) (cut_none (tree_of d))
  sent_bare = sent (cut_none (tree_of d)) (cut_none-cut (tree_of d))

  -- the part of an Update
  pub sent_update : (o : Op) (done : Bool) → (part : Part) × IsSent d (update_part d o done) part × ((not (done && is_write o) || reaches part o) ≡ true)
  sent_update o done =
      elim (done && is_write o) as (λ b. (part : Part) × IsSent d (if b then part_for d o else bare_part d) part × ((not b || reaches part o) ≡ true)) [
        | true ↦ (cut_for (tree_of d) o, sent_for o, for_reaches o)
        | false ↦ (cut_none (tree_of d), sent_bare, refl)
      ]
