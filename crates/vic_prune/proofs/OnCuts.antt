-- What is computed on a cut is the dictionary's.
use Rattle.std.proofs.Common.{◌≡◌, ℕ, Bool, true, false, cond, not, List, Result, Ok, Err, refl, sym, ap, ◌∙◌}
use Rattle.std.specs.Prelude.{IfOk}
use Rattle.vic_prune.specs.declared.pruned.PruneFault.{PruneFault}
use Rattle.vic_dict.specs.Dictionary.{Dictionary, reply, after, AreBytesIn, HasByteKeys}
use Rattle.vic_dict.specs.declared.op.Op.{Op}
use Rattle.vic_dict.specs.declared.op.Op.TheVariants as op
use Rattle.vic_dict.specs.declared.op.Answer.{Answer}
use Rattle.vic_dict.specs.declared.op.Answer.TheVariants as answer
use Rattle.vic_dict.specs.Lists.{AreBytes}
use Rattle.vic_wire.specs.Trees.{Tree, Empty, Leaf, Inner, Stub, root_of, tree_of, dictionary_root}
use Rattle.vic_wire.specs.Cuts.{IsCut}
use Rattle.vic_wire.specs.Walks.{end_at, is_stub, reaches, walked, put_in, del_in, below, least, leaf_has_prefix, is_whole, tree_after}
use Rattle.vic_tree.specs.Shown.{value_at, answer_shown, names_in}
use Rattle.vic_tree.specs.Grown.{HasByteWords}
use Rattle.vic_tree.proofs.Reached.{root-after, reply-walked}
use Rattle.vic_tree.proofs.Alike.{byte_entries, byte_words}
use Rattle.vic_tree.proofs.Cuts.{root_of-cut}

not_true : (b : Bool) → not b ≡ true → b ≡ false
not_true true e = cc
not_true false e = refl

least_shown : (p : List ℕ) (l : Tree) (w : Bool) → cond (leaf_has_prefix p l) w (not (is_stub l)) ≡ true → is_stub l ≡ false
least_shown p Empty w e = refl
least_shown p (Leaf k v) w e = refl
least_shown p (Inner i l r) w e = refl
least_shown p (Stub root) w e = absurd cc

module _ (c : Tree) (o : Op) (reached : reaches c o ≡ true) where
  -- with the words as the code has them
  pub root_on_cut : (o' : Op) → o ≡ o' → HasByteWords o' → (r : List ℕ) → r ≡ root_of (tree_after c o') → (d : Dictionary) → HasByteKeys d → IsCut c (tree_of d) → r ≡ dictionary_root (after d o)
  root_on_cut o' is words r e d keys cut =
      e ∙ root-after d (byte_entries d keys) c cut o' words (ap (reaches c) (sym is) ∙ reached) ∙ ap (λ x. dictionary_root (after d x)) (sym is)

  pub put_reached : (k v : List ℕ) → o ≡ op.Put k v → is_stub (end_at k c) ≡ false
  put_reached k v is = not_true _ (ap (reaches c) (sym is) ∙ reached)

-- the answer at the walk of a cut is the dictionary's
pub reply_on_cut : (c : Tree) (o : Op) → AreBytesIn o → reaches c o ≡ true → (a : Answer) → a ≡ reply (walked c o) o → (d : Dictionary) → HasByteKeys d → IsCut c (tree_of d) → a ≡ reply d o
reply_on_cut c o words reached a e d keys cut = e ∙ reply-walked d (byte_entries d keys) c cut o (byte_words o words) reached

pub same_root : (c : Tree) (d : Dictionary) → IsCut c (tree_of d) → root_of c ≡ dictionary_root d
unfolding dictionary_root
same_root c d cut = root_of-cut c (tree_of d) cut

-- so is that of a list, once it has answered
pub list_on_cut : (r : Result Answer PruneFault) (c : Tree) (o : Op) (p : List ℕ) → o ≡ op.List p → AreBytesIn o → IfOk r (λ a. a ≡ reply (walked c (op.List p)) (op.List p)) → IfOk r (λ a. reaches c (op.List p) ≡ true)
    → IfOk r (λ a. (d : Dictionary) → HasByteKeys d → IsCut c (tree_of d) → a ≡ reply d o)
list_on_cut (Ok a) c o p is words e reached = λ d keys cut.
    reply_on_cut c o words (ap (reaches c) is ∙ reached) a (e ∙ ap (λ x. reply (walked c x) x) (sym is)) d keys cut
list_on_cut (Err f) c o p is words e reached = tt
