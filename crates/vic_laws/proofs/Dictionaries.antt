-- The dictionaries that views leave are proper, and those of one root are one.
use Rattle.std.specs.Prelude.{◌≡◌, ℕ, ◌⊎◌, Bool, true, false, not, List, [], ◌∷◌, ◌++◌, Option, Some, None, ◌&&◌, ◌||◌, if◌then◌else◌}
use Rattle.std.specs.List.{AllByRecursion}
use Rattle.std.specs.Ordering.{nat_cmp}
use Rattle.std.specs.Cmp.Lexicographic.{slice_cmp}
use Rattle.std.specs.FinMap as map
use Rattle.std.specs.FinMap.{len-empty}
use Rattle.std.proofs.Common.{refl, ap, sym, ◌∙◌, inl, inr}
use Rattle.vic_dict.specs.declared.op.Op.{Op}
use Rattle.vic_dict.specs.declared.op.Op.TheVariants as op
use Rattle.vic_dict.specs.declared.op.Outcome.{Outcome}
use Rattle.vic_dict.specs.declared.op.Outcome.TheVariants as outcome
use Rattle.vic_dict.specs.declared.op.Entry.{Entry}
use Rattle.vic_dict.specs.Lists.{IsIn}
use Rattle.vic_dict.specs.Dictionary.{Dictionary, nothing, after, AreBytesIn, IsProper}
use Rattle.vic_wire.specs.Hashes.{empty_root}
use Rattle.vic_wire.specs.Trees.{tree_of, tree_by, root_of, dictionary_root, node_texts}
use Rattle.vic_wire.specs.Messages.{IsEntry}
use Rattle.vic_wire.specs.Cuts.{IsCut}
use Rattle.vic_wire.specs.Parts.{Part, IsPart, part_root, part_texts, reaches, root_after}
use Rattle.vic_rules.specs.declared.state.Own.{Own}
use Rattle.vic_rules.specs.declared.trace.Shown.{Shown}
use Rattle.vic_rules.specs.Client.{is_done, is_write, new_root}
use Rattle.vic_rules.specs.History.{Completion}
use Rattle.vic_rules.specs.Views.{confirmation, confirmed_calls, shown_as, left_by, outcome_leaves}
use Rattle.vic_roots.proofs.Proper.{proper-nothing, proper-after, byte_keys-proper}
use Rattle.vic_tree.specs.Binding.{Collides as TreesCollide}
use Rattle.vic_tree.proofs.Alike.{byte_entries, short_entries, byte_words}
use Rattle.vic_tree.proofs.Binding.{part_is_bound}
use Rattle.vic_tree.proofs.Grammar.{part_is_spelled}
use Rattle.vic_tree.proofs.Reached.{root-after}
use Rattle.vic_laws.proofs.Words.{in_either}
use Rattle.vic_laws.proofs.Chains.{TwoTexts}

proper_outcome : (d : Dictionary) (e : Entry) (shown outcome : Outcome) → IsProper d → IsEntry e → IsProper (outcome_leaves d (record { entry = e; outcome = shown }) outcome)
proper_outcome d e shown (outcome.Done a) p is = proper-after d e.op p is.op.0 is.op.1
proper_outcome d e shown (outcome.Aborted u) p is = p
proper_outcome d e shown (outcome.Refused r) p is = p
proper_outcome d e shown (outcome.Halted k) p is = p

proper_shown : (e : Entry) (o : Option Completion) (v : List Shown) → IsEntry e → IsProper (left_by v) → IsProper (left_by (shown_as e o ++ v))
unfolding left_by
proper_shown e None v is p = p
proper_shown e (Some c) v is p = proper_outcome (left_by v) e c.outcome c.outcome p is

-- what the confirmed calls of a spelled path leave is proper
pub left_proper : (cs : List Completion) (p : List Entry) → AllByRecursion IsEntry p → IsProper (left_by (confirmed_calls cs p))
unfolding confirmed_calls left_by
left_proper cs [] s = proper-nothing
left_proper cs (e ∷ p) s = proper_shown e (confirmation cs (e ∷ p)) (confirmed_calls cs p) s.0 (left_proper cs p s.1)

-- the root of the dictionary without a key
root_of_nothing : dictionary_root nothing ≡ empty_root
unfolding dictionary_root tree_of tree_by
root_of_nothing = ap (λ n. root_of (tree_by n (map.entries nothing))) (len-empty (slice_cmp nat_cmp) (List ℕ))

pub root_at_start : (cs : List Completion) → dictionary_root (left_by (confirmed_calls cs [])) ≡ empty_root
unfolding confirmed_calls left_by
root_at_start cs = root_of_nothing

listed_two : (IsOne : List ℕ → Type 0) (d e : List (List ℕ)) → ((t : List ℕ) → IsIn d t → IsOne t) → ((t : List ℕ) → IsIn e t → IsOne t) → TreesCollide (d ++ e) → TwoTexts IsOne
listed_two IsOne d e a b c = (c.one, c.other, one c.one (in_either d e c.one c.one_in), one c.other (in_either d e c.other c.other_in), c.differ, c.same_hash)
  where
    one : (t : List ℕ) → IsIn d t ⊎ IsIn e t → IsOne t
    one t (inl i) = a t i
    one t (inr i) = b t i

-- a part whose root is that of a proper dictionary is a cut of its tree, where no two texts of a kind collide
pub part_told : (IsOne : List ℕ → Type 0) → (TwoTexts IsOne → ⊥) → (part : Part) (d : Dictionary) → IsPart part → IsProper d
    → ((t : List ℕ) → IsIn (part_texts part) t → IsOne t) → ((t : List ℕ) → IsIn (node_texts (tree_of d)) t → IsOne t)
    → part_root part ≡ dictionary_root d → IsCut part (tree_of d)
part_told IsOne apart part d is_part proper a b same =
    let keys = byte_keys-proper d proper in
    told (part_is_bound part d (part_is_spelled part is_part) (byte_entries d keys) (short_entries d keys) same)
  where
    told : IsCut part (tree_of d) ⊎ TreesCollide (node_texts part ++ node_texts (tree_of d)) → IsCut part (tree_of d)
    told (inl e) = e
    told (inr c) = absurd (apart (listed_two IsOne (node_texts part) (node_texts (tree_of d)) a b c))

-- ---- the root after an own call

-- the root after a done put or del on a cut that reaches it is that of the dictionary after it
written : (done : Bool) (o : Op) (d : Dictionary) (part : Part) (root : List ℕ) → IsProper d → AreBytesIn o → IsCut part (tree_of d) → (not (done && is_write o) || reaches part o) ≡ true → root ≡ dictionary_root d
    → (if done && is_write o then root_after part o else root) ≡ dictionary_root (if done then after d o else d)
written true (op.Put k v) d part root proper bytes cut reached e = root-after d (byte_entries d (byte_keys-proper d proper)) part cut (op.Put k v) (byte_words (op.Put k v) bytes) reached
written true (op.Get k) d part root proper bytes cut reached e = e
written true (op.Del k) d part root proper bytes cut reached e = root-after d (byte_entries d (byte_keys-proper d proper)) part cut (op.Del k) (byte_words (op.Del k) bytes) reached
written true (op.List p) d part root proper bytes cut reached e = e
written false o d part root proper bytes cut reached e = e

-- a call leaves what its operation does, if it was done
pub leaves_done : (d : Dictionary) (x : Shown) (o : Outcome) → outcome_leaves d x o ≡ (if is_done o then after d x.entry.op else d)
leaves_done d x (outcome.Done a) = refl
leaves_done d x (outcome.Aborted u) = refl
leaves_done d x (outcome.Refused r) = refl
leaves_done d x (outcome.Halted k) = refl

-- the new root is that of what the call leaves, with its status
pub root_written : (o : Own) (d : Dictionary) (part : Part) (root : List ℕ) (x : Shown) → IsProper d → AreBytesIn o.op → IsCut part (tree_of d) → (not (o.done && is_write o.op) || reaches part o.op) ≡ true
    → root ≡ dictionary_root d → x.entry.op ≡ o.op → is_done x.outcome ≡ o.done
    → new_root o part root ≡ dictionary_root (outcome_leaves d x x.outcome)
root_written o d part root x proper bytes cut reached e same status =
    written o.done o.op d part root proper bytes cut reached e
    ∙ ap dictionary_root (sym (leaves_done d x x.outcome ∙ (ap (λ b. if b then after d x.entry.op else d) status ∙ ap (λ q. if o.done then after d q else d) same)))

-- what a path leaves whose newest entry is confirmed
pub left_next : (cs : List Completion) (e : Entry) (p : List Entry) (c : Completion) → confirmation cs (e ∷ p) ≡ Some c
    → left_by (confirmed_calls cs (e ∷ p)) ≡ outcome_leaves (left_by (confirmed_calls cs p)) (record { entry = e; outcome = c.outcome }) c.outcome
unfolding confirmed_calls left_by
left_next cs e p c found = ap (λ o. left_by (shown_as e o ++ confirmed_calls cs p)) found
