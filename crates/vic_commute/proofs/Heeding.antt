-- Dictionaries that are alike at what an answer depends on.
use Rattle.std.proofs.Common.{◌≡◌, ◌≢◌, ℕ, Bool, true, false, cond, ◌||◌, List, ◌∷◌, [], Option, None, Some, ◌↔◌, refl, sym, ap, ◌∙◌, subst, true≢false, drop, length}
use Rattle.std.specs.List.{fold, starts_with}
use Rattle.std.specs.Prelude.{nat_eq}
use Rattle.std.specs.Str.{bytes_eq}
use Rattle.std.specs.FinMap as map
use Rattle.std.proofs.lemmas.Slice.Eq.{bytes_eq-Decides}
use Rattle.vic_dict.specs.declared.op.Op.{Op}
use Rattle.vic_dict.specs.declared.op.Op.TheVariants as op
use Rattle.vic_dict.specs.declared.op.Answer.TheVariants as answer
use Rattle.vic_dict.specs.Dictionary.{Dictionary, nothing, reply, after, answer_of_get, answer_of_del}
use Rattle.vic_wire.specs.Conflict.{conflicts, looks_at, is_met, changed_key, heeds, is_heeded, blocks}
use Rattle.vic_commute.specs.Commutes.{BeginsWith}
use Rattle.vic_commute.specs.Blocks.{DifferAtMostAt, after_all, NotBlocked, BlocksConflict, BlocksAre, Heeds, by_get, by_del, by_list}
use Rattle.vic_commute.proofs.Commuting.{Alike, get-after, leaves_at, is_key, same_key, same_passing, own_key}
use Rattle.vic_commute.proofs.Cells.{begins}

-- the two have equal values at each key on which the operation's answer depends
abbrev pub HeededAlike : Op → Dictionary → Dictionary → Type 0
HeededAlike o d e = (k : List ℕ) → heeds o k ≡ true → map.get d k ≡ map.get e k

-- what an answer depends on is looked at
pub heeded_is_looked : (o : Op) (k : List ℕ) → heeds o k ≡ true → looks_at o k ≡ true
heeded_is_looked (op.Put q v) k h = absurd cc
heeded_is_looked (op.Get q) k h = h
heeded_is_looked (op.Del q) k h = h
heeded_is_looked (op.List p) k h = h

-- so what is alike where the operation looks is alike at what its answer depends on
pub looked_alike : (o : Op) (d e : Dictionary) → Alike o d e → HeededAlike o d e
looked_alike o d e alike k h = alike k (heeded_is_looked o k h)

pub heeded_itself : (o : Op) (d : Dictionary) → HeededAlike o d d
heeded_itself o d k h = refl

-- the same operation keeps dictionaries alike
pub same_after : (o x : Op) (d e : Dictionary) → HeededAlike o d e → HeededAlike o (after d x) (after e x)
same_after o x d e alike k h = get-after x d k ∙ ap (leaves_at x k) (alike k h) ∙ sym (get-after x e k)

passed_by : (o : Op) (k q : List ℕ) → heeds o k ≡ false → heeds o q ≡ true → is_key q k ≡ false
passed_by o k q away h =
    elim (is_key q k) as (λ b. is_key q k ≡ b → b ≡ false) [
      | true ↦ λ e. sym h ∙ ap (heeds o) (same_key q k e) ∙ away
      | false ↦ λ e. refl
    ] refl

left_alone : (o x : Op) (q : List ℕ) (was : Option (List ℕ)) → blocks x o ≡ false → heeds o q ≡ true → leaves_at x q was ≡ was
left_alone o (op.Put k v) q was away h = ap (λ b. cond b (Some v) was) (passed_by o k q away h)
left_alone o (op.Get k) q was away h = refl
left_alone o (op.Del k) q was away h = ap (λ b. cond b None was) (passed_by o k q away h)
left_alone o (op.List p) q was away h = refl

-- an operation that doesn't block the other keeps dictionaries alike at it
pub unblocked_after : (o x : Op) (d e : Dictionary) → blocks x o ≡ false → HeededAlike o d e → HeededAlike o d (after e x)
unblocked_after o x d e away alike k h = alike k h ∙ sym (get-after x e k ∙ left_alone o x k (map.get e k) away h)

-- alike dictionaries give the operation the same answer
pub heeded_reply : (o : Op) (d e : Dictionary) → HeededAlike o d e → reply d o ≡ reply e o
heeded_reply (op.Put k v) d e alike = refl
heeded_reply (op.Get k) d e alike = ap answer_of_get (alike k (own_key k))
heeded_reply (op.Del k) d e alike = ap answer_of_del (alike k (own_key k))
heeded_reply (op.List p) d e alike = ap answer.Names (same_passing (λ k. starts_with nat_eq k p) d e alike)

-- ---- blocks

heeded_met : (key : Option (List ℕ)) (b : Op) → is_heeded key b ≡ true → is_met key b ≡ true
heeded_met None b h = h
heeded_met (Some k) b h = heeded_is_looked b k h

or_left : (a b : Bool) → a ≡ true → (a || b) ≡ true
or_left true b e = refl
or_left false b e = absurd cc

pub blocks_conflict : BlocksConflict
blocks_conflict a b h = or_left (is_met (changed_key a) b) _ (heeded_met (changed_key a) b h)

-- so what doesn't conflict doesn't block
pub apart_unblocked : (a b : Op) → conflicts a b ≡ false → blocks a b ≡ false
apart_unblocked a b apart =
    elim (blocks a b) as (λ c. blocks a b ≡ c → c ≡ false) [
      | true ↦ λ e. sym (blocks_conflict a b e) ∙ apart
      | false ↦ λ e. refl
    ] refl

unheeded : (key : Option (List ℕ)) (b : Op) (k : List ℕ) → is_heeded key b ≡ false → heeds b k ≡ true → key ≢ Some k
unheeded key b k away h e = true≢false (sym h ∙ (ap (λ o. is_heeded o b) (sym e) ∙ away))

alike_between : (o : Op) (d e : Dictionary) → HeededAlike o d e → (os : List Op) → HeededAlike o (after_all d os) (after_all e os)
alike_between o d e alike [] = alike
alike_between o d e alike (x ∷ os) = alike_between o (after d x) (after e x) (same_after o x d e alike) os

pub not_blocked : NotBlocked
not_blocked a b away = record {
  differing = λ d e differ. heeded_reply b d e (λ k h. differ k (unheeded (changed_key a) b k away h));
  between = λ d os. heeded_reply b (after_all (after d a) os) (after_all d os)
      (alike_between b (after d a) d (λ k h. sym (unblocked_after b a d d away (heeded_itself b d) k h)) os);
}

heeds_told : (k : List ℕ) (b : Op) → heeds b k ≡ true → Heeds k b
heeds_told k (op.Put q v) h = absurd cc
heeds_told k (op.Get q) h = by_get (ap (λ x. op.Get x) ((bytes_eq-Decides q k).0 h))
heeds_told k (op.Del q) h = by_del (ap (λ x. op.Del x) ((bytes_eq-Decides q k).0 h))
heeds_told k (op.List p) h = by_list p refl ((begins k p).0 h)

told_heeds : (k : List ℕ) (b : Op) → Heeds k b → heeds b k ≡ true
told_heeds k b (by_get e) = ap (λ x. heeds x k) e ∙ own_key k
told_heeds k b (by_del e) = ap (λ x. heeds x k) e ∙ own_key k
told_heeds k b (by_list p e begin) = ap (λ x. heeds x k) e ∙ (begins k p).1 begin

blocks_told : (key : Option (List ℕ)) (b : Op) → is_heeded key b ≡ true → (k : List ℕ) × (key ≡ Some k) × Heeds k b
blocks_told None b h = absurd cc
blocks_told (Some k) b h = (k, refl, heeds_told k b h)

pub blocks_are : BlocksAre
blocks_are a b = (
  blocks_told (changed_key a) b,
  λ t. ap (λ key. is_heeded key b) t.1 ∙ told_heeds t.0 b t.2,
)
