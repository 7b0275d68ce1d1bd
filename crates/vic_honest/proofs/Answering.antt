-- The server serves a client that stands well: what it answers is right, and it knows what it did.
use Rattle.std.proofs.Common.{◌≡◌, ℕ, ◌+◌, ◌<◌, Bool, true, false, List, [], ◌∷◌, ◌++◌, length, Option, Some, None, inl, inr, refl, sym, ap, subst, ◌∙◌, arith, length-append, append_assoc}
use Rattle.std.specs.Prelude.{if◌then◌else◌, nat_eq}
use Rattle.std.proofs.lemmas.Bool.{lt-ltb, le-ltb, cases_lt}
use Rattle.vic_dict.specs.Lists.{IsIn, front, newest}
use Rattle.vic_wire.specs.declared.message.ToClient.TheVariants as say
use Rattle.vic_wire.specs.Hashes.{Group}
use Rattle.vic_rules.specs.declared.state.Awaiting.TheVariants as awaits
use Rattle.vic_rules.specs.Client.{Standing}
use Rattle.vic_order.specs.Order.{Ordered, Server, Answered, size, sealed_count, or_no_seal, seal_at_position, top_seal, ordered_at, commit_at, turn, turn_on, update_part}
use Rattle.vic_order.specs.Fates.{dictionary_by}
use Rattle.vic_honest.proofs.Words.{front-joined}
use Rattle.vic_honest.proofs.Standing.{Gets}
use Rattle.vic_honest.proofs.Owns.{NoneOf, front-all, same_end, At, item_at, seal_on, seals_on, length-seals_on}
use Rattle.vic_honest.proofs.Knowing.{ServerKnows, Keeps, Calm, Does}
use Rattle.vic_honest.proofs.Frame.{Later}

-- ---- seals and entries by their places

newest-seals_on : (g : Group) (log : List Ordered) → or_no_seal (newest (seals_on g log)) ≡ seal_on g log
unfolding seal_on
newest-seals_on g [] = refl
newest-seals_on g (o ∷ below) = refl

front-seals_on : (g : Group) (new old : List Ordered) → front (length old) (seals_on g (new ++ old)) ≡ seals_on g old
front-seals_on g [] old = ap (λ n. front n (seals_on g old)) (sym (length-seals_on g old)) ∙ front-all (seals_on g old)
front-seals_on g (o ∷ new) old =
    front-joined (length old) (seal_on g (o ∷ (new ++ old)) ∷ []) (seals_on g (new ++ old)) (omega (arith, length-seals_on g (new ++ old), length-append new old)) ∙ front-seals_on g new old

pub seal_at-is : (g : Group) (s : Server) (new old : List Ordered) (n : ℕ) → s.seals ≡ seals_on g (new ++ old) → n ≡ length old → seal_at_position s n ≡ seal_on g old
seal_at-is g s new old n seals at =
    ap (λ k. or_no_seal (newest (front k s.seals))) at ∙ ap (λ xs. or_no_seal (newest (front (length old) xs))) seals ∙ ap (λ xs. or_no_seal (newest xs)) (front-seals_on g new old) ∙ newest-seals_on g old

pub ordered_at-is : (s : Server) (newer : List Ordered) (o : Ordered) (below : List Ordered) → s.log ≡ newer ++ o ∷ below → ordered_at s (length (o ∷ below)) ≡ Some o
ordered_at-is s newer o below is =
    ap (λ b. if b then None else newest (front (length (o ∷ below)) s.log)) (le-ltb (size s) (length (o ∷ below)) (omega (arith, ap length is, length-append newer (o ∷ below))))
    ∙ ap (λ l. newest (front (length (o ∷ below)) l)) is ∙ ap newest (front-joined (length (o ∷ below)) newer (o ∷ below) (omega arith) ∙ front-all (o ∷ below))

-- the entry that stands at a place
ordered_at-tells : (s : Server) (n : ℕ) (o : Ordered) → ordered_at s (n + 1) ≡ Some o → (newer : List Ordered) × ((below : List Ordered) × ((s.log ≡ newer ++ o ∷ below) × (length below ≡ n)))
ordered_at-tells s n o e = elim (cases_lt n (size s)) [
  | inl within ↦
      let a : At s.log n = item_at s.log n within in
      let there : ordered_at s (length (a.item ∷ a.below)) ≡ Some a.item = ordered_at-is s a.over a.item a.below a.is in
      let at : length (a.item ∷ a.below) ≡ n + 1 = omega (arith, a.long) in
      let found : ordered_at s (n + 1) ≡ Some a.item = ap (ordered_at s) (sym at) ∙ there in
      let same : a.item ≡ o = cc in
      (a.over, (a.below, (a.is ∙ ap (λ x. a.over ++ x ∷ a.below) same, a.long)))
  | inr past ↦
      let none : ordered_at s (n + 1) ≡ None = ap (λ b. if b then None else newest (front (n + 1) s.log)) (lt-ltb (size s) (n + 1) (omega arith)) in absurd cc
]

-- an own entry isn't among those of others
in_seen : (me : ℕ) (newer seen over : List Ordered) (o : Ordered) (below : List Ordered) → NoneOf me newer → nat_eq o.entry.client me ≡ true → newer ++ seen ≡ over ++ o ∷ below
    → (above : List Ordered) × (seen ≡ above ++ o ∷ below)
in_seen me [] seen over o below none mine e = (over, e)
in_seen me (x ∷ newer) seen [] o below none mine e =
    let same : x ≡ o = cc in let other = none.0 in let again : nat_eq o.entry.client me ≡ false = subst (λ y. nat_eq y.entry.client me ≡ false) same other in absurd cc
in_seen me (x ∷ newer) seen (y ∷ over) o below none mine e = let rest : newer ++ seen ≡ over ++ o ∷ below = cc in in_seen me newer seen over o below none.1 mine rest

-- ---- what the server answers, and what it knows then

pub record Answers (g : Group) (me : ℕ) (s : Server) (t : Standing) (seen newer : List Ordered) (a : Answered) : Type 0 where
  pub new : List Ordered
  pub knows : ServerKnows g a.next
  pub keeps : Keeps me a.next t seen (new ++ newer)
  pub does : Does g me a.next t seen (new ++ newer) (Gets a.answer)
  pub still_kept : (c : List ℕ) → IsIn s.contents c → IsIn a.next.contents c
  pub others : (j : ℕ) → 0 < j → (j ≡ me → ⊥) → Later j s a.next

pub count_is : (g : Group) (s : Server) (k : ServerKnows g s) → sealed_count s ≡ length k.base
count_is g s k = ap length k.seals ∙ length-seals_on g k.base

pub top_is : (g : Group) (s : Server) (k : ServerKnows g s) → top_seal s ≡ seal_on g k.base
top_is g s k = seal_at-is g s [] k.base (sealed_count s) k.seals (count_is g s k)

-- the older part of the log that is as long as what is sealed
pub base_is : (g : Group) (s : Server) (k : ServerKnows g s) (newer below : List Ordered) → s.log ≡ newer ++ below → sealed_count s ≡ length below → k.base ≡ below
base_is g s k newer below is count = same_end k.over k.base newer below (sym k.is ∙ is) (sym (count_is g s k) ∙ count)

module _ (g : Group) (me : ℕ) (u : Server) (k : ServerKnows g u) (t : Standing) (seen newer : List Ordered) (log : u.log ≡ newer ++ seen) (awaiting : t.awaiting ≡ awaits.Turn) (calm : Calm me u t newer) where
  turn_by : (o : Option Ordered) (status : Option Bool) → ordered_at u (sealed_count u + 1) ≡ o → commit_at u (sealed_count u + 1) ≡ status → Does g me u t seen newer (Gets (turn_on u me o status))
  turn_by None status at committed = (awaiting, calm)
  turn_by (Some o) None at committed = (awaiting, calm)
  turn_by (Some o) (Some done) at committed =
      elim (nat_eq o.entry.client me) as (λ b. nat_eq o.entry.client me ≡ b → Does g me u t seen newer (Gets (if b then say.Update (top_seal u) (update_part u.dictionary o.entry.op done) else say.Wait))) [
        | true ↦ λ mine.
            let place = ordered_at-tells u (sealed_count u) o at in
            let below : List Ordered = place.1.0 in
            let inside = in_seen me newer seen place.0 o below calm.others mine (sym log ∙ place.1.1.0) in
            let base : k.base ≡ below = base_is g u k (place.0 ++ o ∷ []) below (place.1.1.0 ∙ sym (append_assoc place.0 (o ∷ []) below)) (sym place.1.1.1) in
            let next : sealed_count u + 1 ≡ length (o ∷ below) = omega (arith, place.1.1.1) in
            record {
              above = inside.0;
              o = o;
              below = below;
              done = done;
              awaiting = awaiting;
              split = inside.1;
              mine = mine;
              count = sym place.1.1.1;
              committed = ap (commit_at u) (sym next) ∙ committed;
              calm = calm;
              message = ap (λ x. say.Update x (update_part u.dictionary o.entry.op done)) (top_is g u k ∙ ap (seal_on g) base)
                  ∙ ap (λ d. say.Update (seal_on g below) (update_part d o.entry.op done)) (k.dictionary ∙ ap dictionary_by base);
            }
        | false ↦ λ other. (awaiting, calm)
      ] refl

  -- the turn that is told is right
  pub turn_does : Does g me u t seen newer (Gets (turn u me))
  turn_does = turn_by (ordered_at u (sealed_count u + 1)) (commit_at u (sealed_count u + 1)) refl refl
