-- Clients in a row, of which one makes a step or is exchanged.
use Rattle.std.proofs.Common.{◌≡◌, ℕ, zero, suc, ◌+◌, ◌<◌, ◌≤◌, Bool, List, [], ◌∷◌, length, Some, refl, sym, ap, subst, ◌∙◌, arith, slice_get, slice_set}
use Rattle.std.specs.Prelude.{if◌then◌else◌}
use Rattle.std.proofs.lemmas.Bool.{eq-eqb, ne_eqb}
use Rattle.vic_wire.specs.Hashes.{Group}
use Rattle.vic_rules.specs.declared.trace.Input.{Input}
use Rattle.vic_rules.specs.declared.trace.TraceStep.{TraceStep}
use Rattle.vic_rules.specs.Client.{Standing, step}
use Rattle.vic_rules.specs.History.{standing}
use Rattle.vic_laws.proofs.Standings.{standing_moved, standing_kept}
use Rattle.vic_client.specs.Kept.{KeptClient, StandsFor, kept_group}
use Rattle.vic_order.specs.Scenes.{or_before, payload_in, last_taken, last_sent}
use Rattle.vic_group.specs.declared.member.Member.{Member}
use Rattle.vic_group.specs.Members.{AllStand}
use Rattle.vic_group.specs.World.{MemberStands, step_at}

-- ---- rows

module _ {M : Type 0} where
  -- what holds of each holds of the one at a place
  pub stand_at : (P : M → ℕ → Type 0) (i k : ℕ) (ms : List M) (m : M) → AllStand P i ms → slice_get ms k ≡ Some m → P m (i + k)
  stand_at P i k [] m all is = absurd cc
  stand_at P i zero (n ∷ ms) m all is =
      let e : n ≡ m = cc in
      let same : i ≡ i + zero = omega arith in
      subst (λ (j : ℕ). P m j) same (subst (λ (c : M). P c i) e all.0)
  stand_at P i (suc k) (n ∷ ms) m all is =
      let same : suc i + k ≡ i + suc k = omega arith in
      subst (λ (j : ℕ). P m j) same (stand_at P (suc i) k ms m all.1 is)

  -- what follows for each one holds of all
  pub stand_map : (P Q : M → ℕ → Type 0) (i : ℕ) (ms : List M) → ((n : M) (j : ℕ) → i ≤ j → P n j → Q n j) → AllStand P i ms → AllStand Q i ms
  stand_map P Q i [] f all = tt
  stand_map P Q i (m ∷ ms) f all = (f m i (omega arith) all.0, stand_map P Q (suc i) ms (λ n j le. f n j (omega (arith, le))) all.1)

  -- one is exchanged
  pub stand_set : (P Q : M → ℕ → Type 0) (i k : ℕ) (ms : List M) (m : M) → k < length ms → AllStand P i ms → ((n : M) (j : ℕ) → (j ≡ i + k → ⊥) → P n j → Q n j) → Q m (i + k)
      → AllStand Q i (slice_set ms k m)
  stand_set P Q i k [] m lt all others now = absurd (omega (arith, lt))
  stand_set P Q i zero (n ∷ ms) m lt all others now =
      let same : i + zero ≡ i = omega arith in
      (subst (λ (j : ℕ). Q m j) same now, stand_map P Q (suc i) ms (λ c j le. others c j (λ e. omega (arith, le, e))) all.1)
  stand_set P Q i (suc k) (n ∷ ms) m lt all others now =
      let same : i + suc k ≡ suc i + k = omega arith in (
        others n i (λ e. omega (arith, e)) all.0,
        stand_set P Q (suc i) k ms m (omega (arith, lt)) all.1 (λ c j apart. others c j (λ e. apart (e ∙ same))) (subst (λ (j : ℕ). Q m j) same now),
      )

-- ---- members

-- another's step changes nothing of what a member shows
pub stays_apart : (g : Group) (h : List TraceStep) (x : TraceStep) (m : Member) (j : ℕ) → (x.client ≡ j → ⊥) → MemberStands g h m j → MemberStands g (x ∷ h) m j
unfolding last_taken last_sent
stays_apart g h x m j apart so = record {
  id = so.id;
  group = so.group;
  stands = subst (λ (s : Standing). StandsFor m.client s) (sym (standing_kept g j x h apart)) so.stands;
  taken = so.taken ∙ sym (ap (λ (b : Bool). if b then or_before (payload_in x.input) (last_taken j h) else last_taken j h) (ne_eqb x.client j apart));
  sent = so.sent ∙ sym (ap (λ (b : Bool). if b then or_before x.sent (last_sent j h) else last_sent j h) (ne_eqb x.client j apart));
}

-- a member exchanged for one with the same client shows as much
pub same_member : (g : Group) (h : List TraceStep) (m n : Member) (j : ℕ) → n.client ≡ m.client → n.taken ≡ m.taken → n.sent ≡ m.sent → MemberStands g h m j → MemberStands g h n j
same_member g h m n j client taken sent so = record {
  id = ap (λ (k : KeptClient). k.id) client ∙ so.id;
  group = ap (λ (k : KeptClient). kept_group k) client ∙ so.group;
  stands = subst (λ (k : KeptClient). StandsFor k (standing g j h)) (sym client) so.stands;
  taken = taken ∙ so.taken;
  sent = sent ∙ so.sent;
}

-- the newest payload that a client took or sent, after its own step
pub taken_now : (h : List TraceStep) (x : TraceStep) → last_taken x.client (x ∷ h) ≡ or_before (payload_in x.input) (last_taken x.client h)
unfolding last_taken
taken_now h x = ap (λ (b : Bool). if b then or_before (payload_in x.input) (last_taken x.client h) else last_taken x.client h) (eq-eqb x.client x.client refl)

pub sent_now : (h : List TraceStep) (x : TraceStep) → last_sent x.client (x ∷ h) ≡ or_before x.sent (last_sent x.client h)
unfolding last_sent
sent_now h x = ap (λ (b : Bool). if b then or_before x.sent (last_sent x.client h) else last_sent x.client h) (eq-eqb x.client x.client refl)

-- after its own step a client stands where its move leads
pub stands_next : (g : Group) (h : List TraceStep) (i : ℕ) (given : Input) → standing g i (step_at g h i given ∷ h) ≡ (step g i (standing g i h) given).next
stands_next g h i given = standing_moved g i (step_at g h i given) h refl
