-- Where a client stands as its history grows by a step.
use Rattle.std.specs.Prelude.{◌≡◌, ℕ, zero, suc, ◌+◌, ◌-◌, ◌<◌, ◌⊎◌, Bool, List, [], ◌∷◌, ◌++◌, length, take, drop, reverse, Option, Some, None, if◌then◌else◌}
use Rattle.std.proofs.Common.{refl, ap, subst, sym, ◌∙◌, inl, inr, get_or, arith, length-append}
use Rattle.std.proofs.lemmas.Bool.{eq-eqb, ne_eqb}
use Rattle.std.proofs.lemmas.List.{append-nil, get_or-append_right}
use Rattle.vic_dict.specs.declared.op.Outcome.{Outcome}
use Rattle.vic_wire.specs.declared.message.ToClient.{ToClient}
use Rattle.vic_wire.specs.declared.message.ToClient.TheVariants as say
use Rattle.vic_wire.specs.Hashes.{Group}
use Rattle.vic_rules.specs.declared.trace.Input.{Input}
use Rattle.vic_rules.specs.declared.trace.TraceStep.{TraceStep}
use Rattle.vic_rules.specs.Client.{Standing, Move, entries_of, seal_of}
use Rattle.vic_rules.specs.History.{standing, move_of, IsStep, AreSteps}
use Rattle.vic_rules.specs.Trust.{answer_taken, answer_unless_halted, parts_in}
use Rattle.vic_laws.specs.Meanings.{parts_of}
use Rattle.vic_laws.proofs.Steps.{Kind, is_quiet, is_called, is_replied, is_updated, is_listed}
use Rattle.vic_laws.proofs.StepKinds.{step_kind}
use Rattle.vic_laws.proofs.Standings.{standing_moved, standing_kept, earlier_steps}
use Rattle.vic_view.specs.Replay.{read_by, replayed_path}
use Rattle.vic_view.proofs.Loops.{newest_step}
use Rattle.vic_view.proofs.Replays.{taken_told}
use Rattle.vic_view.proofs.Forging.{steps_then}
use Rattle.vic_apart.specs.declared.stand.Stand.{Stand}
use Rattle.vic_apart.specs.Stands.{no_stand, stand_with, HasTaken, StandsAs, AreStands}

-- ---- what an answer changes

-- the highest seal once an answer was taken
abbrev sealed_by : Option ToClient → ℕ → ℕ
sealed_by None n = n
sealed_by (Some (say.Reply seal entries part)) n = seal.position
sealed_by (Some (say.Update seal part)) n = seal.position + 1
sealed_by (Some (say.Entries seal entries)) n = seal.position
sealed_by (Some m) n = n

with_path : (m : Option ToClient) (s : Stand) → (stand_with m s).path ≡ s.path
with_path None s = refl
with_path (Some (say.Reply seal entries part)) s = refl
with_path (Some (say.Update seal part)) s = refl
with_path (Some (say.Entries seal entries)) s = refl
with_path (Some _) s = refl

with_parts : (m : Option ToClient) (s : Stand) → (stand_with m s).parts ≡ s.parts ++ parts_in m
with_parts (Some (say.Reply seal entries part)) s = refl
with_parts (Some (say.Update seal part)) s = refl
with_parts _ s = sym (append-nil s.parts)

with_sealed : (m : Option ToClient) (s : Stand) → (stand_with m s).sealed ≡ sealed_by m s.sealed
with_sealed (Some (say.Reply seal entries part)) s = refl
with_sealed (Some (say.Update seal part)) s = refl
with_sealed (Some (say.Entries seal entries)) s = refl
with_sealed _ s = refl

no_seal : (m : ToClient) (n : ℕ) → seal_of m ≡ None → sealed_by (Some m) n ≡ n
no_seal (say.Reply seal entries part) n e = absurd cc
no_seal (say.Update seal part) n e = absurd cc
no_seal (say.Entries seal entries) n e = absurd cc
no_seal _ n e = refl

sealed_quiet : (o : Option ToClient) (n : ℕ) → ((m : ToClient) → o ≡ Some m → (seal_of m ≡ None) × (entries_of m ≡ [])) → n ≡ sealed_by o n
sealed_quiet None n h = refl
sealed_quiet (Some m) n h = sym (no_seal m n (h m refl).0)

-- the answer that was taken tells the highest seal
sealed_taken : (g : Group) (me : ℕ) (s : Standing) (i : Input) (v : Move) → Kind g me s i v → v.next.sealed ≡ sealed_by (answer_unless_halted v.next i) s.sealed
sealed_taken g me s i v (is_quiet q) = q.sealed ∙ sealed_quiet (answer_unless_halted v.next i) s.sealed q.seals_nothing
sealed_taken g me s i v (is_called c) =
    ap (λ (m : Move). m.next.sealed) c.moved
    ∙ sealed_quiet (answer_unless_halted v.next i) s.sealed (λ m e. (ap seal_of (c.takes m e), ap entries_of (c.takes m e)))
sealed_taken g me s i v (is_replied r) = ap (λ (m : Move). m.next.sealed) r.moved ∙ ap (λ (o : Option ToClient). sealed_by o s.sealed) (sym r.takes)
sealed_taken g me s i v (is_updated u) = ap (λ (m : Move). m.next.sealed) u.moved ∙ ap (λ (o : Option ToClient). sealed_by o s.sealed) (sym u.takes)
sealed_taken g me s i v (is_listed l) = ap (λ (m : Move). m.next.sealed) l.moved ∙ ap (λ (o : Option ToClient). sealed_by o s.sealed) (sym l.takes)

-- what a lawful step took is what its input and outcome tell
pub took_told : (g : Group) (past : List TraceStep) (x : TraceStep) → IsStep g past x → answer_taken g past x ≡ read_by x.input x.returned
unfolding answer_taken
took_told g past x is = taken_told g x.client (standing g x.client past) x.input ∙ ap (λ (o : Option Outcome). read_by x.input o) (sym is.returned)

parts_own : (g : Group) (me : ℕ) (x : TraceStep) (past : List TraceStep) → x.client ≡ me → parts_of g me (x ∷ past) ≡ parts_of g me past ++ parts_in (answer_taken g past x)
unfolding parts_of
parts_own g me x past e = ap (λ (b : Bool). parts_of g me past ++ (if b then parts_in (answer_taken g past x) else [])) (eq-eqb x.client me e)

parts_other : (g : Group) (me : ℕ) (x : TraceStep) (past : List TraceStep) → (x.client ≡ me → ⊥) → parts_of g me (x ∷ past) ≡ parts_of g me past
unfolding parts_of
parts_other g me x past e = ap (λ (b : Bool). parts_of g me past ++ (if b then parts_in (answer_taken g past x) else [])) (ne_eqb x.client me e) ∙ append-nil (parts_of g me past)

-- ---- a step more

taken_joined : (g : Group) (past : List TraceStep) (x : TraceStep) → IsStep g past x → (me : ℕ) → x.client ≡ me → (s : Stand) → HasTaken g me past s
    → HasTaken g me (x ∷ past) (stand_with (read_by x.input x.returned) s)
taken_joined g past x is me mine s before =
    let m : Option ToClient = read_by x.input x.returned in
    record {
      sealed = with_sealed m s ∙ ap (sealed_by m) (before.sealed ∙ ap (λ (i : ℕ). (standing g i past).sealed) (sym mine))
          ∙ sym (ap (λ (t : Standing). t.sealed) (standing_moved g me x past mine)
          ∙ sealed_taken g x.client (standing g x.client past) x.input (move_of g past x) (step_kind g x.client (standing g x.client past) x.input is.may)
          ∙ ap (λ (a : Option ToClient). sealed_by a (standing g x.client past).sealed) (taken_is is));
      parts = with_parts m s ∙ ap (λ (ts : List (List ℕ)). ts ++ parts_in m) before.parts
          ∙ sym (parts_own g me x past mine ∙ ap (λ (a : Option ToClient). parts_of g me past ++ parts_in a) (took_told g past x is));
    }
  where
    taken_is : IsStep g past x → answer_unless_halted (move_of g past x).next x.input ≡ read_by x.input x.returned
    taken_is j = taken_told g x.client (standing g x.client past) x.input ∙ ap (λ (a : Option Outcome). read_by x.input a) (sym j.returned)

taken_kept : (g : Group) (past : List TraceStep) (x : TraceStep) (me : ℕ) → (x.client ≡ me → ⊥) → (s : Stand) → HasTaken g me past s → HasTaken g me (x ∷ past) s
taken_kept g past x me other s before = record {
  sealed = before.sealed ∙ sym (ap (λ (t : Standing). t.sealed) (standing_kept g me x past other));
  parts = before.parts ∙ sym (parts_other g me x past other);
}

-- ---- what the loop over steps keeps

-- the path is there from the start, and so much was taken
abbrev pub StandsSoFar : Group → ℕ → List TraceStep → List TraceStep → Stand → Type 0
StandsSoFar g me h past s = (s.path ≡ (replayed_path me h).places) × HasTaken g me past s

pub stands_start : (g : Group) (me : ℕ) (h : List TraceStep) (s : Stand) → s.path ≡ (replayed_path me h).places → s.sealed ≡ 0 → s.parts ≡ [] → StandsSoFar g me h [] s
unfolding standing parts_of
stands_start g me h s path sealed parts = (path, record { sealed = sealed; parts = parts })

pub stands_own : (g : Group) (h xs : List TraceStep) (i : ℕ) (x : TraceStep) → i < length xs → x ≡ get_or xs i x → AreSteps g (reverse xs) → (me : ℕ) → x.client ≡ me
    → (s t : Stand) (m : Option ToClient) → StandsSoFar g me h (reverse (take i xs)) s → m ≡ read_by x.input x.returned → t ≡ stand_with m s
    → StandsSoFar g me h (reverse (take (i + 1) xs)) t
stands_own g h xs i x lt is steps me mine s t m before read e =
    let one = (earlier_steps g (reverse (drop (i + 1) xs)) (x ∷ reverse (take i xs)) (steps_then g xs i x lt is steps)).1 in (
      ap (λ (u : Stand). u.path) e ∙ with_path m s ∙ before.0,
      subst (λ (k : List TraceStep). HasTaken g me k t) (sym (newest_step xs i x lt is))
          (subst (HasTaken g me (x ∷ reverse (take i xs))) (sym (e ∙ ap (λ (a : Option ToClient). stand_with a s) read))
          (taken_joined g (reverse (take i xs)) x one me mine s before.1)),
    )

pub stands_other : (g : Group) (h xs : List TraceStep) (i : ℕ) (x : TraceStep) → i < length xs → x ≡ get_or xs i x → (me : ℕ) → (x.client ≡ me → ⊥)
    → (s : Stand) → StandsSoFar g me h (reverse (take i xs)) s → StandsSoFar g me h (reverse (take (i + 1) xs)) s
stands_other g h xs i x lt is me other s before = (
  before.0,
  subst (λ (k : List TraceStep). HasTaken g me k s) (sym (newest_step xs i x lt is)) (taken_kept g (reverse (take i xs)) x me other s before.1),
)

-- ---- all clients

pub all_start : (g : Group) (h : List TraceStep) (all : List Stand) → all ≡ [] → AreStands 0 g h all
all_start g h all e = subst (AreStands 0 g h) (sym e) (record { size = refl; each = λ k lt. absurd (omega arith) })

get_front : (xs ys : List Stand) (k : ℕ) (d : Stand) → k < length xs → get_or (xs ++ ys) k d ≡ get_or xs k d
get_front [] ys k d lt = absurd (omega arith)
get_front (x ∷ xs) ys zero d lt = refl
get_front (x ∷ xs) ys (suc k) d lt = get_front xs ys k d (omega arith)

is_last : (n k : ℕ) → k < n + 1 → (k < n) ⊎ (k ≡ n)
is_last n k lt = grind arith

pub all_more : (g : Group) (h : List TraceStep) (n : ℕ) (all more : List Stand) (s : Stand) → AreStands n g h all → StandsAs g (n + 1) h s → more ≡ all ++ s ∷ [] → AreStands (n + 1) g h more
all_more g h n all more s a one e = subst (AreStands (n + 1) g h) (sym e) (record {
  size = length-append all (s ∷ []) ∙ ap (λ (k : ℕ). k + 1) a.size;
  each = λ k lt. elim (is_last n k lt) [
    | inl low ↦ subst (StandsAs g (k + 1) h) (sym (get_front all (s ∷ []) k no_stand (let l : length all ≡ n = a.size in omega (arith, low)))) (a.each k low)
    | inr same ↦ subst (λ (j : ℕ). StandsAs g (j + 1) h (get_or (all ++ s ∷ []) j no_stand)) (sym same)
        (subst (StandsAs g (n + 1) h) (sym (get_or-append_right all (s ∷ []) n n no_stand a.size (omega arith) ∙ ap (λ (j : ℕ). get_or (s ∷ []) j no_stand) (let z : n - n ≡ 0 = omega arith in z))) one)
  ];
})

same_item : (xs : List Stand) (k : ℕ) (a b : Stand) → k < length xs → get_or xs k a ≡ get_or xs k b
same_item [] k a b lt = absurd (omega arith)
same_item (x ∷ xs) zero a b lt = refl
same_item (x ∷ xs) (suc k) a b lt = same_item xs k a b (omega arith)

-- the client with a number
pub stand_at : (g : Group) (h : List TraceStep) (n : ℕ) (all : List Stand) (k : ℕ) (s : Stand) → AreStands n g h all → k < length all → s ≡ get_or all k s → StandsAs g (k + 1) h s
stand_at g h n all k s a lt is =
    let size : length all ≡ n = a.size in
    subst (StandsAs g (k + 1) h) (same_item all k no_stand s lt ∙ sym is) (a.each k (omega (arith, lt)))
