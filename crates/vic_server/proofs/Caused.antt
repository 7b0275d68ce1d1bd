-- Each answer of the rule has its cause.
use Rattle.std.proofs.Common.{◌≡◌, ℕ, ◌+◌, ◌-◌, ◌<◌, ◌≤◌, Bool, true, false, not, ◌&&◌, ◌||◌, List, [], ◌∷◌, length, min, Option, Some, None, refl, ap, arith, inl, inr, ◌⊎◌, Decides, MatchBool, sym, ◌∙◌}
use Rattle.std.specs.Prelude.{◌↔◌, if◌then◌else◌, nat_eq, nat_lt, nat_le, is_some}
use Rattle.std.proofs.lemmas.Bool.Decides.{Decides-eqb, Decides-ltb, Decides-and, nat_tests}
use Rattle.vic_dict.specs.declared.op.Op.{Op}
use Rattle.vic_dict.specs.declared.op.Op.TheVariants as op
use Rattle.vic_dict.specs.declared.op.Mode.{Mode}
use Rattle.vic_dict.specs.declared.op.Mode.TheVariants as mode
use Rattle.vic_wire.specs.declared.message.ToServer.{ToServer}
use Rattle.vic_wire.specs.declared.message.ToServer.TheVariants as ask
use Rattle.vic_wire.specs.declared.message.ToClient.{ToClient}
use Rattle.vic_wire.specs.declared.message.ToClient.TheVariants as say
use Rattle.vic_wire.specs.Reading.{read_request}
use Rattle.vic_wire.specs.Hashes.{hash}
use Rattle.vic_wire.specs.Texts.{content_text}
use Rattle.vic_wire.specs.Parts.{part_for}
use Rattle.vic_wire.specs.declared.message.Digest32.{Digest32}
use Rattle.vic_dict.specs.Lists.{front}
use Rattle.std.specs.List.{sum_by, find}
use Rattle.std.specs.Str.{bytes_eq}
use Rattle.vic_order.specs.declared.Stage.{Stage}
use Rattle.vic_order.specs.declared.Stage.TheVariants as stage
use Rattle.vic_order.specs.Order.{Ordered, Server, Answered, answer_alone, answer_by_tests, member, size, sealed_count, weight, op_weight, ordered_at, commit_at, with_commit, with_seal, is_ready, is_inside, is_away, is_open_at, is_put, is_member, same_mode, owns_committed, turn_on, turn, top_seal, update_part, answer_with_change, set_stage, on_hello, ordered_next, entries_above, seal_at_position, is_kept, content_with, serve_read, serve}
use Rattle.vic_server.specs.Causes.{IsInside, HasComeIn, IsExpected, IsReady, IsOwnCommitted, IsInOrder, IsOutOfOrder, IsNoMember, IsLogFull, IsPendingFull, IsPut, IsTooHeavy, IsTooFar, OfCall, OfKeep, OfFetch, IsUnknown, IsNotDue, HasNoTurn, IsToWait, Causes}
use Rattle.vic_rules.specs.Objects.{content_hash}
use Rattle.vic_blob.specs.Keeping.{has_hash, kept_under, IsRoom}
use Rattle.vic_server.proofs.Contents.{any_found}

-- ---- what the tests decide

Decides-leb : (a b : ℕ) → Decides (nat_le a b) (a ≤ b)
Decides-leb a b = grind (arith, nat_tests)

ready : (k : Stage) → Decides (is_ready k) (k ≡ stage.Ready)
ready stage.Away = (λ e. absurd cc, λ e. absurd cc)
ready stage.Ready = (λ e. refl, λ e. refl)
ready (stage.Open t) = (λ e. absurd cc, λ e. absurd cc)
ready stage.Left = (λ e. absurd cc, λ e. absurd cc)

away : (k : Stage) → Decides (is_away k) (k ≡ stage.Away)
away stage.Away = (λ e. refl, λ e. refl)
away stage.Ready = (λ e. absurd cc, λ e. absurd cc)
away (stage.Open t) = (λ e. absurd cc, λ e. absurd cc)
away stage.Left = (λ e. absurd cc, λ e. absurd cc)

inside : (k : Stage) → Decides (is_inside k) (IsInside k)
inside stage.Away = (λ e. absurd cc, λ e. absurd e)
inside stage.Ready = (λ e. tt, λ e. refl)
inside (stage.Open t) = (λ e. tt, λ e. refl)
inside stage.Left = (λ e. absurd cc, λ e. absurd e)

open_at : (t : ℕ) (k : Stage) → Decides (is_open_at t k) (k ≡ stage.Open t)
open_at t stage.Away = (λ e. absurd cc, λ e. absurd cc)
open_at t stage.Ready = (λ e. absurd cc, λ e. absurd cc)
open_at t (stage.Open u) = (λ e. ap stage.Open ((Decides-eqb u t).0 e), λ e. let is : u ≡ t = cc in (Decides-eqb u t).1 is)
open_at t stage.Left = (λ e. absurd cc, λ e. absurd cc)

mode_is : (a b : Mode) → Decides (same_mode a b) (a ≡ b)
mode_is mode.Plain mode.Plain = (λ e. refl, λ e. refl)
mode_is mode.Plain mode.Objects = (λ e. absurd cc, λ e. absurd cc)
mode_is mode.Objects mode.Plain = (λ e. absurd cc, λ e. absurd cc)
mode_is mode.Objects mode.Objects = (λ e. refl, λ e. refl)

put : (o : Op) → Decides (is_put o) (IsPut o)
put (op.Put k v) = (λ e. tt, λ e. refl)
put (op.Get k) = (λ e. absurd cc, λ e. absurd e)
put (op.Del k) = (λ e. absurd cc, λ e. absurd e)
put (op.List p) = (λ e. absurd cc, λ e. absurd e)

owned : (who : ℕ) (o : Option Ordered) (status : Option Bool) → Decides (owns_committed who o status) (IsOwnCommitted who o status)
owned who None status = (λ e. absurd cc, λ e. absurd e)
owned who (Some o) None = (λ e. absurd cc, λ e. absurd e)
owned who (Some o) (Some done) = Decides-eqb o.entry.client who

come_in : (s : Server) (who : ℕ) → Decides (is_member s who) (HasComeIn s who)
come_in s who =
    let all = Decides-and (nat_lt 0 who) (nat_le who (length s.members) && is_inside (member s who).stage) (Decides-ltb 0 who)
    (Decides-and (nat_le who (length s.members)) (is_inside (member s who).stage) (Decides-leb who (length s.members)) (inside (member s who).stage)) in
    (λ e. let h = all.0 e in record { some = h.0; within = h.1.0; inside = h.1.1 }, λ h. all.1 (h.some, (h.within, h.inside)))

-- what a test says where it passes, and where it fails
tells : (b : Bool) (P : Type 0) → Decides b P → MatchBool b P (P → ⊥)
tells true P d = d.0 refl
tells false P d = λ h. let wrong : false ≡ true = d.1 h in absurd cc

tells_not : (b : Bool) (F : Type 0) → Decides b F → MatchBool (not b) (F → ⊥) F
tells_not true F d = d.0 refl
tells_not false F d = λ h. let wrong : false ≡ true = d.1 h in absurd cc

tells_most : (n most : ℕ) (b : Bool) → nat_le n most ≡ b → MatchBool b (most < n → ⊥) (most < n)
tells_most n most true e = λ over. omega (arith, (Decides-leb n most).0 e, over)
tells_most n most false e = grind (arith, nat_tests)

tells_weight : (n : ℕ) (o : Op) → MatchBool (not (is_put o) || nat_le n 8388608) (IsPut o × (8388608 < n) → ⊥) (IsPut o × (8388608 < n))
tells_weight n (op.Put k v) = with_put (nat_le n 8388608) (tells_most n 8388608 (nat_le n 8388608) refl)
  where
    with_put : (b : Bool) → MatchBool b (8388608 < n → ⊥) (8388608 < n) → MatchBool b (Unit {0} × (8388608 < n) → ⊥) (Unit {0} × (8388608 < n))
    with_put true h = λ w. h w.1
    with_put false h = (tt, h)
tells_weight n (op.Get k) = λ h. absurd h.0
tells_weight n (op.Del k) = λ h. absurd h.0
tells_weight n (op.List p) = λ h. absurd h.0

-- ---- guarded answers

refused-is : (m n : ℕ) → say.Refused m ≡ say.Refused n → m ≡ n
refused-is m n e = cc

-- neither that contents are too many, nor that one is absent
abbrev HasNone : ToClient → Type 0
HasNone a = (a ≡ say.Refused 7) ⊎ (a ≡ say.Absent) → ⊥

module _ (s : Server) (n : ℕ) (tests : List (ℕ × Bool)) (a : Answered) where
  -- any other answer than the refusal of the first test comes where that test passes
  past : (b : Bool) (P N C : Type 0) (x : ToClient) → MatchBool b P N → (P → N → ⊥) → (say.Refused n ≡ x → ⊥) → ((answer_by_tests s tests a).answer ≡ x) ↔ C
      → ((answer_by_tests s ((n, b) ∷ tests) a).answer ≡ x) ↔ (P × C)
  past true P N C x m apart other inner = (λ e. (m, inner.0 e), λ h. inner.1 h.1)
  past false P N C x m apart other inner = (λ e. absurd (other e), λ h. absurd (apart h.0 m))

  -- the refusal of the first test comes where that test fails
  here : (b : Bool) (P N : Type 0) → MatchBool b P N → (P → N → ⊥) → ((answer_by_tests s tests a).answer ≡ say.Refused n → ⊥) → ((answer_by_tests s ((n, b) ∷ tests) a).answer ≡ say.Refused n) ↔ N
  here true P N m apart none = (λ e. absurd (none e), λ h. absurd (apart m h))
  here false P N m apart none = (λ e. m, λ h. refl)

  -- no test gives the refusal of another number
  clear : (b : Bool) (r : ℕ) → (n ≡ r → ⊥) → ((answer_by_tests s tests a).answer ≡ say.Refused r → ⊥) → (answer_by_tests s ((n, b) ∷ tests) a).answer ≡ say.Refused r → ⊥
  clear true r apart none e = none e
  clear false r apart none e = apart (refused-is n r e)

  -- the refusal of another number is neither; what would come where the test passes is asked for only there
  silent : (b : Bool) (P : Type 0) → Decides b P → (n ≡ 7 → ⊥) → (P → HasNone (answer_by_tests s tests a).answer) → HasNone (answer_by_tests s ((n, b) ∷ tests) a).answer
  silent true P d apart none e = none (d.0 refl) e
  silent false P d apart none (inl e) = apart (refused-is n 7 e)
  silent false P d apart none (inr e) = absurd cc

-- ---- the kinds of requests

-- an answer that is none of the first six refusals
abbrev IsBeyond : ToClient → Type 0
IsBeyond a = (r : ℕ) → r < 7 → a ≡ say.Refused r → ⊥

-- the causes where a request has no limits: P says that it is admitted, Q that it is in order, W that it is to wait, K that contents are
-- too many, and B that one is absent
record Plainly (P Q W K B : Type 0) (a : ToClient) : Type 0 where
  order : (a ≡ say.Refused 5) ↔ (P × (Q → ⊥))
  member : (a ≡ say.Refused 6) ↔ (P → ⊥)
  limits : (r : ℕ) → r < 5 → (a ≡ say.Refused r) ↔ ⊥
  waits : (a ≡ say.Wait) ↔ (P × (Q × W))
  full : (a ≡ say.Refused 7) ↔ (P × (Q × K))
  absent : (a ≡ say.Absent) ↔ (P × (Q × B))

plainly : (s : Server) (b c : Bool) (P Q W K B : Type 0) (a : Answered) → Decides b P → Decides c Q → IsBeyond a.answer → (a.answer ≡ say.Wait) ↔ W
    → (a.answer ≡ say.Refused 7) ↔ K → (a.answer ≡ say.Absent) ↔ B → Plainly P Q W K B (answer_by_tests s ((6, b) ∷ []) (answer_by_tests s ((5, c) ∷ []) a)).answer
plainly s b c P Q W K B a p q beyond w k x =
    let inner : Answered = answer_by_tests s ((5, c) ∷ []) a in
    let no : (P : Type 0) → P → (P → ⊥) → ⊥ = λ P x n. n x in
    record {
      order = past s 6 [] inner b P (P → ⊥) (Q → ⊥) (say.Refused 5) (tells b P p) (no P) (λ e. let is = refused-is 6 5 e in omega (arith, is))
          (here s 5 [] a c Q (Q → ⊥) (tells c Q q) (no Q) (beyond 5 (omega arith)));
      member = here s 6 [] inner b P (P → ⊥) (tells b P p) (no P) (clear s 5 [] a c 6 (λ e. omega (arith, e)) (beyond 6 (omega arith)));
      limits = λ r low. (clear s 6 [] inner b r (λ e. omega (arith, e, low)) (clear s 5 [] a c r (λ e. omega (arith, e, low)) (beyond r (omega (arith, low)))), λ h. absurd h);
      waits = past s 6 [] inner b P (P → ⊥) (Q × W) say.Wait (tells b P p) (no P) (λ e. absurd cc)
          (past s 5 [] a c Q (Q → ⊥) W say.Wait (tells c Q q) (no Q) (λ e. absurd cc) w);
      full = past s 6 [] inner b P (P → ⊥) (Q × K) (say.Refused 7) (tells b P p) (no P) (λ e. let is = refused-is 6 7 e in omega (arith, is))
          (past s 5 [] a c Q (Q → ⊥) K (say.Refused 7) (tells c Q q) (no Q) (λ e. let is = refused-is 5 7 e in omega (arith, is)) k);
      absent = past s 6 [] inner b P (P → ⊥) (Q × B) say.Absent (tells b P p) (no P) (λ e. absurd cc)
          (past s 5 [] a c Q (Q → ⊥) B say.Absent (tells c Q q) (no Q) (λ e. absurd cc) x);
    }

-- an answer that is neither of the two comes from neither cause
never_full : (a : ToClient) → HasNone a → (a ≡ say.Refused 7) ↔ ⊥
never_full a none = (λ e. none (inl e), λ h. absurd h)

never_absent : (a : ToClient) → HasNone a → (a ≡ say.Absent) ↔ ⊥
never_absent a none = (λ e. none (inr e), λ h. absurd h)

never_waits : (a : ToClient) → (a ≡ say.Wait → ⊥) → (a ≡ say.Wait) ↔ ⊥
never_waits a n = (n, λ h. absurd h)

has_none : (a : ToClient) → (a ≡ say.Refused 7 → ⊥) → (a ≡ say.Absent → ⊥) → HasNone a
has_none a full absent (inl e) = full e
has_none a full absent (inr e) = absent e

turn_none : (s : Server) (who : ℕ) (o : Option Ordered) (status : Option Bool) → HasNone (turn_on s who o status)
turn_none s who None status = has_none _ (λ e. absurd cc) (λ e. absurd cc)
turn_none s who (Some o) None = has_none _ (λ e. absurd cc) (λ e. absurd cc)
turn_none s who (Some o) (Some done) = by_owner (nat_eq o.entry.client who)
  where
    by_owner : (b : Bool) → HasNone (if b then say.Update (top_seal s) (update_part s.dictionary o.entry.op done) else say.Wait)
    by_owner true = has_none _ (λ e. absurd cc) (λ e. absurd cc)
    by_owner false = has_none _ (λ e. absurd cc) (λ e. absurd cc)

turn_beyond : (s : Server) (who : ℕ) (o : Option Ordered) (status : Option Bool) → IsBeyond (turn_on s who o status)
turn_beyond s who None status = λ r low e. absurd cc
turn_beyond s who (Some o) None = λ r low e. absurd cc
turn_beyond s who (Some o) (Some done) = λ r low. elim (nat_eq o.entry.client who) as (λ b. (if b then say.Update (top_seal s) (update_part s.dictionary o.entry.op done) else say.Wait) ≡ say.Refused r → ⊥) [
  | true ↦ λ e. absurd cc
  | false ↦ λ e. absurd cc
]

turn_waits : (s : Server) (who : ℕ) (o : Option Ordered) (status : Option Bool) → (turn_on s who o status ≡ say.Wait) ↔ IsNotDue who o status
turn_waits s who None status = (λ e. tt, λ h. refl)
turn_waits s who (Some o) None = (λ e. tt, λ h. refl)
turn_waits s who (Some o) (Some done) = by_owner (nat_eq o.entry.client who) (Decides-eqb o.entry.client who)
  where
    by_owner : (b : Bool) → Decides b (o.entry.client ≡ who) → ((if b then say.Update (top_seal s) (update_part s.dictionary o.entry.op done) else say.Wait) ≡ say.Wait) ↔ (o.entry.client ≡ who → ⊥)
    by_owner true d = (λ e. absurd cc, λ h. absurd (h (d.0 refl)))
    by_owner false d = (λ e is. let wrong : false ≡ true = d.1 is in absurd cc, λ h. refl)

-- what a Keep and a Fetch that are in order are answered
abbrev kept_or_full : Server → List ℕ → Answered
kept_or_full s content =
    if is_kept s.contents (hash (content_text content)) then answer_alone s say.Kept
    else answer_by_tests s ((7, not (nat_le 1048576 (length s.contents)) && nat_le (sum_by length s.contents + length content) 1073741824) ∷ [])
    (answer_with_change (record s { contents = content ∷ s.contents }) say.Kept)

keep_answers : (C : ToClient → Type 0) (s : Server) (content : List ℕ) → C say.Kept → C (say.Refused 7) → C (kept_or_full s content).answer
keep_answers C s content kept full = by_tests (is_kept s.contents (hash (content_text content))) (not (nat_le 1048576 (length s.contents)) && nat_le (sum_by length s.contents + length content) 1073741824)
  where
    by_tests : (b c : Bool) → C (if b then answer_alone s say.Kept else answer_by_tests s ((7, c) ∷ []) (answer_with_change (record s { contents = content ∷ s.contents }) say.Kept)).answer
    by_tests true c = kept
    by_tests false true = kept
    by_tests false false = full

keep_beyond : (s : Server) (content : List ℕ) → IsBeyond (kept_or_full s content).answer
keep_beyond s content = keep_answers IsBeyond s content (λ r low e. absurd cc) (λ r low e. let is = refused-is 7 r e in omega (arith, is, low))

keep_goes : (s : Server) (content : List ℕ) → (kept_or_full s content).answer ≡ say.Wait → ⊥
keep_goes s content = keep_answers (λ a. a ≡ say.Wait → ⊥) s content (λ e. absurd cc) (λ e. absurd cc)

-- no content has the hash of this one, and there is no room for it
abbrev HasNoRoom : Server → List ℕ → Type 0
HasNoRoom s content = IsUnknown s (content_hash content) × (IsRoom s.contents content → ⊥)

known : (s : Server) (h : List ℕ) → Decides (not (is_kept s.contents h)) (IsUnknown s h)
known s h = by_found (find (has_hash h) s.contents) (any_found (has_hash h) s.contents)
  where
    by_found : (o : Option (List ℕ)) → is_kept s.contents h ≡ is_some o → Decides (not (is_kept s.contents h)) (o ≡ None)
    by_found None e = (λ x. refl, λ x. ap not e)
    by_found (Some c) e = (λ x. let wrong : not (is_some (Some c)) ≡ true = sym (ap not e) ∙ x in absurd cc, λ x. absurd cc)

room : (s : Server) (content : List ℕ) → Decides (not (nat_le 1048576 (length s.contents)) && nat_le (sum_by length s.contents + length content) 1073741824) (IsRoom s.contents content)
room s content = Decides-and (not (nat_le 1048576 (length s.contents))) (nat_le (sum_by length s.contents + length content) 1073741824) below (Decides-leb (sum_by length s.contents + length content) 1073741824)
  where
    below : Decides (not (nat_le 1048576 (length s.contents))) (length s.contents < 1048576)
    below = (λ e. grind (arith, nat_tests), λ h. grind (arith, nat_tests))

keep_full : (s : Server) (content : List ℕ) → ((kept_or_full s content).answer ≡ say.Refused 7) ↔ HasNoRoom s content
keep_full s content = by_tests (is_kept s.contents (hash (content_text content))) (not (nat_le 1048576 (length s.contents)) && nat_le (sum_by length s.contents + length content) 1073741824)
    (known s (content_hash content)) (room s content)
  where
    by_tests : (b c : Bool) → Decides (not b) (IsUnknown s (content_hash content)) → Decides c (IsRoom s.contents content)
        → ((if b then answer_alone s say.Kept else answer_by_tests s ((7, c) ∷ []) (answer_with_change (record s { contents = content ∷ s.contents }) say.Kept)).answer ≡ say.Refused 7) ↔ HasNoRoom s content
    by_tests true c n r = (λ e. absurd cc, λ h. let wrong : not true ≡ true = n.1 h.0 in absurd cc)
    by_tests false true n r = (λ e. absurd cc, λ h. absurd (h.1 (r.0 refl)))
    by_tests false false n r = (λ e. (n.0 refl, λ h. let wrong : false ≡ true = r.1 h in absurd cc), λ h. refl)

keep_present : (s : Server) (content : List ℕ) → (kept_or_full s content).answer ≡ say.Absent → ⊥
keep_present s content = keep_answers (λ a. a ≡ say.Absent → ⊥) s content (λ e. absurd cc) (λ e. absurd cc)

fetch_answers : (C : ToClient → Type 0) (contents : List (List ℕ)) (h : List ℕ) → ((c : List ℕ) → C (say.Content c)) → C say.Absent → C (content_with contents h)
fetch_answers C contents h some none = by_found (find (λ c. bytes_eq (hash (content_text c)) h) contents)
  where
    by_found : (o : Option (List ℕ)) → C (elim o [ Some c ↦ say.Content c | None ↦ say.Absent ])
    by_found (Some c) = some c
    by_found None = none

fetch_beyond : (contents : List (List ℕ)) (h : List ℕ) → IsBeyond (content_with contents h)
fetch_beyond contents h = fetch_answers IsBeyond contents h (λ c r low e. absurd cc) (λ r low e. absurd cc)

fetch_goes : (contents : List (List ℕ)) (h : List ℕ) → content_with contents h ≡ say.Wait → ⊥
fetch_goes contents h = fetch_answers (λ a. a ≡ say.Wait → ⊥) contents h (λ c e. absurd cc) (λ e. absurd cc)

fetch_room : (contents : List (List ℕ)) (h : List ℕ) → content_with contents h ≡ say.Refused 7 → ⊥
fetch_room contents h = fetch_answers (λ a. a ≡ say.Refused 7 → ⊥) contents h (λ c e. absurd cc) (λ e. absurd cc)

fetch_absent : (contents : List (List ℕ)) (h : List ℕ) → (content_with contents h ≡ say.Absent) ↔ (kept_under contents h ≡ None)
fetch_absent contents h = by_found (find (has_hash h) contents)
  where
    by_found : (o : Option (List ℕ)) → ((elim o [ Some c ↦ say.Content c | None ↦ say.Absent ]) ≡ say.Absent) ↔ (o ≡ None)
    by_found (Some c) = (λ e. absurd cc, λ e. absurd cc)
    by_found None = (λ e. refl, λ e. refl)

joined : {A B C : Type 0} → A ↔ B → B ↔ C → A ↔ C
joined h k = (λ x. k.0 (h.0 x), λ z. h.1 (k.1 z))

same : {A : Type 0} → A ↔ A
same = (λ x. x, λ x. x)

-- nothing waits
stays : {P Q : Type 0} → (P × (Q × ⊥)) ↔ ⊥
stays = (λ h. h.1.1, λ n. absurd n)

-- what is plain of a request that is no call are its causes
of_plain : (s : Server) (who : ℕ) (m : ToServer) (a : ToClient) (Q W K B : Type 0) → Plainly (HasComeIn s who) Q W K B a
    → (HasComeIn s who × (Q → ⊥)) ↔ IsOutOfOrder s who (Some m) → (HasComeIn s who → ⊥) ↔ IsNoMember s who (Some m) → ((F : ℕ → Op → Type 0) → OfCall s who (Some m) F → ⊥)
    → (HasComeIn s who × (Q × W)) ↔ IsToWait s who (Some m)
    → (HasComeIn s who × (Q × K)) ↔ OfKeep s who (Some m) (λ content. HasNoRoom s content) → (HasComeIn s who × (Q × B)) ↔ OfFetch s who (Some m) (IsUnknown s) → Causes s who (Some m) a
of_plain s who m a Q W K B p order member none waits full absent =
    let limit : (r : ℕ) → r < 5 → (F : ℕ → Op → Type 0) → (a ≡ say.Refused r) ↔ OfCall s who (Some m) F = λ r low F. joined (p.limits r low) (λ n. absurd n, none F) in
    record {
      out_of_order = joined p.order order;
      no_member = joined p.member member;
      log_full = limit 4 (omega arith) _;
      pending_full = limit 2 (omega arith) _;
      too_heavy = limit 3 (omega arith) _;
      too_far = limit 1 (omega arith) _;
      waits = joined p.waits waits;
      full = joined p.full full;
      absent = joined p.absent absent;
    }

expected : (s : Server) (kind : Mode) (client : ℕ) → Decides (nat_lt 0 client && (nat_le client (length s.members) && (same_mode kind s.mode && is_away (member s client).stage))) (IsExpected s kind client)
expected s kind client =
    let all = Decides-and (nat_lt 0 client) _ (Decides-ltb 0 client)
    (Decides-and (nat_le client (length s.members)) _ (Decides-leb client (length s.members)) (Decides-and (same_mode kind s.mode) _ (mode_is kind s.mode) (away (member s client).stage))) in
    (λ e. let h = all.0 e in record { some = h.0; within = h.1.0; mode = h.1.1.0; away = h.1.1.1 }, λ h. all.1 (h.some, (h.within, (h.mode, h.away))))

hello_caused : (s : Server) (who : ℕ) (kind : Mode) (client : ℕ) → Causes s who (Some (ask.Hello kind client)) (on_hello s who kind client).answer
hello_caused s who kind client =
    let first : Bool = nat_eq who 0 in
    let member : Bool = nat_lt 0 client && (nat_le client (length s.members) && (same_mode kind s.mode && is_away (member s client).stage)) in
    let hi : Answered = answer_with_change (set_stage s client stage.Ready) say.Hi in
    let no : (P : Type 0) → P → (P → ⊥) → ⊥ = λ P x n. n x in
    let rest : List (ℕ × Bool) = (6, member) ∷ [] in
    let first_tells = tells first (who ≡ 0) (Decides-eqb who 0) in
    let never : (r : ℕ) → r < 5 → (answer_by_tests s ((5, first) ∷ rest) hi).answer ≡ say.Refused r → ⊥ = λ r low.
    clear s 5 rest hi first r (λ e. omega (arith, e, low)) (clear s 6 [] hi member r (λ e. omega (arith, e, low)) (λ e. absurd cc)) in
    let limit : (r : ℕ) → r < 5 → ((answer_by_tests s ((5, first) ∷ rest) hi).answer ≡ say.Refused r) ↔ ⊥ = λ r low. (never r low, λ n. absurd n) in
    let waits = past s 5 rest hi first (who ≡ 0) (who ≡ 0 → ⊥) _ say.Wait first_tells (no _) (λ e. absurd cc)
    (past s 6 [] hi member (IsExpected s kind client) (IsExpected s kind client → ⊥) ⊥ say.Wait (tells member _ (expected s kind client)) (no _) (λ e. absurd cc) (λ e. absurd cc, λ n. absurd n)) in
    let none : HasNone (answer_by_tests s ((5, first) ∷ rest) hi).answer = silent s 5 rest hi first (who ≡ 0) (Decides-eqb who 0) (λ e. omega (arith, e)) (λ h. silent s 6 [] hi member _ (expected s kind client) (λ e. omega (arith, e)) (λ h. has_none _ (λ e. absurd cc) (λ e. absurd cc))) in
    record {
      out_of_order = here s 5 rest hi first (who ≡ 0) (who ≡ 0 → ⊥) first_tells (no _) (clear s 6 [] hi member 5 (λ e. omega (arith, e)) (λ e. absurd cc));
      no_member = past s 5 rest hi first (who ≡ 0) (who ≡ 0 → ⊥) (IsExpected s kind client → ⊥) (say.Refused 6) first_tells (no _) (λ e. let is = refused-is 5 6 e in omega (arith, is))
          (here s 6 [] hi member (IsExpected s kind client) (IsExpected s kind client → ⊥) (tells member _ (expected s kind client)) (no _) (λ e. absurd cc));
      log_full = limit 4 (omega arith);
      pending_full = limit 2 (omega arith);
      too_heavy = limit 3 (omega arith);
      too_far = limit 1 (omega arith);
      waits = joined waits stays;
      full = never_full _ none;
      absent = never_absent _ none;
    }

-- a call
invoke_caused : (s : Server) (who known seq : ℕ) (o : Op) (tag : Digest32) → Causes s who (Some (ask.Invoke known seq o tag)) (serve_read s who (Some (ask.Invoke known seq o tag))).answer
invoke_caused s who known seq o tag =
    let next : Server = ordered_next s who seq o tag in
    let a : Answered = answer_with_change next (say.Reply (top_seal s) (entries_above known next.log) (part_for s.dictionary o)) in
    let k5 : Bool = is_ready (member s who).stage && (nat_lt (member s who).last seq && nat_le known (size s)) in
    let k4 : Bool = not (nat_eq (size s) 1048576) in
    let k2 : Bool = not (nat_eq (size s - sealed_count s) 1024) in
    let k3 : Bool = not (is_put o) || nat_le (weight s + op_weight o) 8388608 in
    let k1 : Bool = nat_le (size s + 1 - known) 8192 in
    let t1 : List (ℕ × Bool) = (1, k1) ∷ [] in
    let t3 : List (ℕ × Bool) = (3, k3) ∷ t1 in
    let t2 : List (ℕ × Bool) = (2, k2) ∷ t3 in
    let t4 : List (ℕ × Bool) = (4, k4) ∷ t2 in
    let t5 : List (ℕ × Bool) = (5, k5) ∷ t4 in
    let inner : Answered = answer_by_tests s t5 a in
    let P : Type 0 = HasComeIn s who in
    let Q : Type 0 = IsInOrder s who (ask.Invoke known seq o tag) in
    let L : Type 0 = IsLogFull s in
    let U : Type 0 = IsPendingFull s in
    let H : Type 0 = IsTooHeavy s o in
    let F : Type 0 = IsTooFar s known in
    let no : (X : Type 0) → X → (X → ⊥) → ⊥ = λ X x n. n x in
    let on : (X : Type 0) → (X → ⊥) → X → ⊥ = λ X n x. n x in
    let m6 = tells (is_member s who) P (come_in s who) in
    let m5 = tells k5 Q (Decides-and (is_ready (member s who).stage) _ (ready (member s who).stage) (Decides-and (nat_lt (member s who).last seq) _ (Decides-ltb (member s who).last seq) (Decides-leb known (size s)))) in
    let m4 = tells_not (nat_eq (size s) 1048576) L (Decides-eqb (size s) 1048576) in
    let m2 = tells_not (nat_eq (size s - sealed_count s) 1024) U (Decides-eqb (size s - sealed_count s) 1024) in
    let m3 = tells_weight (weight s + op_weight o) o in
    let m1 = tells_most (size s + 1 - known) 8192 k1 refl in
    let other : (n r : ℕ) → (n ≡ r → ⊥) → say.Refused n ≡ say.Refused r → ⊥ = λ n r apart e. apart (refused-is n r e) in
    let clear1 : (r : ℕ) → (1 ≡ r → ⊥) → (answer_by_tests s t1 a).answer ≡ say.Refused r → ⊥ = λ r x1. clear s 1 [] a k1 r x1 (λ e. absurd cc) in
    let clear3 : (r : ℕ) → (1 ≡ r → ⊥) → (3 ≡ r → ⊥) → (answer_by_tests s t3 a).answer ≡ say.Refused r → ⊥ = λ r x1 x3. clear s 3 t1 a k3 r x3 (clear1 r x1) in
    let clear2 : (r : ℕ) → (1 ≡ r → ⊥) → (3 ≡ r → ⊥) → (2 ≡ r → ⊥) → (answer_by_tests s t2 a).answer ≡ say.Refused r → ⊥ = λ r x1 x3 x2. clear s 2 t3 a k2 r x2 (clear3 r x1 x3) in
    let clear4 : (r : ℕ) → (1 ≡ r → ⊥) → (3 ≡ r → ⊥) → (2 ≡ r → ⊥) → (4 ≡ r → ⊥) → (answer_by_tests s t4 a).answer ≡ say.Refused r → ⊥ = λ r x1 x3 x2 x4. clear s 4 t2 a k4 r x4 (clear2 r x1 x3 x2) in
    let after6 : (C : Type 0) (x : ToClient) → (say.Refused 6 ≡ x → ⊥) → (inner.answer ≡ x) ↔ C → ((answer_by_tests s ((6, is_member s who) ∷ []) inner).answer ≡ x) ↔ (P × C) = λ C x. past s 6 [] inner (is_member s who) P (P → ⊥) C x m6 (no P) in
    let after5 : (C : Type 0) (x : ToClient) → (say.Refused 5 ≡ x → ⊥) → ((answer_by_tests s t4 a).answer ≡ x) ↔ C → (inner.answer ≡ x) ↔ (Q × C) = λ C x. past s 5 t4 a k5 Q (Q → ⊥) C x m5 (no Q) in
    let after4 : (C : Type 0) (x : ToClient) → (say.Refused 4 ≡ x → ⊥) → ((answer_by_tests s t2 a).answer ≡ x) ↔ C → ((answer_by_tests s t4 a).answer ≡ x) ↔ ((L → ⊥) × C) = λ C x. past s 4 t2 a k4 (L → ⊥) L C x m4 (on L) in
    let after2 : (C : Type 0) (x : ToClient) → (say.Refused 2 ≡ x → ⊥) → ((answer_by_tests s t3 a).answer ≡ x) ↔ C → ((answer_by_tests s t2 a).answer ≡ x) ↔ ((U → ⊥) × C) = λ C x. past s 2 t3 a k2 (U → ⊥) U C x m2 (on U) in
    let after3 : (C : Type 0) (x : ToClient) → (say.Refused 3 ≡ x → ⊥) → ((answer_by_tests s t1 a).answer ≡ x) ↔ C → ((answer_by_tests s t3 a).answer ≡ x) ↔ ((H → ⊥) × C) = λ C x. past s 3 t1 a k3 (H → ⊥) H C x m3 (on H) in
    let none : HasNone (answer_by_tests s ((6, is_member s who) ∷ []) inner).answer = passed (is_member s who) 6 [] inner (λ e. omega (arith, e)) (passed k5 5 t4 a (λ e. omega (arith, e)) (passed k4 4 t2 a (λ e. omega (arith, e)) (passed k2 2 t3 a (λ e. omega (arith, e))
    (passed k3 3 t1 a (λ e. omega (arith, e)) (passed k1 1 [] a (λ e. omega (arith, e)) (has_none _ (λ e. absurd cc) (λ e. absurd cc))))))) in
    record {
      out_of_order = after6 (Q → ⊥) (say.Refused 5) (other 6 5 (λ i. omega arith)) (here s 5 t4 a k5 Q (Q → ⊥) m5 (no Q) (clear4 5 (λ i. omega arith) (λ i. omega arith) (λ i. omega arith) (λ i. omega arith)));
      no_member = here s 6 [] inner (is_member s who) P (P → ⊥) m6 (no P) (clear s 5 t4 a k5 6 (λ i. omega arith) (clear4 6 (λ i. omega arith) (λ i. omega arith) (λ i. omega arith) (λ i. omega arith)));
      log_full = after6 _ _ (other 6 4 (λ i. omega arith)) (after5 _ _ (other 5 4 (λ i. omega arith)) (here s 4 t2 a k4 (L → ⊥) L m4 (on L) (clear2 4 (λ i. omega arith) (λ i. omega arith) (λ i. omega arith))));
      pending_full = after6 _ _ (other 6 2 (λ i. omega arith)) (after5 _ _ (other 5 2 (λ i. omega arith)) (after4 _ _ (other 4 2 (λ i. omega arith)) (here s 2 t3 a k2 (U → ⊥) U m2 (on U) (clear3 2 (λ i. omega arith) (λ i. omega arith)))));
      too_heavy = after6 _ _ (other 6 3 (λ i. omega arith)) (after5 _ _ (other 5 3 (λ i. omega arith)) (after4 _ _ (other 4 3 (λ i. omega arith)) (after2 _ _ (other 2 3 (λ i. omega arith)) (here s 3 t1 a k3 (H → ⊥) H m3 (on H) (clear1 3 (λ i. omega arith))))));
      too_far = after6 _ _ (other 6 1 (λ i. omega arith)) (after5 _ _ (other 5 1 (λ i. omega arith)) (after4 _ _ (other 4 1 (λ i. omega arith)) (after2 _ _ (other 2 1 (λ i. omega arith)) (after3 _ _ (other 3 1 (λ i. omega arith)) (here s 1 [] a k1 (F → ⊥) F m1 (on F) (λ e. absurd cc))))));
      waits = (λ e. no_wait (is_member s who) k5 k4 k2 k3 k1 e, λ n. absurd n);
      full = never_full _ none;
      absent = never_absent _ none;
    }
  where
    passed : (b : Bool) (n : ℕ) (tests : List (ℕ × Bool)) (a : Answered) → (n ≡ 7 → ⊥) → HasNone (answer_by_tests s tests a).answer → HasNone (answer_by_tests s ((n, b) ∷ tests) a).answer
    passed b n tests a apart none = silent s n tests a b (b ≡ true) (λ e. e, λ h. h) apart (λ h. none)

    no_wait : (b6 b5 b4 b2 b3 b1 : Bool) → (answer_by_tests s ((6, b6) ∷ []) (answer_by_tests s ((5, b5) ∷ (4, b4) ∷ (2, b2) ∷ (3, b3) ∷ (1, b1) ∷ [])
        (answer_with_change (ordered_next s who seq o tag) (say.Reply (top_seal s) (entries_above known (ordered_next s who seq o tag).log) (part_for s.dictionary o))))).answer ≡ say.Wait → ⊥
    no_wait false b5 b4 b2 b3 b1 e = absurd cc
    no_wait true false b4 b2 b3 b1 e = absurd cc
    no_wait true true false b2 b3 b1 e = absurd cc
    no_wait true true true false b3 b1 e = absurd cc
    no_wait true true true true false b1 e = absurd cc
    no_wait true true true true true false e = absurd cc
    no_wait true true true true true true e = absurd cc

-- ---- every request

pub caused : (s : Server) (who : ℕ) (request : Option ToServer) → Causes s who request (serve_read s who request).answer
caused s who None = record {
  out_of_order = (λ e. tt, λ h. refl);
  no_member = (λ e. let is = refused-is 5 6 e in omega (arith, is), λ h. absurd h);
  log_full = (λ e. let is = refused-is 5 4 e in omega (arith, is), λ h. absurd h);
  pending_full = (λ e. let is = refused-is 5 2 e in omega (arith, is), λ h. absurd h);
  too_heavy = (λ e. let is = refused-is 5 3 e in omega (arith, is), λ h. absurd h);
  too_far = (λ e. let is = refused-is 5 1 e in omega (arith, is), λ h. absurd h);
  waits = (λ e. absurd cc, λ h. absurd h);
  full = (λ e. let is = refused-is 5 7 e in omega (arith, is), λ h. absurd h);
  absent = (λ e. absurd cc, λ h. absurd h);
}
caused s who (Some (ask.Hello kind client)) = hello_caused s who kind client
caused s who (Some (ask.Invoke known seq o tag)) = invoke_caused s who known seq o tag
caused s who (Some (ask.Commit position done tag)) =
    let next : Server = set_stage (with_commit s position done tag) who stage.Ready in
    let k : Bool = is_open_at position (member s who).stage in
    let owner = ordered_at next (sealed_count next + 1) in
    let status = commit_at next (sealed_count next + 1) in
    of_plain s who (ask.Commit position done tag) _ ((member s who).stage ≡ stage.Open position) (HasNoTurn (with_commit s position done tag) who) ⊥ ⊥
    (plainly s (is_member s who) k (HasComeIn s who) _ _ _ _ (answer_with_change next (turn next who)) (come_in s who) (open_at position (member s who).stage) (turn_beyond next who owner status) (turn_waits next who owner status) (never_full _ (turn_none next who owner status)) (never_absent _ (turn_none next who owner status)))
    same same (λ F h. h) same stays stays
caused s who (Some ask.Poll) =
    let owner = ordered_at s (sealed_count s + 1) in
    let status = commit_at s (sealed_count s + 1) in
    of_plain s who ask.Poll _ (IsReady s who) (HasNoTurn s who) ⊥ ⊥
    (plainly s (is_member s who) (is_ready (member s who).stage) (HasComeIn s who) _ _ _ _ (answer_alone s (turn s who)) (come_in s who) (ready (member s who).stage) (turn_beyond s who owner status) (turn_waits s who owner status) (never_full _ (turn_none s who owner status)) (never_absent _ (turn_none s who owner status)))
    same same (λ F h. h) same stays stays
caused s who (Some (ask.Seal position root tag)) =
    let next : Server = with_seal s (record { position = position; root = root; tag = tag }) in
    let owner = ordered_at next (sealed_count next + 1) in
    let status = commit_at next (sealed_count next + 1) in
    let k : Bool = is_ready (member s who).stage && (nat_eq position (sealed_count s + 1) && owns_committed who (ordered_at s position) (commit_at s position)) in
    let d = Decides-and (is_ready (member s who).stage) _ (ready (member s who).stage)
    (Decides-and (nat_eq position (sealed_count s + 1)) _ (Decides-eqb position (sealed_count s + 1)) (owned who (ordered_at s position) (commit_at s position))) in
    of_plain s who (ask.Seal position root tag) _ (IsInOrder s who (ask.Seal position root tag)) (HasNoTurn next who) ⊥ ⊥
    (plainly s (is_member s who) k (HasComeIn s who) _ _ _ _ (answer_with_change next (turn next who)) (come_in s who) d (turn_beyond next who owner status) (turn_waits next who owner status) (never_full _ (turn_none next who owner status)) (never_absent _ (turn_none next who owner status)))
    same same (λ F h. h) same stays stays
caused s who (Some (ask.Sync known)) =
    let k : Bool = is_ready (member s who).stage && nat_le known (size s) in
    let end = min (size s) (known + 8192) in
    let a : Answered = answer_alone s (say.Entries (seal_at_position s (min (sealed_count s) end)) (entries_above known (front end s.log))) in
    of_plain s who (ask.Sync known) _ (IsInOrder s who (ask.Sync known)) ⊥ ⊥ ⊥
    (plainly s (is_member s who) k (HasComeIn s who) _ _ _ _ a (come_in s who) (Decides-and (is_ready (member s who).stage) _ (ready (member s who).stage) (Decides-leb known (size s))) (λ r low e. absurd cc) (never_waits _ (λ e. absurd cc)) (never_full _ (has_none _ (λ e. absurd cc) (λ e. absurd cc))) (never_absent _ (has_none _ (λ e. absurd cc) (λ e. absurd cc))))
    same same (λ F h. h) stays stays stays
caused s who (Some (ask.Keep content)) =
    let k : Bool = is_ready (member s who).stage && same_mode s.mode mode.Objects in
    of_plain s who (ask.Keep content) _ (IsInOrder s who (ask.Keep content)) ⊥ (HasNoRoom s content) ⊥
    (plainly s (is_member s who) k (HasComeIn s who) _ _ _ _ (kept_or_full s content) (come_in s who) (Decides-and (is_ready (member s who).stage) _ (ready (member s who).stage) (mode_is s.mode mode.Objects)) (keep_beyond s content) (never_waits _ (keep_goes s content)) (keep_full s content) (keep_present s content, λ n. absurd n))
    same same (λ F h. h) stays same stays
caused s who (Some (ask.Fetch h)) =
    let k : Bool = is_ready (member s who).stage && same_mode s.mode mode.Objects in
    of_plain s who (ask.Fetch h) _ (IsInOrder s who (ask.Fetch h)) ⊥ ⊥ (IsUnknown s h.bytes)
    (plainly s (is_member s who) k (HasComeIn s who) _ _ _ _ (answer_alone s (content_with s.contents h.bytes)) (come_in s who) (Decides-and (is_ready (member s who).stage) _ (ready (member s who).stage) (mode_is s.mode mode.Objects)) (fetch_beyond s.contents h.bytes) (never_waits _ (fetch_goes s.contents h.bytes)) (fetch_room s.contents h.bytes, λ n. absurd n) (fetch_absent s.contents h.bytes))
    same same (λ F x. x) stays stays same
caused s who (Some ask.Bye) =
    of_plain s who ask.Bye _ (IsReady s who) ⊥ ⊥ ⊥
    (plainly s (is_member s who) (is_ready (member s who).stage) (HasComeIn s who) _ _ _ _ (answer_with_change (set_stage s who stage.Left) say.Gone) (come_in s who) (ready (member s who).stage) (λ r low e. absurd cc) (never_waits _ (λ e. absurd cc)) (never_full _ (has_none _ (λ e. absurd cc) (λ e. absurd cc))) (never_absent _ (has_none _ (λ e. absurd cc) (λ e. absurd cc))))
    same same (λ F h. h) stays stays stays

pub caused_served : (s : Server) (who : ℕ) (payload : List ℕ) → Causes s who (read_request payload) (serve s who payload).answer
unfolding serve
caused_served s who payload = caused s who (read_request payload)
