-- How much a client has sent, and how much it may still send for what it was asked.
use Rattle.std.specs.Prelude.{◌≡◌, ℕ, ◌+◌, ◌*◌, ◌≤◌, Bool, true, false, if◌then◌else◌, List, [], ◌∷◌, ◌++◌, length, Option, Some, None, nat_eq}
use Rattle.std.proofs.Common.{refl, ap, subst, sym, ◌∙◌, inl, inr, arith, true≢false}
use Rattle.std.proofs.lemmas.List.{length-append}
use Rattle.std.proofs.lemmas.Bool.{and_parts, cases_eq, eq-eqb, ne_eqb}
use Rattle.vic_dict.specs.declared.op.Op.{Op}
use Rattle.vic_dict.specs.declared.op.Op.TheVariants as op
use Rattle.vic_dict.specs.declared.op.Entry.{Entry}
use Rattle.vic_dict.specs.declared.op.Answer.TheVariants as answer
use Rattle.vic_dict.specs.declared.op.Outcome.{Outcome}
use Rattle.vic_dict.specs.declared.op.Outcome.TheVariants as outcome
use Rattle.vic_dict.specs.Lists.{AreBytes}
use Rattle.vic_wire.specs.declared.message.Digest32.{Digest32}
use Rattle.vic_wire.specs.declared.message.Seal.{Seal}
use Rattle.vic_wire.specs.declared.message.ToClient.{ToClient}
use Rattle.vic_wire.specs.declared.message.ToClient.TheVariants as say
use Rattle.vic_wire.specs.Hashes.{Group}
use Rattle.vic_wire.specs.Parts.{Part, read_part}
use Rattle.vic_wire.specs.Reading.{read_answer}
use Rattle.vic_spellings.proofs.SpelledAnswers.{answer_fits}
use Rattle.vic_rules.specs.declared.object.ObjectCall.{ObjectCall}
use Rattle.vic_rules.specs.declared.object.ObjectCall.TheVariants as object
use Rattle.vic_rules.specs.declared.object.Phase.{Phase}
use Rattle.vic_rules.specs.declared.object.Phase.TheVariants as phase
use Rattle.vic_rules.specs.declared.object.Next.{Next}
use Rattle.vic_rules.specs.declared.state.Own.{Own}
use Rattle.vic_rules.specs.declared.state.Awaiting.{Awaiting}
use Rattle.vic_rules.specs.declared.state.Awaiting.TheVariants as awaits
use Rattle.vic_rules.specs.declared.trace.Input.{Input}
use Rattle.vic_rules.specs.declared.trace.Input.TheVariants as input
use Rattle.vic_rules.specs.declared.trace.TraceStep.{TraceStep}
use Rattle.vic_rules.specs.Objects.{is_reference, hash_in, length_in, first_step, step_on_kept, after_decision, ObjectStep}
use Rattle.vic_rules.specs.Client.{Standing, Move, Sending, move_by_object_step, move_on_wait, move_on_refusal, move_on_reply, move_on_update, move_to_halt, is_load, is_awaited, is_done, decision, MayStep, move_on_answer, move_on_verdict, move_on_payload, step, verdict, verdict_on, path_with_entries, payload_of}
use Rattle.vic_rules.specs.History.{standing, move_of, IsStep, AreSteps}
use Rattle.vic_laws.specs.CountClaims.{sent_one, sendings, asked_other, others_asked, SendsAreFew}
use Rattle.vic_laws.proofs.Steps.{Passes}
use Rattle.vic_laws.proofs.StepKinds.{all_passed, awaits_update, awaits_entries}
use Rattle.vic_laws.proofs.Standings.{standing_moved, standing_kept}
use Rattle.vic_laws.proofs.Phases.{wait_awaited, idle_nothing}
use Rattle.vic_laws.proofs.Contents.{decision_found}
use Rattle.vic_laws.specs.AskedClaims.{calls_made}
use Rattle.vic_laws.proofs.Asked.{calls_are_made}

-- a call that is open may still send its Commit and its Seal
abbrev pub for_reply : Awaiting → ℕ
for_reply (awaits.Reply n o load) = 2
for_reply awaits.Nothing = 0
for_reply awaits.Turn = 0
for_reply awaits.Entries = 0
for_reply awaits.Kept = 0
for_reply (awaits.Content h len) = 0

-- a get may find a reference
abbrev pub for_get : Op → ℕ
for_get (op.Get k) = 1
for_get (op.Put k v) = 0
for_get (op.Del k) = 0
for_get (op.List p) = 0

-- a call on objects may still send its Fetch
abbrev pub for_fetch : Phase → Awaiting → ℕ
for_fetch phase.Closed a = 0
for_fetch (phase.Keeping k h len) a = 0
for_fetch phase.Calling (awaits.Reply n o load) = for_get o
for_fetch phase.Calling awaits.Nothing = 0
for_fetch phase.Calling awaits.Turn = 0
for_fetch phase.Calling awaits.Entries = 0
for_fetch phase.Calling awaits.Kept = 0
for_fetch phase.Calling (awaits.Content h len) = 0
for_fetch (phase.Fetching h len) (awaits.Content g l) = 0
for_fetch (phase.Fetching h len) (awaits.Reply n o load) = 1
for_fetch (phase.Fetching h len) awaits.Nothing = 1
for_fetch (phase.Fetching h len) awaits.Turn = 1
for_fetch (phase.Fetching h len) awaits.Entries = 1
for_fetch (phase.Fetching h len) awaits.Kept = 1

-- what a client may still send for what it was asked: each own unsealed call its Seal
abbrev pub balance : Standing → ℕ
balance s = for_reply s.awaiting + length s.own + for_fetch s.phase s.awaiting

abbrev pub sends_one : Option Sending → ℕ
sends_one None = 0
sends_one (Some x) = 1

-- a step sends no more than what it was asked for and what was left pay
abbrev pub Pays : Standing → Input → Move → Type 0
Pays s i v = sends_one v.sends + balance v.next + 3 * s.calls ≤ asked_other i + balance s + 3 * v.next.calls

pays_halt : (s : Standing) (i : Input) (k : ℕ) → Pays s i (move_to_halt s k)
pays_halt s i k = omega arith

at_most_one : (h : Digest32) (len : ℕ) (b : Awaiting) → for_fetch (phase.Fetching h len) b ≤ 1
at_most_one h len (awaits.Content g l) = omega arith
at_most_one h len (awaits.Reply n o load) = omega arith
at_most_one h len awaits.Nothing = omega arith
at_most_one h len awaits.Turn = omega arith
at_most_one h len awaits.Entries = omega arith
at_most_one h len awaits.Kept = omega arith

-- without an awaited content the awaiting doesn't matter, if no Reply is awaited then
fetch_same : (p : Phase) (a b : Awaiting) → ((h : Digest32) (len : ℕ) → a ≡ awaits.Content h len → ⊥) → for_fetch phase.Calling b ≡ 0 → for_fetch p b ≤ for_fetch p a
fetch_same phase.Closed a b apart none = omega arith
fetch_same (phase.Keeping k h len) a b apart none = omega arith
fetch_same phase.Calling a b apart none = omega arith
fetch_same (phase.Fetching h len) (awaits.Content g l) b apart none = absurd (apart g l refl)
fetch_same (phase.Fetching h len) (awaits.Reply n o load) b apart none = at_most_one h len b
fetch_same (phase.Fetching h len) awaits.Nothing b apart none = at_most_one h len b
fetch_same (phase.Fetching h len) awaits.Entries b apart none = at_most_one h len b
fetch_same (phase.Fetching h len) awaits.Kept b apart none = at_most_one h len b
fetch_same (phase.Fetching h len) awaits.Turn b apart none = at_most_one h len b

-- only a get is decided so that a content is to be fetched
decided_fetch : (p : Phase) (o : Outcome) (a : Awaiting) → ((h : Digest32) (len : ℕ) → a ≡ awaits.Content h len → ⊥)
    → ((v : List ℕ) → o ≡ outcome.Done (answer.Found v) → for_fetch phase.Calling a ≡ 1) → (b : Awaiting) → for_fetch phase.Calling b ≡ 0 → for_fetch (after_decision p o) b ≤ for_fetch p a
decided_fetch phase.Closed o a apart gets b none = omega arith
decided_fetch (phase.Keeping k h len) o a apart gets b none = omega arith
decided_fetch (phase.Fetching h len) o a apart gets b none = fetch_same (phase.Fetching h len) a b apart none
decided_fetch phase.Calling (outcome.Aborted u) a apart gets b none = omega arith
decided_fetch phase.Calling (outcome.Refused r) a apart gets b none = omega arith
decided_fetch phase.Calling (outcome.Halted c) a apart gets b none = omega arith
decided_fetch phase.Calling (outcome.Done answer.Stored) a apart gets b none = omega arith
decided_fetch phase.Calling (outcome.Done answer.NotFound) a apart gets b none = omega arith
decided_fetch phase.Calling (outcome.Done answer.Removed) a apart gets b none = omega arith
decided_fetch phase.Calling (outcome.Done answer.Absent) a apart gets b none = omega arith
decided_fetch phase.Calling (outcome.Done (answer.Names names)) a apart gets b none = omega arith
decided_fetch phase.Calling (outcome.Done (answer.Found v)) a apart gets b none =
    let one : for_fetch phase.Calling a ≡ 1 = gets v refl in
    let most : for_fetch (after_decision phase.Calling (outcome.Done (answer.Found v))) b ≤ 1 = chosen (is_reference v) _ _ in
    omega (arith, one, most)
  where
    chosen : (c : Bool) (x y : Next) → for_fetch (if◌then◌else◌ {A = ObjectStep} c (phase.Fetching (record { bytes = hash_in v }) (length_in v), x) (phase.Closed, y)).0 b ≤ 1
    chosen true x y = at_most_one (record { bytes = hash_in v }) (length_in v) b
    chosen false x y = omega arith

-- ---- each kind of step

turn_apart : (a : Awaiting) → a ≡ awaits.Turn → (h : Digest32) (len : ℕ) → a ≡ awaits.Content h len → ⊥
turn_apart a e h len f = let w : awaits.Turn ≡ awaits.Content h len = sym e ∙ f in cc

reply_apart : (a : Awaiting) (n : ℕ) (o : Op) (load : Bool) → a ≡ awaits.Reply n o load → (h : Digest32) (len : ℕ) → a ≡ awaits.Content h len → ⊥
reply_apart a n o load e h len f = let w : awaits.Reply n o load ≡ awaits.Content h len = sym e ∙ f in cc

nothing_apart : (a : Awaiting) → a ≡ awaits.Nothing → (h : Digest32) (len : ℕ) → a ≡ awaits.Content h len → ⊥
nothing_apart a e h len f = let w : awaits.Nothing ≡ awaits.Content h len = sym e ∙ f in cc

entries_apart : (a : Awaiting) → a ≡ awaits.Entries → (h : Digest32) (len : ℕ) → a ≡ awaits.Content h len → ⊥
entries_apart a e h len f = let w : awaits.Entries ≡ awaits.Content h len = sym e ∙ f in cc

pays_reply : (me : ℕ) (s : Standing) (b : List ℕ) (seal : Seal) (path : List Entry) (part : Option Part) (a : Awaiting) → s.awaiting ≡ a → Pays s (input.Payload b) (move_on_reply me s seal path part a)
pays_reply me s b seal (e ∷ below) (Some part) (awaits.Reply n o load) same =
    let ends : Outcome = decision me s below seal.position part o in
    let own : Own = record { position = length (e ∷ below); op = o; done = is_done ends } in
    let l : length (s.own ++ own ∷ []) ≡ length s.own + 1 = length-append s.own (own ∷ []) in
    let gets : (w : List ℕ) → ends ≡ outcome.Done (answer.Found w) → for_fetch phase.Calling s.awaiting ≡ 1 =
    λ w e. ap (for_fetch phase.Calling) same ∙ ap for_get (decision_found me s below seal.position part o w e).1 in
    let f : for_fetch (after_decision s.phase ends) awaits.Turn ≤ for_fetch s.phase s.awaiting = decided_fetch s.phase ends s.awaiting (reply_apart s.awaiting n o load same) gets awaits.Turn refl in
    let r : for_reply s.awaiting ≡ 2 = ap for_reply same in
    omega arith
pays_reply me s b seal [] part a same = pays_halt s (input.Payload b) 1
pays_reply me s b seal (e ∷ below) None a same = pays_halt s (input.Payload b) 1
pays_reply me s b seal (e ∷ below) (Some part) awaits.Nothing same = pays_halt s (input.Payload b) 1
pays_reply me s b seal (e ∷ below) (Some part) awaits.Turn same = pays_halt s (input.Payload b) 1
pays_reply me s b seal (e ∷ below) (Some part) awaits.Entries same = pays_halt s (input.Payload b) 1
pays_reply me s b seal (e ∷ below) (Some part) awaits.Kept same = pays_halt s (input.Payload b) 1
pays_reply me s b seal (e ∷ below) (Some part) (awaits.Content h len) same = pays_halt s (input.Payload b) 1

pays_update : (s : Standing) (b : List ℕ) (seal : Seal) (part : Option Part) (own : List Own) → s.own ≡ own → s.awaiting ≡ awaits.Turn → Pays s (input.Payload b) (move_on_update s seal part own)
pays_update s b seal (Some part) (o ∷ others) is same =
    let whole : length s.own ≡ length {A = Own} (o ∷ others) = ap length is in
    let one : length {A = Own} (o ∷ others) ≡ length others + 1 = omega arith in
    let f : for_fetch s.phase awaits.Turn ≤ for_fetch s.phase s.awaiting = fetch_same s.phase s.awaiting awaits.Turn (turn_apart s.awaiting same) refl in
    omega arith
pays_update s b seal None own is same = pays_halt s (input.Payload b) 1
pays_update s b seal (Some part) [] is same = pays_halt s (input.Payload b) 1

pays_wait : (s : Standing) (b : List ℕ) (p : Phase) → s.phase ≡ p → s.awaiting ≡ awaits.Turn → Pays s (input.Payload b) (move_on_wait s p)
pays_wait s b phase.Closed is same = let f : for_fetch s.phase awaits.Nothing ≤ for_fetch s.phase s.awaiting = fetch_same s.phase s.awaiting awaits.Nothing (turn_apart s.awaiting same) refl in omega arith
pays_wait s b (phase.Keeping k h len) is same = let f : for_fetch s.phase awaits.Nothing ≤ for_fetch s.phase s.awaiting = fetch_same s.phase s.awaiting awaits.Nothing (turn_apart s.awaiting same) refl in omega arith
pays_wait s b phase.Calling is same = let f : for_fetch s.phase awaits.Nothing ≤ for_fetch s.phase s.awaiting = fetch_same s.phase s.awaiting awaits.Nothing (turn_apart s.awaiting same) refl in omega arith
pays_wait s b (phase.Fetching h len) is same =
    let now : for_fetch s.phase (awaits.Content h len) ≡ 0 = ap (λ p. for_fetch p (awaits.Content h len)) is in
    let before : for_fetch s.phase s.awaiting ≡ 1 = ap (λ p. for_fetch p s.awaiting) is ∙ ap (for_fetch (phase.Fetching h len)) same in
    omega arith

pays_refused : (s : Standing) (b : List ℕ) (r : ℕ) (a : Awaiting) → s.awaiting ≡ a → is_awaited a (say.Refused r) ≡ true → Pays s (input.Payload b) (move_on_refusal s r a)
pays_refused s b r awaits.Kept same form = omega arith
pays_refused s b r (awaits.Reply n o load) same form =
    let f : for_fetch (after_decision s.phase (outcome.Refused r)) awaits.Nothing ≤ for_fetch s.phase s.awaiting = decided_fetch s.phase (outcome.Refused r) s.awaiting (reply_apart s.awaiting n o load same) (λ w e. absurd cc) awaits.Nothing refl in
    omega arith
pays_refused s b r awaits.Nothing same form = absurd (true≢false (sym form))
pays_refused s b r awaits.Turn same form = absurd (true≢false (sym form))
pays_refused s b r awaits.Entries same form = absurd (true≢false (sym form))
pays_refused s b r (awaits.Content h len) same form = absurd (true≢false (sym form))

pays_kept : (s : Standing) (b : List ℕ) (p : Phase) → s.phase ≡ p → Pays s (input.Payload b) (move_by_object_step s false (step_on_kept p))
pays_kept s b (phase.Keeping k h len) is = let f : for_fetch s.phase s.awaiting ≡ 0 = ap (λ p. for_fetch p s.awaiting) is in omega arith
pays_kept s b phase.Closed is = pays_halt s (input.Payload b) 1
pays_kept s b phase.Calling is = pays_halt s (input.Payload b) 1
pays_kept s b (phase.Fetching h len) is = pays_halt s (input.Payload b) 1

pays_taken : (g : Group) (me : ℕ) (s : Standing) (b : List ℕ) (m : ToClient) → Passes g me s m → Pays s (input.Payload b) (move_on_answer me s m)
pays_taken g me s b say.Hi passes = pays_halt s (input.Payload b) 1
pays_taken g me s b (say.Reply seal entries part) passes = pays_reply me s b seal (path_with_entries s entries) (read_part part) s.awaiting refl
pays_taken g me s b say.Wait passes = pays_wait s b s.phase refl (wait_awaited s.awaiting passes.form)
pays_taken g me s b (say.Update seal part) passes = pays_update s b seal (read_part part) s.own refl (awaits_update s.awaiting seal part (and_parts (is_awaited s.awaiting (say.Update seal part)) _ passes.form).0)
pays_taken g me s b (say.Entries seal entries) passes =
    let same : s.awaiting ≡ awaits.Entries = awaits_entries s.awaiting seal entries (and_parts (is_awaited s.awaiting (say.Entries seal entries)) _ passes.form).0 in
    let f : for_fetch s.phase awaits.Nothing ≤ for_fetch s.phase s.awaiting = fetch_same s.phase s.awaiting awaits.Nothing (entries_apart s.awaiting same) refl in
    omega arith
pays_taken g me s b (say.Refused r) passes = pays_refused s b r s.awaiting refl passes.form
pays_taken g me s b say.Kept passes = pays_kept s b s.phase refl
pays_taken g me s b (say.Content c) passes = omega arith
pays_taken g me s b say.Gone passes = pays_halt s (input.Payload b) 1
pays_taken g me s b say.Absent passes = pays_halt s (input.Payload b) 1

pays_read : (g : Group) (me : ℕ) (s : Standing) (b : List ℕ) (m : Option ToClient) (k : Option ℕ) → read_answer b ≡ m → verdict_on g me s m ≡ k → AreBytes b → Pays s (input.Payload b) (move_on_verdict me s m k)
pays_read g me s b m (Some k) read e h = pays_halt s (input.Payload b) k
pays_read g me s b (Some m) None read e h = pays_taken g me s b m (all_passed g me s m (answer_fits b m h read) e)
pays_read g me s b None None read e h = pays_halt s (input.Payload b) 1

pays_payload : (g : Group) (me : ℕ) (s : Standing) (b : List ℕ) (halted : Option ℕ) → AreBytes b → Pays s (input.Payload b) (move_on_payload g me s halted b)
unfolding verdict
pays_payload g me s b (Some k) h = pays_halt s (input.Payload b) k
pays_payload g me s b None h = pays_read g me s b (read_answer b) (verdict_on g me s (read_answer b)) refl refl h

pays_object : (s : Standing) (c : ObjectCall) → Pays s (input.Object c) (move_by_object_step s (is_load c) (first_step c))
pays_object s (object.Store k c) = omega arith
pays_object s (object.Load k) = omega arith
pays_object s (object.Erase k) = omega arith
pays_object s (object.Names p) = omega arith

-- each step that a client may make
pays : (g : Group) (me : ℕ) (s : Standing) (i : Input) → MayStep g s i → Pays s i (step g me s i)
unfolding step
pays g me s (input.Call o) may = omega arith
pays g me s (input.Object c) may = pays_object s c
pays g me s input.Poll may =
    let same : s.awaiting ≡ awaits.Nothing = idle_nothing s.awaiting _ may in
    let f : for_fetch s.phase awaits.Turn ≤ for_fetch s.phase s.awaiting = fetch_same s.phase s.awaiting awaits.Turn (nothing_apart s.awaiting same) refl in
    omega arith
pays g me s input.Sync may =
    let same : s.awaiting ≡ awaits.Nothing = idle_nothing s.awaiting _ may in
    let f : for_fetch s.phase awaits.Entries ≤ for_fetch s.phase s.awaiting = fetch_same s.phase s.awaiting awaits.Entries (nothing_apart s.awaiting same) refl in
    omega arith
pays g me s (input.Payload b) may = pays_payload g me s b s.halted may

-- ---- along a history

sent_so : (g : Group) (me : ℕ) (s : Standing) (o : Option Sending) → sent_one (payload_of g me s o) ≡ sends_one o
sent_so g me s None = refl
sent_so g me s (Some x) = refl

own_step : (g : Group) (x : TraceStep) (past : List TraceStep) → IsStep g past x
    → sendings x.client past + balance (standing g x.client past) ≤ 3 * (standing g x.client past).calls + others_asked x.client past
    → sendings x.client (x ∷ past) + balance (standing g x.client (x ∷ past)) ≤ 3 * (standing g x.client (x ∷ past)).calls + others_asked x.client (x ∷ past)
unfolding sendings others_asked
own_step g x past is before =
    let v : Move = move_of g past x in
    let itself : nat_eq x.client x.client ≡ true = eq-eqb x.client x.client refl in
    let sent : sendings x.client (x ∷ past) ≡ sent_one x.sent + sendings x.client past = ap (λ b. if b then sent_one x.sent + sendings x.client past else sendings x.client past) itself in
    let asked : others_asked x.client (x ∷ past) ≡ asked_other x.input + others_asked x.client past = ap (λ b. if b then asked_other x.input + others_asked x.client past else others_asked x.client past) itself in
    let one : sent_one x.sent ≡ sends_one v.sends = ap sent_one is.sent ∙ sent_so g x.client v.next v.sends in
    let moved = standing_moved g x.client x past refl in
    let left : balance (standing g x.client (x ∷ past)) ≡ balance v.next = ap balance moved in
    let calls : (standing g x.client (x ∷ past)).calls ≡ v.next.calls = ap (λ (s : Standing). s.calls) moved in
    let paid : Pays (standing g x.client past) x.input v = pays g x.client (standing g x.client past) x.input is.may in
    omega arith

other_step : (g : Group) (me : ℕ) (x : TraceStep) (past : List TraceStep) → (x.client ≡ me → ⊥)
    → sendings me past + balance (standing g me past) ≤ 3 * (standing g me past).calls + others_asked me past
    → sendings me (x ∷ past) + balance (standing g me (x ∷ past)) ≤ 3 * (standing g me (x ∷ past)).calls + others_asked me (x ∷ past)
unfolding sendings others_asked
other_step g me x past differ before =
    let apart : nat_eq x.client me ≡ false = ne_eqb x.client me differ in
    let sent : sendings me (x ∷ past) ≡ sendings me past = ap (λ b. if b then sent_one x.sent + sendings me past else sendings me past) apart in
    let asked : others_asked me (x ∷ past) ≡ others_asked me past = ap (λ b. if b then asked_other x.input + others_asked me past else others_asked me past) apart in
    let kept = standing_kept g me x past differ in
    let left : balance (standing g me (x ∷ past)) ≡ balance (standing g me past) = ap balance kept in
    let calls : (standing g me (x ∷ past)).calls ≡ (standing g me past).calls = ap (λ (s : Standing). s.calls) kept in
    omega arith

-- what a client sent, and what it may still send, is paid by what it was asked
pub sends_balance : (g : Group) (h : List TraceStep) → AreSteps g h → (me : ℕ) → sendings me h + balance (standing g me h) ≤ 3 * (standing g me h).calls + others_asked me h
unfolding standing sendings others_asked
sends_balance g [] steps me = omega arith
sends_balance g (x ∷ past) steps me = elim (cases_eq x.client me) [
  | inl same ↦ subst (λ (m : ℕ). sendings m (x ∷ past) + balance (standing g m (x ∷ past)) ≤ 3 * (standing g m (x ∷ past)).calls + others_asked m (x ∷ past)) same
      (own_step g x past steps.1 (sends_balance g past steps.0 x.client))
  | inr differ ↦ other_step g me x past differ (sends_balance g past steps.0 me)
]

pub sends_are_few : SendsAreFew
sends_are_few g h lawful me =
    let w = sends_balance g h lawful.steps me in
    let same : (standing g me h).calls ≡ calls_made g me h = calls_are_made g h lawful.steps me in
    omega (arith, w, same)
