-- How far a client's call on objects has come, along its steps.
use Rattle.std.specs.Prelude.{◌≡◌, ℕ, ◌+◌, ◌⊎◌, Bool, true, false, ◌&&◌, if◌then◌else◌, List, [], ◌∷◌, length, Option, Some, None}
use Rattle.std.proofs.Common.{refl, ap, subst, sym, ◌∙◌, inl, inr, true≢false}
use Rattle.std.proofs.lemmas.Bool.{and_parts}
use Rattle.vic_dict.specs.declared.op.Op.{Op}
use Rattle.vic_dict.specs.declared.op.Op.TheVariants as op
use Rattle.vic_dict.specs.declared.op.Entry.{Entry}
use Rattle.vic_dict.specs.declared.op.Answer.TheVariants as answer
use Rattle.vic_dict.specs.declared.op.Outcome.{Outcome}
use Rattle.vic_dict.specs.declared.op.Outcome.TheVariants as outcome
use Rattle.vic_wire.specs.declared.message.Digest32.{Digest32}
use Rattle.vic_wire.specs.declared.message.Seal.{Seal}
use Rattle.vic_dict.specs.Lists.{AreBytes}
use Rattle.vic_wire.specs.declared.message.ToClient.{ToClient}
use Rattle.vic_wire.specs.declared.message.ToClient.TheVariants as say
use Rattle.vic_wire.specs.Hashes.{Group}
use Rattle.vic_wire.specs.Parts.{Part, read_part}
use Rattle.vic_wire.specs.Reading.{read_answer}
use Rattle.vic_spellings.proofs.SpelledAnswers.{answer_fits}
use Rattle.vic_rules.specs.declared.object.ObjectCall.{ObjectCall}
use Rattle.vic_rules.specs.declared.object.ObjectCall.TheVariants as object
use Rattle.vic_rules.specs.declared.object.ObjectOutcome.{ObjectOutcome}
use Rattle.vic_rules.specs.declared.object.ObjectOutcome.TheVariants as ended
use Rattle.vic_rules.specs.declared.object.Phase.{Phase}
use Rattle.vic_rules.specs.declared.object.Phase.TheVariants as phase
use Rattle.vic_rules.specs.declared.state.Own.{Own}
use Rattle.vic_rules.specs.declared.state.Awaiting.{Awaiting}
use Rattle.vic_rules.specs.declared.state.Awaiting.TheVariants as awaits
use Rattle.vic_rules.specs.declared.trace.Input.{Input}
use Rattle.vic_rules.specs.declared.trace.Input.TheVariants as input
use Rattle.vic_rules.specs.declared.object.Next.{Next}
use Rattle.vic_rules.specs.declared.object.Next.TheVariants as next
use Rattle.vic_rules.specs.Objects.{final_outcome, content_hash, reference_text, is_reference, hash_in, length_in, is_content_of, first_step, step_on_kept, after_decision, outcome_after_decision, ObjectStep}
use Rattle.vic_rules.specs.Views.{AsksFor}
use Rattle.vic_rules.specs.Client.{is_wanted, Standing, Move, Sending, Invokes, Polls, Syncs, Keeps, Fetches as Fetch, move_with_object, move_to_call, move_by_object_step, move_on_wait, move_on_refusal, move_on_reply, move_on_update, move_to_halt, is_load, is_awaited, is_done, decision, awaits_nothing, MayStep, move_on_answer, move_on_verdict, move_on_payload, step, verdict, verdict_on, path_with_entries}
use Rattle.vic_rules.specs.Trust.{answer_unless_halted}
use Rattle.vic_laws.proofs.Words.{none_is_some}
use Rattle.vic_laws.proofs.Steps.{Passes}
use Rattle.vic_laws.proofs.StepKinds.{all_passed, takes_read, awaits_update, awaits_entries, no_commit, no_seal, nothing_sent}

-- what is awaited goes with how far the call has come
abbrev pub Together : Phase → Awaiting → Type 0
Together phase.Closed a = ((h : Digest32) (len : ℕ) → a ≡ awaits.Content h len → ⊥) × (a ≡ awaits.Kept → ⊥)
Together (phase.Keeping k h len) a = a ≡ awaits.Kept
Together phase.Calling a = (n : ℕ) × (o : Op) × (load : Bool) × (a ≡ awaits.Reply n o load)
Together (phase.Fetching h len) a = (a ≡ awaits.Turn) ⊎ (a ≡ awaits.Content h len)

-- a reference was found with this hash and this length
pub record Finds (o : Option Outcome) (h : Digest32) (len : ℕ) : Type 0 where
  pub value : List ℕ
  pub is : o ≡ Some (outcome.Done (answer.Found value))
  pub size : is_reference value ≡ true
  pub hash_is : h.bytes ≡ hash_in value
  pub length_is : len ≡ length_in value

-- a content was to be stored under a name
pub record Stores (i : Input) (sends : Option Sending) (k : List ℕ) (h : Digest32) (len : ℕ) : Type 0 where
  pub content : List ℕ
  pub asked : i ≡ input.Object (object.Store k content)
  pub sent : sends ≡ Some (Keeps content)
  pub hash_is : h.bytes ≡ content_hash content
  pub length_is : len ≡ length content

-- a content came that was to be fetched
pub record Fetches (s : Standing) (took : Option ToClient) (c : List ℕ) : Type 0 where
  pub h : Digest32
  pub len : ℕ
  pub fetching : s.phase ≡ phase.Fetching h len
  pub is : is_content_of h.bytes len c ≡ true
  pub took_it : took ≡ Some (say.Content c)

-- the put of a store was called
pub record Puts (s : Standing) (o : Op) : Type 0 where
  pub name : List ℕ
  pub h : Digest32
  pub len : ℕ
  pub alive : s.halted ≡ None
  pub keeping : s.phase ≡ phase.Keeping name h len
  pub is : o ≡ op.Put name (reference_text h.bytes len)

-- what a step does to the call on objects
pub record Phased (s : Standing) (i : Input) (v : Move) : Type 0 where
  pub together : Together v.next.phase v.next.awaiting
  pub fetching : (h : Digest32) (len : ℕ) → v.next.phase ≡ phase.Fetching h len → (s.phase ≡ phase.Fetching h len) ⊎ Finds v.returns h len
  pub keeping : (k : List ℕ) (h : Digest32) (len : ℕ) → v.next.halted ≡ None → v.next.phase ≡ phase.Keeping k h len → Stores i v.sends k h len
  pub content : (c : List ℕ) → v.object ≡ Some (ended.Content c) → Fetches s (answer_unless_halted v.next i) c
  pub puts : (n : ℕ) (q u : List ℕ) → v.sends ≡ Some (Invokes n (op.Put q u)) → (i ≡ input.Call (op.Put q u)) ⊎ Puts s (op.Put q u)
  pub gets : (n : ℕ) (q : List ℕ) → v.sends ≡ Some (Invokes n (op.Get q)) → (i ≡ input.Call (op.Get q)) ⊎ (i ≡ input.Object (object.Load q))
  pub calls : (n : ℕ) (o : Op) → v.sends ≡ Some (Invokes n o) → AsksFor i o ⊎ Puts s o

nothing_ended : (c : List ℕ) → ◌≡◌ {A = Option ObjectOutcome} None (Some (ended.Content c)) → ⊥
nothing_ended c e = cc

phased_halt : (s : Standing) (i : Input) (k : ℕ) → Together s.phase s.awaiting → Phased s i (move_to_halt s k)
phased_halt s i k t = record {
  together = t;
  fetching = λ h len e. inl e;
  keeping = λ n h len e f. absurd (none_is_some (sym e));
  content = λ c e. absurd (nothing_ended c e);
  puts = λ n q u e. absurd (nothing_sent n (op.Put q u) e);
  gets = λ n q e. absurd (nothing_sent n (op.Get q) e);
  calls = λ n o e. absurd (nothing_sent n o e);
}

pub closed_apart : (h : Digest32) (len : ℕ) → phase.Closed ≡ phase.Fetching h len → ⊥
closed_apart h len e = cc

closed_kept : (k : List ℕ) (h : Digest32) (len : ℕ) → phase.Closed ≡ phase.Keeping k h len → ⊥
closed_kept k h len e = cc

pub calling_apart : (h : Digest32) (len : ℕ) → phase.Calling ≡ phase.Fetching h len → ⊥
calling_apart h len e = cc

calling_kept : (k : List ℕ) (h : Digest32) (len : ℕ) → phase.Calling ≡ phase.Keeping k h len → ⊥
calling_kept k h len e = cc

pub keeping_apart : (k : List ℕ) (g : Digest32) (l : ℕ) (h : Digest32) (len : ℕ) → phase.Keeping k g l ≡ phase.Fetching h len → ⊥
keeping_apart k g l h len e = cc

fetching_kept : (g : Digest32) (l : ℕ) (k : List ℕ) (h : Digest32) (len : ℕ) → phase.Fetching g l ≡ phase.Keeping k h len → ⊥
fetching_kept g l k h len e = cc

-- a client that is at rest has no call on objects open
pub at_rest : (p : Phase) → Together p awaits.Nothing → p ≡ phase.Closed
at_rest phase.Closed t = refl
at_rest (phase.Keeping k h len) t = absurd cc
at_rest phase.Calling t = absurd (let e = t.3 in cc)
at_rest (phase.Fetching h len) (inl e) = absurd cc
at_rest (phase.Fetching h len) (inr e) = absurd cc

pub idle_nothing : (a : Awaiting) (b : Bool) → (awaits_nothing a && b) ≡ true → a ≡ awaits.Nothing
idle_nothing awaits.Nothing b e = refl
idle_nothing (awaits.Reply n o load) b e = absurd (true≢false (sym e))
idle_nothing awaits.Turn b e = absurd (true≢false (sym e))
idle_nothing awaits.Entries b e = absurd (true≢false (sym e))
idle_nothing awaits.Kept b e = absurd (true≢false (sym e))
idle_nothing (awaits.Content h len) b e = absurd (true≢false (sym e))

-- ---- what is asked

-- an operation is called: the call on objects that it may belong to awaits its Reply
phased_call : (s : Standing) (i : Input) (p : Phase) (o : Op) (load : Bool) → ((a : Awaiting) → a ≡ awaits.Reply (s.calls + 1) o load → Together p a)
    → ((h : Digest32) (len : ℕ) → p ≡ phase.Fetching h len → ⊥) → ((k : List ℕ) (h : Digest32) (len : ℕ) → p ≡ phase.Keeping k h len → ⊥)
    → ((q u : List ℕ) → o ≡ op.Put q u → (i ≡ input.Call (op.Put q u)) ⊎ Puts s (op.Put q u))
    → ((q : List ℕ) → o ≡ op.Get q → (i ≡ input.Call (op.Get q)) ⊎ (i ≡ input.Object (object.Load q)))
    → AsksFor i o ⊎ Puts s o → Phased s i (move_to_call s p o load)
phased_call s i p o load together apart kept puts gets asks = record {
  together = together (awaits.Reply (s.calls + 1) o load) refl;
  fetching = λ h len e. absurd (apart h len e);
  keeping = λ k h len e f. absurd (kept k h len f);
  content = λ c e. absurd (nothing_ended c e);
  puts = λ n q u e. puts q u (same_op (s.calls + 1) n o (op.Put q u) e);
  gets = λ n q e. gets q (same_op (s.calls + 1) n o (op.Get q) e);
  calls = λ n q e. subst (λ (w : Op). AsksFor i w ⊎ Puts s w) (same_op (s.calls + 1) n o q e) asks;
}
  where
    same_op : (n m : ℕ) (o q : Op) → Some (Invokes n o) ≡ Some (Invokes m q) → o ≡ q
    same_op n m o q e = cc

reply_no_content : (n : ℕ) (o : Op) (load : Bool) (h : Digest32) (len : ℕ) → awaits.Reply n o load ≡ awaits.Content h len → ⊥
reply_no_content n o load h len e = cc

reply_no_kept : (n : ℕ) (o : Op) (load : Bool) → awaits.Reply n o load ≡ awaits.Kept → ⊥
reply_no_kept n o load e = cc

calling_so : (n : ℕ) (o : Op) (load : Bool) (a : Awaiting) → a ≡ awaits.Reply n o load → Together phase.Calling a
calling_so n o load a e = (n, o, load, e)

closed_so : (n : ℕ) (o : Op) (load : Bool) (a : Awaiting) → a ≡ awaits.Reply n o load → Together phase.Closed a
closed_so n o load a e = ((λ h len f. reply_no_content n o load h len (sym e ∙ f)), (λ f. reply_no_kept n o load (sym e ∙ f)))

pub same_key : (k q : List ℕ) → op.Get k ≡ op.Get q → k ≡ q
same_key k q e = cc

phased_object : (s : Standing) (c : ObjectCall) → Phased s (input.Object c) (move_by_object_step s (is_load c) (first_step c))
phased_object s (object.Store k c) = record {
  together = refl;
  fetching = λ h len e. absurd (keeping_apart k _ _ h len e);
  keeping = λ n h len e f. record {
    content = c;
    asked = ap (λ z. input.Object (object.Store z c)) (same_name k n _ h (length c) len f);
    sent = refl;
    hash_is = same_hash k n (record { bytes = content_hash c }) h (length c) len f;
    length_is = same_length k n _ h (length c) len f;
  };
  content = λ d e. absurd (nothing_ended d e);
  puts = λ n q u e. absurd (no_call c n (op.Put q u) e);
  gets = λ n q e. absurd (no_call c n (op.Get q) e);
  calls = λ n o e. absurd (no_call c n o e);
}
  where
    same_name : (k n : List ℕ) (g h : Digest32) (l m : ℕ) → phase.Keeping k g l ≡ phase.Keeping n h m → k ≡ n
    same_name k n g h l m e = cc

    same_hash : (k n : List ℕ) (g h : Digest32) (l m : ℕ) → phase.Keeping k g l ≡ phase.Keeping n h m → h.bytes ≡ g.bytes
    same_hash k n g h l m e = let f : g ≡ h = cc in ap (λ x. x.bytes) (sym f)

    same_length : (k n : List ℕ) (g h : Digest32) (l m : ℕ) → phase.Keeping k g l ≡ phase.Keeping n h m → m ≡ l
    same_length k n g h l m e = cc

    no_call : (c : List ℕ) (n : ℕ) (o : Op) → Some (Keeps c) ≡ Some (Invokes n o) → ⊥
    no_call c n o e = cc
phased_object s (object.Load k) = phased_call s _ phase.Calling (op.Get k) true (calling_so (s.calls + 1) (op.Get k) true) calling_apart calling_kept (λ q u e. absurd (let f = e in cc)) (λ q e. inr (ap (λ n. input.Object (object.Load n)) (same_key k q e))) (inl refl)
phased_object s (object.Erase k) = phased_call s _ phase.Calling (op.Del k) false (calling_so (s.calls + 1) (op.Del k) false) calling_apart calling_kept (λ q u e. absurd (let f = e in cc)) (λ q e. absurd (let f = e in cc)) (inl refl)
phased_object s (object.Names p) = phased_call s _ phase.Calling (op.List p) false (calling_so (s.calls + 1) (op.List p) false) calling_apart calling_kept (λ q u e. absurd (let f = e in cc)) (λ q e. absurd (let f = e in cc)) (inl refl)

-- a step that stays Closed
phased_closed : (s : Standing) (i : Input) (a : Awaiting) (sends : Option Sending) (returns : Option Outcome) (object : Option ObjectOutcome) (p : Phase) → p ≡ phase.Closed → Together phase.Closed a
    → ((c : List ℕ) → object ≡ Some (ended.Content c) → Fetches s (answer_unless_halted (record s { awaiting = a; phase = p }) i) c)
    → ((n : ℕ) (o : Op) → sends ≡ Some (Invokes n o) → ⊥) → Phased s i (move_with_object (record s { awaiting = a; phase = p }) sends returns object)
phased_closed s i a sends returns object p is t gives quiet = record {
  together = subst (λ q. Together q a) (sym is) t;
  fetching = λ h len e. absurd (closed_apart h len (sym is ∙ e));
  keeping = λ k h len e f. absurd (closed_kept k h len (sym is ∙ f));
  content = gives;
  puts = λ n q u e. absurd (quiet n (op.Put q u) e);
  gets = λ n q e. absurd (quiet n (op.Get q) e);
  calls = λ n o e. absurd (quiet n o e);
}

pub nothing_closed : Together phase.Closed awaits.Nothing
nothing_closed = ((λ h len e. cc), (λ e. cc))

turn_closed : Together phase.Closed awaits.Turn
turn_closed = ((λ h len e. cc), (λ e. cc))

entries_closed : Together phase.Closed awaits.Entries
entries_closed = ((λ h len e. cc), (λ e. cc))

-- ---- what is decided

decided_phase : (p : Phase) (o : Outcome) (h : Digest32) (len : ℕ) → after_decision p o ≡ phase.Fetching h len → (p ≡ phase.Fetching h len) ⊎ Finds (Some o) h len
decided_phase phase.Closed o h len e = inl e
decided_phase (phase.Keeping k g l) o h len e = inl e
decided_phase (phase.Fetching g l) o h len e = inl e
decided_phase phase.Calling (outcome.Aborted u) h len e = absurd (closed_apart h len e)
decided_phase phase.Calling (outcome.Refused r) h len e = absurd (closed_apart h len e)
decided_phase phase.Calling (outcome.Halted k) h len e = absurd (closed_apart h len e)
decided_phase phase.Calling (outcome.Done answer.Stored) h len e = absurd (closed_apart h len e)
decided_phase phase.Calling (outcome.Done answer.NotFound) h len e = absurd (closed_apart h len e)
decided_phase phase.Calling (outcome.Done answer.Removed) h len e = absurd (closed_apart h len e)
decided_phase phase.Calling (outcome.Done answer.Absent) h len e = absurd (closed_apart h len e)
decided_phase phase.Calling (outcome.Done (answer.Names names)) h len e = absurd (closed_apart h len e)
decided_phase phase.Calling (outcome.Done (answer.Found v)) h len e = found (is_reference v) _ _ refl e
  where
    found : (b : Bool) (x y : Next) → is_reference v ≡ b → (if◌then◌else◌ {A = ObjectStep} b (phase.Fetching (record { bytes = hash_in v }) (length_in v), x) (phase.Closed, y)).0 ≡ phase.Fetching h len
        → (phase.Calling ≡ phase.Fetching h len) ⊎ Finds (Some (outcome.Done (answer.Found v))) h len
    found true x y size e = inr (record { value = v; is = refl; size = size; hash_is = (let f : h ≡ record { bytes = hash_in v } = cc in ap (λ x. x.bytes) f); length_is = cc })
    found false x y size e = absurd (closed_apart h len e)

decided_kept : (p : Phase) (o : Outcome) (k : List ℕ) (h : Digest32) (len : ℕ) → after_decision p o ≡ phase.Keeping k h len → p ≡ phase.Keeping k h len
decided_kept phase.Closed o k h len e = e
decided_kept (phase.Keeping n g l) o k h len e = e
decided_kept (phase.Fetching g l) o k h len e = e
decided_kept phase.Calling (outcome.Aborted u) k h len e = absurd (closed_kept k h len e)
decided_kept phase.Calling (outcome.Refused r) k h len e = absurd (closed_kept k h len e)
decided_kept phase.Calling (outcome.Halted c) k h len e = absurd (closed_kept k h len e)
decided_kept phase.Calling (outcome.Done answer.Stored) k h len e = absurd (closed_kept k h len e)
decided_kept phase.Calling (outcome.Done answer.NotFound) k h len e = absurd (closed_kept k h len e)
decided_kept phase.Calling (outcome.Done answer.Removed) k h len e = absurd (closed_kept k h len e)
decided_kept phase.Calling (outcome.Done answer.Absent) k h len e = absurd (closed_kept k h len e)
decided_kept phase.Calling (outcome.Done (answer.Names names)) k h len e = absurd (closed_kept k h len e)
decided_kept phase.Calling (outcome.Done (answer.Found v)) k h len e = found (is_reference v) _ _ e
  where
    found : (b : Bool) (x y : Next) → (if◌then◌else◌ {A = ObjectStep} b (phase.Fetching (record { bytes = hash_in v }) (length_in v), x) (phase.Closed, y)).0 ≡ phase.Keeping k h len → phase.Calling ≡ phase.Keeping k h len
    found true x y e = absurd (fetching_kept _ _ k h len e)
    found false x y e = absurd (closed_kept k h len e)

-- after a decision the client awaits its turn
decided_together : (p : Phase) (o : Outcome) (n : ℕ) (q : Op) (load : Bool) → Together p (awaits.Reply n q load) → Together (after_decision p o) awaits.Turn
decided_together phase.Closed o n q load t = turn_closed
decided_together (phase.Keeping k h len) o n q load t = absurd (reply_no_kept n q load t)
decided_together (phase.Fetching h len) o n q load t = inl_turn t
  where
    inl_turn : (awaits.Reply n q load ≡ awaits.Turn) ⊎ (awaits.Reply n q load ≡ awaits.Content h len) → Together (phase.Fetching h len) awaits.Turn
    inl_turn w = inl refl
decided_together phase.Calling (outcome.Aborted u) n q load t = turn_closed
decided_together phase.Calling (outcome.Refused r) n q load t = turn_closed
decided_together phase.Calling (outcome.Halted c) n q load t = turn_closed
decided_together phase.Calling (outcome.Done answer.Stored) n q load t = turn_closed
decided_together phase.Calling (outcome.Done answer.NotFound) n q load t = turn_closed
decided_together phase.Calling (outcome.Done answer.Removed) n q load t = turn_closed
decided_together phase.Calling (outcome.Done answer.Absent) n q load t = turn_closed
decided_together phase.Calling (outcome.Done (answer.Names names)) n q load t = turn_closed
decided_together phase.Calling (outcome.Done (answer.Found v)) n q load t = found (is_reference v) _ _
  where
    found : (b : Bool) (x y : Next) → Together (if◌then◌else◌ {A = ObjectStep} b (phase.Fetching (record { bytes = hash_in v }) (length_in v), x) (phase.Closed, y)).0 awaits.Turn
    found true x y = inl refl
    found false x y = turn_closed

-- a decision returns no content
decided_content : (p : Phase) (o : Outcome) (c : List ℕ) → outcome_after_decision p o ≡ Some (ended.Content c) → ⊥
decided_content phase.Closed o c e = nothing_ended c e
decided_content (phase.Keeping k h len) o c e = nothing_ended c e
decided_content (phase.Fetching h len) o c e = nothing_ended c e
decided_content phase.Calling (outcome.Aborted u) c e = cc
decided_content phase.Calling (outcome.Refused r) c e = cc
decided_content phase.Calling (outcome.Halted k) c e = nothing_ended c e
decided_content phase.Calling (outcome.Done answer.Stored) c e = cc
decided_content phase.Calling (outcome.Done answer.NotFound) c e = cc
decided_content phase.Calling (outcome.Done answer.Removed) c e = cc
decided_content phase.Calling (outcome.Done answer.Absent) c e = cc
decided_content phase.Calling (outcome.Done (answer.Names names)) c e = cc
decided_content phase.Calling (outcome.Done (answer.Found v)) c e = found (is_reference v) e
  where
    found : (b : Bool) → final_outcome (if◌then◌else◌ {A = ObjectStep} b (phase.Fetching (record { bytes = hash_in v }) (length_in v), next.Fetch (record { bytes = hash_in v }) (length_in v)) (phase.Closed, next.Bad)).1 ≡ Some (ended.Content c) → ⊥
    found true e = nothing_ended c e
    found false e = nothing_ended c e

-- ---- what is taken

phased_reply : (me : ℕ) (s : Standing) (i : Input) (seal : Seal) (path : List Entry) (part : Option Part) (a : Awaiting) → Together s.phase s.awaiting → s.awaiting ≡ a
    → Phased s i (move_on_reply me s seal path part a)
phased_reply me s i seal (e ∷ below) (Some part) (awaits.Reply n o load) t same =
    let ends : Outcome = decision me s below seal.position part o in
    record {
      together = decided_together s.phase ends n o load (subst (Together s.phase) same t);
      fetching = λ h len f. decided_phase s.phase ends h len f;
      keeping = λ k h len f g. absurd (reply_no_kept n o load (sym same ∙ subst (λ p. Together p s.awaiting) (decided_kept s.phase ends k h len g) t));
      content = λ c f. absurd (decided_content s.phase ends c f);
      puts = λ m q u f. absurd (no_commit (is_done ends) m (op.Put q u) f);
      gets = λ m q f. absurd (no_commit (is_done ends) m (op.Get q) f);
      calls = λ m o f. absurd (no_commit (is_done ends) m o f);
    }
phased_reply me s i seal [] part a t same = phased_halt s i 1 t
phased_reply me s i seal (e ∷ below) None a t same = phased_halt s i 1 t
phased_reply me s i seal (e ∷ below) (Some part) awaits.Nothing t same = phased_halt s i 1 t
phased_reply me s i seal (e ∷ below) (Some part) awaits.Turn t same = phased_halt s i 1 t
phased_reply me s i seal (e ∷ below) (Some part) awaits.Entries t same = phased_halt s i 1 t
phased_reply me s i seal (e ∷ below) (Some part) awaits.Kept t same = phased_halt s i 1 t
phased_reply me s i seal (e ∷ below) (Some part) (awaits.Content h len) t same = phased_halt s i 1 t

turn_no_kept : awaits.Turn ≡ awaits.Kept → ⊥
turn_no_kept e = cc

phased_update : (s : Standing) (i : Input) (seal : Seal) (part : Option Part) (own : List Own) → Together s.phase s.awaiting → s.awaiting ≡ awaits.Turn → Phased s i (move_on_update s seal part own)
phased_update s i seal (Some part) (o ∷ others) t same = record {
  together = subst (Together s.phase) same t;
  fetching = λ h len e. inl e;
  keeping = λ k h len e f. absurd (turn_no_kept (sym same ∙ subst (λ p. Together p s.awaiting) f t));
  content = λ c e. absurd (nothing_ended c e);
  puts = λ n q u e. absurd (no_seal n (op.Put q u) e);
  gets = λ n q e. absurd (no_seal n (op.Get q) e);
  calls = λ n o e. absurd (no_seal n o e);
}
phased_update s i seal None own t same = phased_halt s i 1 t
phased_update s i seal (Some part) [] t same = phased_halt s i 1 t

pub wait_awaited : (a : Awaiting) → is_awaited a say.Wait ≡ true → a ≡ awaits.Turn
wait_awaited awaits.Turn e = refl
wait_awaited awaits.Nothing e = absurd (true≢false (sym e))
wait_awaited (awaits.Reply n o load) e = absurd (true≢false (sym e))
wait_awaited awaits.Entries e = absurd (true≢false (sym e))
wait_awaited awaits.Kept e = absurd (true≢false (sym e))
wait_awaited (awaits.Content h len) e = absurd (true≢false (sym e))

no_content : (s : Standing) (took : Option ToClient) (c : List ℕ) → ◌≡◌ {A = Option ObjectOutcome} None (Some (ended.Content c)) → Fetches s took c
no_content s took c e = absurd (nothing_ended c e)

phased_wait : (s : Standing) (i : Input) (p : Phase) → s.phase ≡ p → Together p awaits.Turn → Phased s i (move_on_wait s p)
phased_wait s i phase.Closed is t = phased_closed s i awaits.Nothing None None None s.phase is nothing_closed (λ c e. no_content s _ c e) nothing_sent
phased_wait s i (phase.Keeping k h len) is t = absurd (turn_no_kept t)
phased_wait s i phase.Calling is t = absurd (let e = t.3 in cc)
phased_wait s i (phase.Fetching h len) is t = record {
  together = subst (λ p. Together p (awaits.Content h len)) (sym is) (inr refl);
  fetching = λ g l e. inl e;
  keeping = λ k g l e f. absurd (fetching_kept h len k g l (sym is ∙ f));
  content = λ c e. absurd (nothing_ended c e);
  puts = λ n q u e. absurd (no_fetch h.bytes n (op.Put q u) e);
  gets = λ n q e. absurd (no_fetch h.bytes n (op.Get q) e);
  calls = λ n o e. absurd (no_fetch h.bytes n o e);
}
  where
    no_fetch : (h : List ℕ) (n : ℕ) (o : Op) → Some (Fetch h) ≡ Some (Invokes n o) → ⊥
    no_fetch h n o e = cc

-- a refusal ends the call on objects
phased_refused : (s : Standing) (i : Input) (r : ℕ) (a : Awaiting) → s.awaiting ≡ a → is_awaited a (say.Refused r) ≡ true → Together s.phase s.awaiting → Phased s i (move_on_refusal s r a)
phased_refused s i r awaits.Kept is form t = phased_closed s i awaits.Nothing None None (Some (ended.Refused r)) phase.Closed refl nothing_closed (λ c e. absurd (refused_apart r c e)) nothing_sent
  where
    refused_apart : (r : ℕ) (c : List ℕ) → Some (ended.Refused r) ≡ Some (ended.Content c) → ⊥
    refused_apart r c e = cc
phased_refused s i r (awaits.Reply n o load) is form t =
    phased_closed s i awaits.Nothing None (Some (outcome.Refused r)) (outcome_after_decision s.phase (outcome.Refused r)) (after_decision s.phase (outcome.Refused r)) (closes s.phase (subst (Together s.phase) is t)) nothing_closed
    (λ c e. absurd (decided_content s.phase (outcome.Refused r) c e)) nothing_sent
  where
    closes : (p : Phase) → Together p (awaits.Reply n o load) → after_decision p (outcome.Refused r) ≡ phase.Closed
    closes phase.Closed w = refl
    closes phase.Calling w = refl
    closes (phase.Keeping k h len) w = absurd (reply_no_kept n o load w)
    closes (phase.Fetching h len) (inl e) = absurd cc
    closes (phase.Fetching h len) (inr e) = absurd (reply_no_content n o load h len e)
phased_refused s i r awaits.Nothing is form t = absurd (true≢false (sym form))
phased_refused s i r awaits.Turn is form t = absurd (true≢false (sym form))
phased_refused s i r awaits.Entries is form t = absurd (true≢false (sym form))
phased_refused s i r (awaits.Content h len) is form t = absurd (true≢false (sym form))

phased_kept : (s : Standing) (i : Input) (p : Phase) → s.halted ≡ None → s.phase ≡ p → Together s.phase s.awaiting → Phased s i (move_by_object_step s false (step_on_kept p))
phased_kept s i (phase.Keeping k h len) alive is t =
    phased_call s i phase.Calling (op.Put k (reference_text h.bytes len)) false (calling_so (s.calls + 1) (op.Put k (reference_text h.bytes len)) false) calling_apart calling_kept
    (λ q u e. inr (record { name = k; h = h; len = len; alive = alive; keeping = is; is = sym e })) (λ q e. absurd (let f = e in cc))
    (inr (record { name = k; h = h; len = len; alive = alive; keeping = is; is = refl }))
phased_kept s i phase.Closed alive is t = phased_halt s i 1 t
phased_kept s i phase.Calling alive is t = phased_halt s i 1 t
phased_kept s i (phase.Fetching h len) alive is t = phased_halt s i 1 t

-- a content that is awaited is that of a load that is fetching it
fetching_so : (p : Phase) (h : Digest32) (len : ℕ) → Together p (awaits.Content h len) → p ≡ phase.Fetching h len
fetching_so phase.Closed h len t = absurd (t.0 h len refl)
fetching_so (phase.Keeping k g l) h len t = absurd cc
fetching_so phase.Calling h len t = absurd (let e = t.3 in cc)
fetching_so (phase.Fetching g l) h len (inl e) = absurd cc
fetching_so (phase.Fetching g l) h len (inr e) = same g h l len e
  where
    same : (g h : Digest32) (l len : ℕ) → awaits.Content h len ≡ awaits.Content g l → phase.Fetching g l ≡ phase.Fetching h len
    same g h l len e = let a : g ≡ h = cc in let b : l ≡ len = cc in ap (λ x. phase.Fetching x l) a ∙ ap (phase.Fetching h) b

phased_content : (s : Standing) (b : List ℕ) (c : List ℕ) (a : Awaiting) → s.halted ≡ None → read_answer b ≡ Some (say.Content c) → s.awaiting ≡ a → is_wanted a c ≡ true → Together s.phase s.awaiting
    → Phased s (input.Payload b) (move_with_object (record s { awaiting = awaits.Nothing; phase = phase.Closed }) None None (Some (ended.Content c)))
phased_content s b c (awaits.Content h len) alive read is wanted t =
    phased_closed s (input.Payload b) awaits.Nothing None None (Some (ended.Content c)) phase.Closed refl nothing_closed (λ d e. record {
      h = h;
      len = len;
      fetching = fetching_so s.phase h len (subst (Together s.phase) is t);
      is = ap (is_content_of h.bytes len) (sym (same_content c d e)) ∙ wanted;
      took_it = takes_read (record s { awaiting = awaits.Nothing; phase = phase.Closed }) b (Some (say.Content d)) alive (read ∙ ap (λ x. Some (say.Content x)) (same_content c d e));
    }) nothing_sent
  where
    same_content : (c d : List ℕ) → Some (ended.Content c) ≡ Some (ended.Content d) → c ≡ d
    same_content c d e = cc
phased_content s b c awaits.Nothing alive read is wanted t = absurd (true≢false (sym wanted))
phased_content s b c (awaits.Reply n o load) alive read is wanted t = absurd (true≢false (sym wanted))
phased_content s b c awaits.Turn alive read is wanted t = absurd (true≢false (sym wanted))
phased_content s b c awaits.Entries alive read is wanted t = absurd (true≢false (sym wanted))
phased_content s b c awaits.Kept alive read is wanted t = absurd (true≢false (sym wanted))

entries_awaited : (a : Awaiting) (m : ToClient) (p : Phase) → a ≡ awaits.Entries → Together p a → p ≡ phase.Closed
entries_awaited a m phase.Closed e t = refl
entries_awaited a m (phase.Keeping k h len) e t = absurd (let f : awaits.Entries ≡ awaits.Kept = sym e ∙ t in cc)
entries_awaited a m phase.Calling e t = absurd (let f = sym e ∙ t.3 in cc)
entries_awaited a m (phase.Fetching h len) e (inl f) = absurd (let w : awaits.Entries ≡ awaits.Turn = sym e ∙ f in cc)
entries_awaited a m (phase.Fetching h len) e (inr f) = absurd (let w : awaits.Entries ≡ awaits.Content h len = sym e ∙ f in cc)

phased_taken : (g : Group) (me : ℕ) (s : Standing) (b : List ℕ) (m : ToClient) → s.halted ≡ None → read_answer b ≡ Some m → Passes g me s m → Together s.phase s.awaiting → Phased s (input.Payload b) (move_on_answer me s m)
phased_taken g me s b say.Hi alive read passes t = phased_halt s (input.Payload b) 1 t
phased_taken g me s b (say.Reply seal entries part) alive read passes t = phased_reply me s (input.Payload b) seal (path_with_entries s entries) (read_part part) s.awaiting t refl
phased_taken g me s b say.Wait alive read passes t = phased_wait s (input.Payload b) s.phase refl (subst (Together s.phase) (wait_awaited s.awaiting passes.form) t)
phased_taken g me s b (say.Update seal part) alive read passes t =
    phased_update s (input.Payload b) seal (read_part part) s.own t (awaits_update s.awaiting seal part (and_parts (is_awaited s.awaiting (say.Update seal part)) _ passes.form).0)
phased_taken g me s b (say.Entries seal entries) alive read passes t =
    let closed : s.phase ≡ phase.Closed = entries_awaited s.awaiting (say.Entries seal entries) s.phase (awaits_entries s.awaiting seal entries (and_parts (is_awaited s.awaiting (say.Entries seal entries)) _ passes.form).0) t in
    record {
      together = subst (λ p. Together p awaits.Nothing) (sym closed) nothing_closed;
      fetching = λ h len e. inl e;
      keeping = λ k h len e f. absurd (closed_kept k h len (sym closed ∙ f));
      content = λ c e. absurd (nothing_ended c e);
      puts = λ n q u e. absurd (nothing_sent n (op.Put q u) e);
      gets = λ n q e. absurd (nothing_sent n (op.Get q) e);
      calls = λ n o e. absurd (nothing_sent n o e);
    }
phased_taken g me s b (say.Refused r) alive read passes t = phased_refused s (input.Payload b) r s.awaiting refl passes.form t
phased_taken g me s b say.Kept alive read passes t = phased_kept s (input.Payload b) s.phase alive refl t
phased_taken g me s b (say.Content c) alive read passes t = phased_content s b c s.awaiting alive read refl passes.content t
phased_taken g me s b say.Gone alive read passes t = phased_halt s (input.Payload b) 1 t
phased_taken g me s b say.Absent alive read passes t = phased_halt s (input.Payload b) 1 t

phased_read : (g : Group) (me : ℕ) (s : Standing) (b : List ℕ) (m : Option ToClient) (k : Option ℕ) → s.halted ≡ None → read_answer b ≡ m → verdict_on g me s m ≡ k → AreBytes b
    → Together s.phase s.awaiting → Phased s (input.Payload b) (move_on_verdict me s m k)
phased_read g me s b m (Some k) alive read e h t = phased_halt s (input.Payload b) k t
phased_read g me s b (Some m) None alive read e h t = phased_taken g me s b m alive read (all_passed g me s m (answer_fits b m h read) e) t
phased_read g me s b None None alive read e h t = phased_halt s (input.Payload b) 1 t

phased_payload : (g : Group) (me : ℕ) (s : Standing) (b : List ℕ) (halted : Option ℕ) → s.halted ≡ halted → AreBytes b → Together s.phase s.awaiting → Phased s (input.Payload b) (move_on_payload g me s halted b)
unfolding verdict
phased_payload g me s b (Some k) e h t = phased_halt s (input.Payload b) k t
phased_payload g me s b None e h t = phased_read g me s b (read_answer b) (verdict_on g me s (read_answer b)) e refl refl h t

-- what each step that a client may make does to its call on objects
pub phased : (g : Group) (me : ℕ) (s : Standing) (i : Input) → MayStep g s i → Together s.phase s.awaiting → Phased s i (step g me s i)
unfolding step
phased g me s (input.Call o) may t = phased_call s (input.Call o) phase.Closed o false (closed_so (s.calls + 1) o false) closed_apart closed_kept (λ q u e. inl (ap input.Call e)) (λ q e. inl (ap input.Call e)) (inl refl)
phased g me s (input.Object c) may t = phased_object s c
phased g me s input.Poll may t =
    phased_closed s input.Poll awaits.Turn (Some Polls) None None s.phase (at_rest s.phase (subst (Together s.phase) (idle_nothing s.awaiting _ may) t)) turn_closed (λ c e. no_content s _ c e) (λ n o e. cc)
phased g me s input.Sync may t =
    phased_closed s input.Sync awaits.Entries (Some Syncs) None None s.phase (at_rest s.phase (subst (Together s.phase) (idle_nothing s.awaiting _ may) t)) entries_closed (λ c e. no_content s _ c e) (λ n o e. cc)
phased g me s (input.Payload b) may t = phased_payload g me s b s.halted refl may t
