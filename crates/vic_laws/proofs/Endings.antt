-- What a step returns of a call and of a call on objects, what it leaves open, and what it fetches.
use Rattle.std.specs.Prelude.{◌≡◌, ℕ, ◌+◌, ◌⊎◌, Bool, true, false, List, [], ◌∷◌, Option, Some, None}
use Rattle.std.proofs.Common.{refl, ap, subst, sym, ◌∙◌, inl, inr, true≢false}
use Rattle.std.proofs.lemmas.Bool.{and_parts}
use Rattle.vic_dict.specs.declared.op.Op.{Op}
use Rattle.vic_dict.specs.declared.op.Op.TheVariants as op
use Rattle.vic_dict.specs.declared.op.Entry.{Entry}
use Rattle.vic_dict.specs.declared.op.Answer.TheVariants as answer
use Rattle.vic_dict.specs.declared.op.Outcome.{Outcome}
use Rattle.vic_dict.specs.declared.op.Outcome.TheVariants as outcome
use Rattle.vic_dict.specs.declared.op.Mode.TheVariants as mode
use Rattle.vic_dict.specs.Lists.{AreBytes}
use Rattle.vic_wire.specs.declared.message.Digest32.{Digest32}
use Rattle.vic_wire.specs.declared.message.Seal.{Seal}
use Rattle.vic_wire.specs.declared.message.Tagged.{Tagged}
use Rattle.vic_wire.specs.declared.message.ToClient.{ToClient}
use Rattle.vic_wire.specs.declared.message.ToClient.TheVariants as say
use Rattle.vic_wire.specs.Hashes.{Group}
use Rattle.vic_wire.specs.Parts.{Part, read_part}
use Rattle.vic_wire.specs.Reading.{read_answer}
use Rattle.vic_spellings.proofs.SpelledAnswers.{answer_fits}
use Rattle.vic_rules.specs.declared.object.ObjectCall.{ObjectCall}
use Rattle.vic_rules.specs.declared.object.ObjectCall.TheVariants as object
use Rattle.vic_rules.specs.declared.object.ObjectOutcome.TheVariants as ended
use Rattle.vic_rules.specs.declared.object.Phase.{Phase}
use Rattle.vic_rules.specs.declared.object.Phase.TheVariants as phase
use Rattle.vic_rules.specs.declared.state.Own.{Own}
use Rattle.vic_rules.specs.declared.state.Awaiting.{Awaiting}
use Rattle.vic_rules.specs.declared.state.Awaiting.TheVariants as awaits
use Rattle.vic_rules.specs.declared.trace.Input.{Input}
use Rattle.vic_rules.specs.declared.trace.Input.TheVariants as input
use Rattle.vic_rules.specs.declared.trace.TraceStep.{TraceStep}
use Rattle.vic_rules.specs.Objects.{is_reference, reference_text, first_step, step_on_kept, after_decision, outcome_after_decision}
use Rattle.vic_rules.specs.Client.{Standing, Move, Sending, Invokes, Commits, Polls, Seals, Syncs, Keeps, Fetches, move_to_call, move_by_object_step, move_on_wait, move_on_refusal, move_on_reply, move_on_update, move_to_halt, is_load, is_awaited, is_wanted, decision, finds_reference, loads_reference, MayStep, move_on_answer, move_on_verdict, move_on_payload, step, verdict, verdict_on, path_with_entries}
use Rattle.vic_rules.specs.History.{standing, move_of, AreSteps}
use Rattle.vic_rules.specs.Views.{IsCompleted}
use Rattle.vic_rules.specs.Trust.{answer_unless_halted}
use Rattle.vic_laws.specs.ContentClaims.{IsTaken}
use Rattle.vic_laws.proofs.Words.{some_same, none_is_some}
use Rattle.vic_laws.proofs.Steps.{Passes}
use Rattle.vic_laws.proofs.StepKinds.{all_passed, takes_read, rests_turn, rests_nothing, awaits_update}
use Rattle.vic_laws.proofs.Phases.{Together, phased, wait_awaited, keeping_apart, closed_apart, calling_apart, nothing_closed}
use Rattle.vic_laws.proofs.Contents.{mode_apart, decision_found}
use Rattle.vic_laws.proofs.Paths.{at_each_standing}
use Rattle.vic_laws.proofs.Complete.{decision_completed}

-- the call that was awaited is decided
pub record Decided (s : Standing) (took : Option ToClient) (v : Move) : Type 0 where
  pub number : ℕ
  pub called : Op
  pub load : Bool
  pub ends : Outcome
  pub awaited : s.awaiting ≡ awaits.Reply number called load
  pub completes : IsCompleted ends
  pub returned : v.returns ≡ Some ends
  pub object : v.object ≡ outcome_after_decision s.phase ends
  pub turned : v.next.phase ≡ after_decision s.phase ends
  pub gets : (w : List ℕ) → ends ≡ outcome.Done (answer.Found w) → (k : List ℕ) × (called ≡ op.Get k)
  pub loads : (w : List ℕ) → ends ≡ outcome.Done (answer.Found w) → load ≡ true → is_reference w ≡ true
  pub no_content : (c : List ℕ) → took ≡ Some (say.Content c) → ⊥

-- it is refused
pub record RefusedCall (s : Standing) (took : Option ToClient) (v : Move) : Type 0 where
  pub number : ℕ
  pub called : Op
  pub load : Bool
  pub reason : ℕ
  pub awaited : s.awaiting ≡ awaits.Reply number called load
  pub returned : v.returns ≡ Some (outcome.Refused reason)
  pub object : v.object ≡ outcome_after_decision s.phase (outcome.Refused reason)
  pub no_content : (c : List ℕ) → took ≡ Some (say.Content c) → ⊥

-- the content of a store is refused
pub record RefusedContent (s : Standing) (took : Option ToClient) (v : Move) : Type 0 where
  pub reason : ℕ
  pub awaited : s.awaiting ≡ awaits.Kept
  pub returned : v.returns ≡ None
  pub object : v.object ≡ Some (ended.Refused reason)
  pub took_it : took ≡ Some (say.Refused reason)

-- the content of a load came
pub record GivesContent (s : Standing) (took : Option ToClient) (v : Move) : Type 0 where
  pub content : List ℕ
  pub digest : Digest32
  pub len : ℕ
  pub awaited : s.awaiting ≡ awaits.Content digest len
  pub returned : v.returns ≡ None
  pub object : v.object ≡ Some (ended.Content content)
  pub took_it : took ≡ Some (say.Content content)

pub record ReturnsNothing (took : Option ToClient) (v : Move) : Type 0 where
  pub returned : v.returns ≡ None
  pub object : v.object ≡ None
  pub no_refusal : (r : ℕ) → took ≡ Some (say.Refused r) → ⊥
  pub no_content : (c : List ℕ) → took ≡ Some (say.Content c) → ⊥

pub record ReturnsHalted (took : Option ToClient) (v : Move) : Type 0 where
  pub check : ℕ
  pub returned : v.returns ≡ Some (outcome.Halted check)
  pub object : v.object ≡ None
  pub took_none : took ≡ None

-- what a step returns
pub data Returned (s : Standing) (took : Option ToClient) (v : Move) : Type 0 where
  is_nothing : ReturnsNothing took v → Returned s took v
  is_decided : Decided s took v → Returned s took v
  is_refused : RefusedCall s took v → Returned s took v
  is_refused_content : RefusedContent s took v → Returned s took v
  is_content : GivesContent s took v → Returned s took v
  is_halted : ReturnsHalted took v → Returned s took v

-- in a group with objects a call that is open belongs to one on objects, and a get to a load
abbrev pub Calls : Standing → Type 0
Calls s = (n : ℕ) (o : Op) (load : Bool) → s.awaiting ≡ awaits.Reply n o load → (s.phase ≡ phase.Calling) × ((k : List ℕ) → o ≡ op.Get k → load ≡ true)

-- a content is to be fetched, or no answer is awaited
abbrev pub Left : Standing → Digest32 → ℕ → Type 0
Left s h len = (s.phase ≡ phase.Fetching h len) ⊎ (s.awaiting ≡ awaits.Nothing)

-- a content is asked for
pub record Fetched (s : Standing) (took : Option ToClient) (d : List ℕ) : Type 0 where
  pub took_it : took ≡ Some say.Wait
  pub digest : Digest32
  pub len : ℕ
  pub fetching : s.phase ≡ phase.Fetching digest len
  pub is : d ≡ digest.bytes

pub record Ending (g : Group) (s : Standing) (i : Input) (v : Move) : Type 0 where
  pub returned : Returned s (answer_unless_halted v.next i) v
  pub closed : g.mode ≡ mode.Plain → s.phase ≡ phase.Closed → v.next.phase ≡ phase.Closed
  pub calls : g.mode ≡ mode.Objects → Calls s → Calls v.next
  pub fetches : (d : List ℕ) → v.sends ≡ Some (Fetches d) → Fetched s (answer_unless_halted v.next i) d
  pub turn : answer_unless_halted v.next i ≡ Some say.Wait → s.awaiting ≡ awaits.Turn
  pub waits : answer_unless_halted v.next i ≡ Some say.Wait → (h : Digest32) (len : ℕ) → s.phase ≡ phase.Fetching h len → v.sends ≡ Some (Fetches h.bytes)
  pub keeps : (c : List ℕ) → v.sends ≡ Some (Keeps c) → (name : List ℕ) × (i ≡ input.Object (object.Store name c))
  pub kept : answer_unless_halted v.next i ≡ Some say.Kept → (o : Op) × (v.sends ≡ Some (Invokes (s.calls + 1) o))
  pub stays : IsTaken i → (h : Digest32) (len : ℕ) → Left s h len → Left v.next h len

-- ---- what is apart

no_fetch : (d : List ℕ) → ◌≡◌ {A = Option Sending} None (Some (Fetches d)) → ⊥
no_fetch d e = cc

-- a step keeps nothing that sends nothing, or something else
abbrev is_keep : Option Sending → Bool
is_keep None = false
is_keep (Some (Invokes n o)) = false
is_keep (Some (Commits done)) = false
is_keep (Some Polls) = false
is_keep (Some Seals) = false
is_keep (Some Syncs) = false
is_keep (Some (Keeps c)) = true
is_keep (Some (Fetches d)) = false

not_keep : (o : Option Sending) (c : List ℕ) → is_keep o ≡ false → o ≡ Some (Keeps c) → ⊥
not_keep o c none e = true≢false (sym (ap is_keep e) ∙ none)

commit_fetch : (done : Bool) (d : List ℕ) → Some (Commits done) ≡ Some (Fetches d) → ⊥
commit_fetch done d e = cc

seal_fetch : (d : List ℕ) → Some Seals ≡ Some (Fetches d) → ⊥
seal_fetch d e = cc

call_fetch : (n : ℕ) (o : Op) (d : List ℕ) → Some (Invokes n o) ≡ Some (Fetches d) → ⊥
call_fetch n o d e = cc

pub turn_nothing : awaits.Turn ≡ awaits.Nothing → ⊥
turn_nothing e = cc

kept_nothing : awaits.Kept ≡ awaits.Nothing → ⊥
kept_nothing e = cc

keeping_closed : (k : List ℕ) (g : Digest32) (l : ℕ) → phase.Keeping k g l ≡ phase.Closed → ⊥
keeping_closed k g l e = cc

-- an awaited Reply isn't that of a load that is fetching
no_reply : (n : ℕ) (o : Op) (load : Bool) (a : Awaiting) (h : Digest32) (len : ℕ) → a ≡ awaits.Reply n o load → Together (phase.Fetching h len) a → ⊥
no_reply n o load a h len e (inl f) = let w : awaits.Reply n o load ≡ awaits.Turn = sym e ∙ f in cc
no_reply n o load a h len e (inr f) = let w : awaits.Reply n o load ≡ awaits.Content h len = sym e ∙ f in cc

reply_left : (s : Standing) (n : ℕ) (o : Op) (load : Bool) → s.awaiting ≡ awaits.Reply n o load → Together s.phase s.awaiting → (h : Digest32) (len : ℕ) → Left s h len → ⊥
reply_left s n o load same t h len (inl e) = no_reply n o load s.awaiting h len same (subst (λ (p : Phase). Together p s.awaiting) e t)
reply_left s n o load same t h len (inr e) = rests_nothing n o load (sym e ∙ same)

-- what took one answer took no other
took_other : (m k : ToClient) (took : Option ToClient) → took ≡ Some m → (m ≡ k → ⊥) → took ≡ Some k → ⊥
took_other m k took e apart f = apart (some_same (sym e ∙ f))

quiet_return : (s : Standing) (took : Option ToClient) (v : Move) (m : ToClient) → v.returns ≡ None → v.object ≡ None → took ≡ Some m
    → ((r : ℕ) → m ≡ say.Refused r → ⊥) → ((c : List ℕ) → m ≡ say.Content c → ⊥) → Returned s took v
quiet_return s took v m returned object e refused content = is_nothing (record {
  returned = returned;
  object = object;
  no_refusal = λ r f. took_other m (say.Refused r) took e (refused r) f;
  no_content = λ c f. took_other m (say.Content c) took e (content c) f;
})

-- ---- each answer

ending_halt : (g : Group) (s : Standing) (b : List ℕ) (k : ℕ) → Ending g s (input.Payload b) (move_to_halt s k)
ending_halt g s b k = record {
  returned = is_halted (record { check = k; returned = refl; object = refl; took_none = refl });
  closed = λ plain e. e;
  calls = λ objects c. c;
  fetches = λ d e. absurd (no_fetch d e);
  turn = λ e. absurd (none_is_some e);
  waits = λ e h len f. absurd (none_is_some e);
  keeps = λ c e. absurd (not_keep None c refl e);
  kept = λ e. absurd (none_is_some e);
  stays = λ takes h len l. l;
}

ending_reply : (g : Group) (me : ℕ) (s : Standing) (b : List ℕ) (seal : Seal) (entries : List Tagged) (bytes : List ℕ) (path : List Entry) (part : Option Part) (a : Awaiting)
    → s.halted ≡ None → read_answer b ≡ Some (say.Reply seal entries bytes) → Together s.phase s.awaiting → s.awaiting ≡ a → loads_reference me s seal path part a ≡ true
    → Ending g s (input.Payload b) (move_on_reply me s seal path part a)
ending_reply g me s b seal entries bytes (e ∷ below) (Some part) (awaits.Reply n o load) alive read t same content =
    let ends : Outcome = decision me s below seal.position part o in
    let v : Move = move_on_reply me s seal (e ∷ below) (Some part) (awaits.Reply n o load) in
    let m : ToClient = say.Reply seal entries bytes in
    let it : answer_unless_halted v.next (input.Payload b) ≡ Some m = takes_read v.next b (Some m) alive read in
    record {
      returned = is_decided (record {
        number = n;
        called = o;
        load = load;
        ends = ends;
        awaited = same;
        completes = decision_completed me s below seal.position part o;
        returned = refl;
        object = refl;
        turned = refl;
        gets = λ w f. decision_found me s below seal.position part o w f;
        loads = λ w f l. ap finds_reference (sym f) ∙ subst (λ (z : Bool). loads_reference me s seal (e ∷ below) (Some part) (awaits.Reply n o z) ≡ true) l content;
        no_content = λ c f. took_other m (say.Content c) (answer_unless_halted v.next (input.Payload b)) it (λ w. cc) f;
      });
      closed = λ plain f. ap (λ (p : Phase). after_decision p ends) f;
      calls = λ objects c k q l f. absurd (rests_turn k q l f);
      fetches = λ d f. absurd (commit_fetch _ d f);
      turn = λ f. absurd (took_other m say.Wait (answer_unless_halted v.next (input.Payload b)) it (λ w. cc) f);
      waits = λ f h len w. absurd (took_other m say.Wait (answer_unless_halted v.next (input.Payload b)) it (λ w. cc) f);
      keeps = λ z f. absurd (not_keep v.sends z refl f);
      kept = λ f. absurd (took_other m say.Kept (answer_unless_halted v.next (input.Payload b)) it (λ w. cc) f);
      stays = λ takes h len l. absurd (reply_left s n o load same t h len l);
    }
ending_reply g me s b seal entries bytes [] part a alive read t same content = ending_halt g s b 1
ending_reply g me s b seal entries bytes (e ∷ below) None a alive read t same content = ending_halt g s b 1
ending_reply g me s b seal entries bytes (e ∷ below) (Some part) awaits.Nothing alive read t same content = ending_halt g s b 1
ending_reply g me s b seal entries bytes (e ∷ below) (Some part) awaits.Turn alive read t same content = ending_halt g s b 1
ending_reply g me s b seal entries bytes (e ∷ below) (Some part) awaits.Entries alive read t same content = ending_halt g s b 1
ending_reply g me s b seal entries bytes (e ∷ below) (Some part) awaits.Kept alive read t same content = ending_halt g s b 1
ending_reply g me s b seal entries bytes (e ∷ below) (Some part) (awaits.Content h len) alive read t same content = ending_halt g s b 1

ending_update : (g : Group) (s : Standing) (b : List ℕ) (seal : Seal) (bytes : List ℕ) (part : Option Part) (own : List Own) → s.halted ≡ None → read_answer b ≡ Some (say.Update seal bytes)
    → s.awaiting ≡ awaits.Turn → Ending g s (input.Payload b) (move_on_update s seal part own)
ending_update g s b seal bytes (Some part) (o ∷ others) alive read same =
    let v : Move = move_on_update s seal (Some part) (o ∷ others) in
    let m : ToClient = say.Update seal bytes in
    let it : answer_unless_halted v.next (input.Payload b) ≡ Some m = takes_read v.next b (Some m) alive read in
    record {
      returned = quiet_return s (answer_unless_halted v.next (input.Payload b)) v m refl refl it (λ r w. cc) (λ c w. cc);
      closed = λ plain f. f;
      calls = λ objects c k q l f. absurd (rests_turn k q l f);
      fetches = λ d f. absurd (seal_fetch d f);
      turn = λ f. same;
      waits = λ f h len w. absurd (took_other m say.Wait (answer_unless_halted v.next (input.Payload b)) it (λ w. cc) f);
      keeps = λ z f. absurd (not_keep v.sends z refl f);
      kept = λ f. absurd (took_other m say.Kept (answer_unless_halted v.next (input.Payload b)) it (λ w. cc) f);
      stays = λ takes h len l. elim l [ inl f ↦ inl f | inr f ↦ absurd (turn_nothing (sym same ∙ f)) ];
    }
ending_update g s b seal bytes None own alive read same = ending_halt g s b 1
ending_update g s b seal bytes (Some part) [] alive read same = ending_halt g s b 1

-- a Wait where no content is to be fetched
waits_quiet : (g : Group) (s : Standing) (b : List ℕ) → s.halted ≡ None → read_answer b ≡ Some say.Wait → s.awaiting ≡ awaits.Turn
    → ((h : Digest32) (len : ℕ) → s.phase ≡ phase.Fetching h len → ⊥) → Ending g s (input.Payload b) (move_on_wait s phase.Closed)
waits_quiet g s b alive read same apart =
    let v : Move = move_on_wait s phase.Closed in
    let it : answer_unless_halted v.next (input.Payload b) ≡ Some say.Wait = takes_read v.next b (Some say.Wait) alive read in
    record {
      returned = quiet_return s (answer_unless_halted v.next (input.Payload b)) v say.Wait refl refl it (λ r w. cc) (λ c w. cc);
      closed = λ plain f. f;
      calls = λ objects c k q l f. absurd (rests_nothing k q l f);
      fetches = λ d f. absurd (no_fetch d f);
      turn = λ f. same;
      waits = λ f h len w. absurd (apart h len w);
      keeps = λ z f. absurd (not_keep v.sends z refl f);
      kept = λ f. absurd (took_other say.Wait say.Kept (answer_unless_halted v.next (input.Payload b)) it (λ w. cc) f);
      stays = λ takes h len l. inr refl;
    }

ending_wait : (g : Group) (s : Standing) (b : List ℕ) (p : Phase) → s.halted ≡ None → read_answer b ≡ Some say.Wait → s.awaiting ≡ awaits.Turn → s.phase ≡ p → Ending g s (input.Payload b) (move_on_wait s p)
ending_wait g s b phase.Closed alive read same is = waits_quiet g s b alive read same (λ h len e. closed_apart h len (sym is ∙ e))
ending_wait g s b (phase.Keeping k d l) alive read same is = waits_quiet g s b alive read same (λ h len e. keeping_apart k d l h len (sym is ∙ e))
ending_wait g s b phase.Calling alive read same is = waits_quiet g s b alive read same (λ h len e. calling_apart h len (sym is ∙ e))
ending_wait g s b (phase.Fetching h len) alive read same is =
    let v : Move = move_on_wait s (phase.Fetching h len) in
    let it : answer_unless_halted v.next (input.Payload b) ≡ Some say.Wait = takes_read v.next b (Some say.Wait) alive read in
    record {
      returned = quiet_return s (answer_unless_halted v.next (input.Payload b)) v say.Wait refl refl it (λ r w. cc) (λ c w. cc);
      closed = λ plain f. f;
      calls = λ objects c k q l f. absurd (content_apart h len k q l f);
      fetches = λ d f. record { took_it = it; digest = h; len = len; fetching = is; is = fetch_same h.bytes d f };
      turn = λ f. same;
      waits = λ f k l w. ap (λ (d : Digest32). Some (Fetches d.bytes)) (digest_same h k len l (sym is ∙ w));
      keeps = λ z f. absurd (not_keep v.sends z refl f);
      kept = λ f. absurd (took_other say.Wait say.Kept (answer_unless_halted v.next (input.Payload b)) it (λ w. cc) f);
      stays = λ takes k l w. elim w [ inl f ↦ inl f | inr f ↦ absurd (turn_nothing (sym same ∙ f)) ];
    }
  where
    content_apart : (h : Digest32) (len n : ℕ) (o : Op) (load : Bool) → awaits.Content h len ≡ awaits.Reply n o load → ⊥
    content_apart h len n o load e = cc

    fetch_same : (a d : List ℕ) → Some (Fetches a) ≡ Some (Fetches d) → d ≡ a
    fetch_same a d e = cc

    digest_same : (h k : Digest32) (len l : ℕ) → phase.Fetching h len ≡ phase.Fetching k l → h ≡ k
    digest_same h k len l e = cc

ending_refused : (g : Group) (s : Standing) (b : List ℕ) (r : ℕ) (a : Awaiting) → s.halted ≡ None → read_answer b ≡ Some (say.Refused r) → Together s.phase s.awaiting → s.awaiting ≡ a
    → is_awaited a (say.Refused r) ≡ true → Ending g s (input.Payload b) (move_on_refusal s r a)
ending_refused g s b r awaits.Kept alive read t same form =
    let v : Move = move_on_refusal s r awaits.Kept in
    let m : ToClient = say.Refused r in
    let it : answer_unless_halted v.next (input.Payload b) ≡ Some m = takes_read v.next b (Some m) alive read in
    record {
      returned = is_refused_content (record { reason = r; awaited = same; returned = refl; object = refl; took_it = it });
      closed = λ plain f. refl;
      calls = λ objects c k q l f. absurd (rests_nothing k q l f);
      fetches = λ d f. absurd (no_fetch d f);
      turn = λ f. absurd (took_other m say.Wait (answer_unless_halted v.next (input.Payload b)) it (λ w. cc) f);
      waits = λ f h len w. absurd (took_other m say.Wait (answer_unless_halted v.next (input.Payload b)) it (λ w. cc) f);
      keeps = λ z f. absurd (not_keep v.sends z refl f);
      kept = λ f. absurd (took_other m say.Kept (answer_unless_halted v.next (input.Payload b)) it (λ w. cc) f);
      stays = λ takes h len l. inr refl;
    }
ending_refused g s b r (awaits.Reply n o load) alive read t same form =
    let v : Move = move_on_refusal s r (awaits.Reply n o load) in
    let m : ToClient = say.Refused r in
    let it : answer_unless_halted v.next (input.Payload b) ≡ Some m = takes_read v.next b (Some m) alive read in
    record {
      returned = is_refused (record {
        number = n;
        called = o;
        load = load;
        reason = r;
        awaited = same;
        returned = refl;
        object = refl;
        no_content = λ c f. took_other m (say.Content c) (answer_unless_halted v.next (input.Payload b)) it (λ w. cc) f;
      });
      closed = λ plain f. ap (λ (p : Phase). after_decision p (outcome.Refused r)) f;
      calls = λ objects c k q l f. absurd (rests_nothing k q l f);
      fetches = λ d f. absurd (no_fetch d f);
      turn = λ f. absurd (took_other m say.Wait (answer_unless_halted v.next (input.Payload b)) it (λ w. cc) f);
      waits = λ f h len w. absurd (took_other m say.Wait (answer_unless_halted v.next (input.Payload b)) it (λ w. cc) f);
      keeps = λ z f. absurd (not_keep v.sends z refl f);
      kept = λ f. absurd (took_other m say.Kept (answer_unless_halted v.next (input.Payload b)) it (λ w. cc) f);
      stays = λ takes h len l. inr refl;
    }
ending_refused g s b r awaits.Nothing alive read t same form = absurd (true≢false (sym form))
ending_refused g s b r awaits.Turn alive read t same form = absurd (true≢false (sym form))
ending_refused g s b r awaits.Entries alive read t same form = absurd (true≢false (sym form))
ending_refused g s b r (awaits.Content h len) alive read t same form = absurd (true≢false (sym form))

reply_same : (n m : ℕ) (o q : Op) (l k : Bool) → awaits.Reply n o l ≡ awaits.Reply m q k → (o ≡ q) × (l ≡ k)
reply_same n m o q l k e = (cc, cc)

put_get : (k v n : List ℕ) → op.Put k v ≡ op.Get n → ⊥
put_get k v n e = cc

del_get : (k n : List ℕ) → op.Del k ≡ op.Get n → ⊥
del_get k n e = cc

list_get : (k n : List ℕ) → op.List k ≡ op.Get n → ⊥
list_get k n e = cc

-- a call that isn't a get
calls_other : (s : Standing) (o : Op) → ((k : List ℕ) → o ≡ op.Get k → ⊥) → Calls (move_to_call s phase.Calling o false).next
calls_other s o apart n q load e = (refl, λ k f. absurd (apart k ((reply_same (s.calls + 1) n o q false load e).0 ∙ f)))

ending_kept : (g : Group) (s : Standing) (b : List ℕ) (p : Phase) → s.halted ≡ None → read_answer b ≡ Some say.Kept → Together s.phase s.awaiting → s.phase ≡ p
    → Ending g s (input.Payload b) (move_by_object_step s false (step_on_kept p))
ending_kept g s b (phase.Keeping k d len) alive read t is =
    let o : Op = op.Put k (reference_text d.bytes len) in
    let v : Move = move_to_call s phase.Calling o false in
    let m : ToClient = say.Kept in
    let it : answer_unless_halted v.next (input.Payload b) ≡ Some m = takes_read v.next b (Some m) alive read in
    let kept : s.awaiting ≡ awaits.Kept = subst (λ (p : Phase). Together p s.awaiting) is t in
    record {
      returned = quiet_return s (answer_unless_halted v.next (input.Payload b)) v m refl refl it (λ r w. cc) (λ c w. cc);
      closed = λ plain f. absurd (keeping_closed k d len (sym is ∙ f));
      calls = λ objects c. calls_other s o (put_get k (reference_text d.bytes len));
      fetches = λ h f. absurd (call_fetch (s.calls + 1) o h f);
      turn = λ f. absurd (took_other m say.Wait (answer_unless_halted v.next (input.Payload b)) it (λ w. cc) f);
      waits = λ f h l w. absurd (took_other m say.Wait (answer_unless_halted v.next (input.Payload b)) it (λ w. cc) f);
      keeps = λ c f. absurd (not_keep v.sends c refl f);
      kept = λ f. (o, refl);
      stays = λ takes h l w. elim w [ inl f ↦ absurd (keeping_apart k d len h l (sym is ∙ f)) | inr f ↦ absurd (kept_nothing (sym kept ∙ f)) ];
    }
ending_kept g s b phase.Closed alive read t is = ending_halt g s b 1
ending_kept g s b phase.Calling alive read t is = ending_halt g s b 1
ending_kept g s b (phase.Fetching h len) alive read t is = ending_halt g s b 1

ending_content : (g : Group) (me : ℕ) (s : Standing) (b c : List ℕ) (a : Awaiting) → s.halted ≡ None → read_answer b ≡ Some (say.Content c) → s.awaiting ≡ a → is_wanted a c ≡ true
    → Ending g s (input.Payload b) (move_on_answer me s (say.Content c))
ending_content g me s b c (awaits.Content h len) alive read same wanted =
    let v : Move = move_on_answer me s (say.Content c) in
    let m : ToClient = say.Content c in
    let it : answer_unless_halted v.next (input.Payload b) ≡ Some m = takes_read v.next b (Some m) alive read in
    record {
      returned = is_content (record { content = c; digest = h; len = len; awaited = same; returned = refl; object = refl; took_it = it });
      closed = λ plain f. refl;
      calls = λ objects w k q l f. absurd (rests_nothing k q l f);
      fetches = λ d f. absurd (no_fetch d f);
      turn = λ f. absurd (took_other m say.Wait (answer_unless_halted v.next (input.Payload b)) it (λ w. cc) f);
      waits = λ f d l w. absurd (took_other m say.Wait (answer_unless_halted v.next (input.Payload b)) it (λ w. cc) f);
      keeps = λ z f. absurd (not_keep v.sends z refl f);
      kept = λ f. absurd (took_other m say.Kept (answer_unless_halted v.next (input.Payload b)) it (λ w. cc) f);
      stays = λ takes d l w. inr refl;
    }
ending_content g me s b c awaits.Nothing alive read same wanted = absurd (true≢false (sym wanted))
ending_content g me s b c (awaits.Reply n o load) alive read same wanted = absurd (true≢false (sym wanted))
ending_content g me s b c awaits.Turn alive read same wanted = absurd (true≢false (sym wanted))
ending_content g me s b c awaits.Entries alive read same wanted = absurd (true≢false (sym wanted))
ending_content g me s b c awaits.Kept alive read same wanted = absurd (true≢false (sym wanted))

ending_entries : (g : Group) (me : ℕ) (s : Standing) (b : List ℕ) (seal : Seal) (entries : List Tagged) → s.halted ≡ None → read_answer b ≡ Some (say.Entries seal entries)
    → Ending g s (input.Payload b) (move_on_answer me s (say.Entries seal entries))
ending_entries g me s b seal entries alive read =
    let v : Move = move_on_answer me s (say.Entries seal entries) in
    let m : ToClient = say.Entries seal entries in
    let it : answer_unless_halted v.next (input.Payload b) ≡ Some m = takes_read v.next b (Some m) alive read in
    record {
      returned = quiet_return s (answer_unless_halted v.next (input.Payload b)) v m refl refl it (λ r w. cc) (λ c w. cc);
      closed = λ plain f. f;
      calls = λ objects w k q l f. absurd (rests_nothing k q l f);
      fetches = λ d f. absurd (no_fetch d f);
      turn = λ f. absurd (took_other m say.Wait (answer_unless_halted v.next (input.Payload b)) it (λ w. cc) f);
      waits = λ f d l w. absurd (took_other m say.Wait (answer_unless_halted v.next (input.Payload b)) it (λ w. cc) f);
      keeps = λ z f. absurd (not_keep v.sends z refl f);
      kept = λ f. absurd (took_other m say.Kept (answer_unless_halted v.next (input.Payload b)) it (λ w. cc) f);
      stays = λ takes d l w. inr refl;
    }

ending_taken : (g : Group) (me : ℕ) (s : Standing) (b : List ℕ) (m : ToClient) → s.halted ≡ None → read_answer b ≡ Some m → Passes g me s m → Together s.phase s.awaiting
    → Ending g s (input.Payload b) (move_on_answer me s m)
ending_taken g me s b say.Hi alive read passes t = ending_halt g s b 1
ending_taken g me s b (say.Reply seal entries bytes) alive read passes t = ending_reply g me s b seal entries bytes (path_with_entries s entries) (read_part bytes) s.awaiting alive read t refl passes.content
ending_taken g me s b say.Wait alive read passes t = ending_wait g s b s.phase alive read (wait_awaited s.awaiting passes.form) refl
ending_taken g me s b (say.Update seal bytes) alive read passes t =
    ending_update g s b seal bytes (read_part bytes) s.own alive read (awaits_update s.awaiting seal bytes (and_parts (is_awaited s.awaiting (say.Update seal bytes)) _ passes.form).0)
ending_taken g me s b (say.Entries seal entries) alive read passes t = ending_entries g me s b seal entries alive read
ending_taken g me s b (say.Refused r) alive read passes t = ending_refused g s b r s.awaiting alive read t refl passes.form
ending_taken g me s b say.Kept alive read passes t = ending_kept g s b s.phase alive read t refl
ending_taken g me s b (say.Content c) alive read passes t = ending_content g me s b c s.awaiting alive read refl passes.content
ending_taken g me s b say.Gone alive read passes t = ending_halt g s b 1
ending_taken g me s b say.Absent alive read passes t = ending_halt g s b 1

ending_read : (g : Group) (me : ℕ) (s : Standing) (b : List ℕ) (m : Option ToClient) (k : Option ℕ) → s.halted ≡ None → read_answer b ≡ m → verdict_on g me s m ≡ k → AreBytes b
    → Together s.phase s.awaiting → Ending g s (input.Payload b) (move_on_verdict me s m k)
ending_read g me s b m (Some k) alive read e h t = ending_halt g s b k
ending_read g me s b (Some m) None alive read e h t = ending_taken g me s b m alive read (all_passed g me s m (answer_fits b m h read) e) t
ending_read g me s b None None alive read e h t = ending_halt g s b 1

ending_payload : (g : Group) (me : ℕ) (s : Standing) (b : List ℕ) (halted : Option ℕ) → s.halted ≡ halted → AreBytes b → Together s.phase s.awaiting → Ending g s (input.Payload b) (move_on_payload g me s halted b)
unfolding verdict
ending_payload g me s b (Some k) e h t = ending_halt g s b k
ending_payload g me s b None e h t = ending_read g me s b (read_answer b) (verdict_on g me s (read_answer b)) e refl refl h t

-- ---- what is asked

-- a step that isn't a payload's returns nothing
asked_nothing : (s : Standing) (i : Input) (v : Move) → answer_unless_halted v.next i ≡ None → v.returns ≡ None → v.object ≡ None → Returned s (answer_unless_halted v.next i) v
asked_nothing s i v none returned object = is_nothing (record {
  returned = returned;
  object = object;
  no_refusal = λ r e. none_is_some (sym none ∙ e);
  no_content = λ c e. none_is_some (sym none ∙ e);
})

ending_asked : (g : Group) (s : Standing) (i : Input) (v : Move) → answer_unless_halted v.next i ≡ None → v.returns ≡ None → v.object ≡ None → (IsTaken i → ⊥)
    → (g.mode ≡ mode.Plain → s.phase ≡ phase.Closed → v.next.phase ≡ phase.Closed) → (g.mode ≡ mode.Objects → Calls s → Calls v.next) → ((d : List ℕ) → v.sends ≡ Some (Fetches d) → ⊥)
    → ((c : List ℕ) → v.sends ≡ Some (Keeps c) → (name : List ℕ) × (i ≡ input.Object (object.Store name c))) → Ending g s i v
ending_asked g s i v none returned object asks closed calls apart keeps = record {
  returned = asked_nothing s i v none returned object;
  closed = closed;
  calls = calls;
  fetches = λ d e. absurd (apart d e);
  turn = λ e. absurd (none_is_some (sym none ∙ e));
  waits = λ e h len f. absurd (none_is_some (sym none ∙ e));
  keeps = keeps;
  kept = λ e. absurd (none_is_some (sym none ∙ e));
  stays = λ takes h len l. absurd (asks takes);
}

ending_object : (g : Group) (s : Standing) (c : ObjectCall) → g.mode ≡ mode.Objects → Ending g s (input.Object c) (move_by_object_step s (is_load c) (first_step c))
ending_object g s (object.Store k c) objects =
    ending_asked g s (input.Object (object.Store k c)) _ refl refl refl (λ w. w) (λ plain e. absurd (mode_apart objects plain)) (λ w f n o load e. absurd (kept_reply n o load e)) (λ d e. keep_fetch c d e)
    (λ d e. (k, ap (λ (b : List ℕ). input.Object (object.Store k b)) (same_content c d e)))
  where
    kept_reply : (n : ℕ) (o : Op) (load : Bool) → awaits.Kept ≡ awaits.Reply n o load → ⊥
    kept_reply n o load e = cc

    keep_fetch : (c d : List ℕ) → Some (Keeps c) ≡ Some (Fetches d) → ⊥
    keep_fetch c d e = cc

    same_content : (c d : List ℕ) → Some (Keeps c) ≡ Some (Keeps d) → c ≡ d
    same_content c d e = cc
ending_object g s (object.Load k) objects =
    ending_asked g s (input.Object (object.Load k)) _ refl refl refl (λ w. w) (λ plain e. absurd (mode_apart objects plain))
    (λ w f n o load e. (refl, λ q g. sym (reply_same (s.calls + 1) n (op.Get k) o true load e).1)) (λ d e. call_fetch (s.calls + 1) (op.Get k) d e) (λ c e. absurd (not_keep (Some (Invokes _ _)) c refl e))
ending_object g s (object.Erase k) objects =
    ending_asked g s (input.Object (object.Erase k)) _ refl refl refl (λ w. w) (λ plain e. absurd (mode_apart objects plain)) (λ w f. calls_other s (op.Del k) (del_get k)) (λ d e. call_fetch (s.calls + 1) (op.Del k) d e) (λ c e. absurd (not_keep (Some (Invokes _ _)) c refl e))
ending_object g s (object.Names p) objects =
    ending_asked g s (input.Object (object.Names p)) _ refl refl refl (λ w. w) (λ plain e. absurd (mode_apart objects plain)) (λ w f. calls_other s (op.List p) (list_get p)) (λ d e. call_fetch (s.calls + 1) (op.List p) d e) (λ c e. absurd (not_keep (Some (Invokes _ _)) c refl e))

-- what each step that a client may make returns, leaves and fetches
pub ending : (g : Group) (me : ℕ) (s : Standing) (i : Input) → MayStep g s i → Together s.phase s.awaiting → Ending g s i (step g me s i)
unfolding step
ending g me s (input.Call o) may t =
    ending_asked g s (input.Call o) _ refl refl refl (λ w. w) (λ plain e. refl) (λ objects c. absurd (mode_apart objects may.1.0)) (λ d e. call_fetch (s.calls + 1) o d e) (λ c e. absurd (not_keep (Some (Invokes _ _)) c refl e))
ending g me s (input.Object c) may t = ending_object g s c may.1.0
ending g me s input.Poll may t = ending_asked g s input.Poll _ refl refl refl (λ w. w) (λ plain e. e) (λ objects c n o load e. absurd (rests_turn n o load e)) (λ d e. cc) (λ c e. absurd (not_keep (Some Polls) c refl e))
ending g me s input.Sync may t = ending_asked g s input.Sync _ refl refl refl (λ w. w) (λ plain e. e) (λ objects c n o load e. absurd cc) (λ d e. cc) (λ c e. absurd (not_keep (Some Syncs) c refl e))
ending g me s (input.Payload b) may t = ending_payload g me s b s.halted refl may t

-- ---- along a history

-- where a client stands: what it awaits goes with its call on objects, and that with the group's mode
pub record Stands (g : Group) (s : Standing) : Type 0 where
  pub together : Together s.phase s.awaiting
  pub closed : g.mode ≡ mode.Plain → s.phase ≡ phase.Closed
  pub calls : g.mode ≡ mode.Objects → Calls s

stands_on : (g : Group) (me : ℕ) (s : Standing) (i : Input) → MayStep g s i → Stands g s → Stands g (step g me s i).next
stands_on g me s i may t =
    let e : Ending g s i (step g me s i) = ending g me s i may t.together in
    record {
      together = (phased g me s i may t.together).together;
      closed = λ plain. e.closed plain (t.closed plain);
      calls = λ objects. e.calls objects (t.calls objects);
    }

pub stands : (g : Group) (h : List TraceStep) → AreSteps g h → (me : ℕ) → Stands g (standing g me h)
stands g h steps me =
    at_each_standing g (λ j s. Stands g s) (λ j. record { together = nothing_closed; closed = λ plain. refl; calls = λ objects n o load e. absurd (rests_nothing n o load e) }) (stands_on g) h steps me

pub ending_at : (g : Group) (x : TraceStep) (past : List TraceStep) → AreSteps g (x ∷ past) → Ending g (standing g x.client past) x.input (move_of g past x)
ending_at g x past steps = ending g x.client (standing g x.client past) x.input steps.1.may (stands g past steps.0 x.client).together
