-- Each step that a client may make is of one of the five kinds.
use Rattle.std.specs.Prelude.{◌≡◌, ℕ, ◌+◌, ◌-◌, ◌≤◌, ◌⊎◌, Bool, true, false, ◌&&◌, List, [], ◌∷◌, ◌++◌, length, map, Option, Some, None, is_some, is_none, nat_le, nat_lt, nat_eq, if◌then◌else◌, not, ◌||◌}
use Rattle.std.specs.List.{AllByRecursion}
use Rattle.std.specs.Str.{bytes_eq}
use Rattle.std.proofs.Common.{refl, ap, subst, sym, ◌∙◌, inl, inr, true≢false, arith, append_assoc}
use Rattle.std.proofs.lemmas.Bool.{and_parts, eqb-true, eqb-false, leb-true, ltb-true, or_cases, not-true}
use Rattle.vic_dict.specs.declared.op.Op.{Op}
use Rattle.vic_dict.specs.declared.op.Entry.{Entry}
use Rattle.vic_dict.specs.declared.op.Outcome.{Outcome}
use Rattle.vic_dict.specs.declared.op.Outcome.TheVariants as outcome
use Rattle.vic_dict.specs.Lists.{IsIn, AreBytes}
use Rattle.vic_wire.specs.declared.message.Seal.{Seal}
use Rattle.vic_wire.specs.declared.message.Tagged.{Tagged}
use Rattle.vic_wire.specs.declared.message.ToClient.{ToClient}
use Rattle.vic_wire.specs.declared.message.ToClient.TheVariants as say
use Rattle.vic_wire.specs.Texts.{invoke_text}
use Rattle.vic_wire.specs.Hashes.{Group, tag_of}
use Rattle.vic_wire.specs.Messages.{HasSpelling, IsEntry, IsSeal, IsTagged, answer_text, seal_field, entries_field}
use Rattle.vic_wire.specs.Parts.{Part, read_part, part_root, reaches}
use Rattle.vic_wire.specs.Reading.{read_answer}
use Rattle.vic_rules.specs.declared.state.Own.{Own}
use Rattle.vic_rules.specs.declared.state.Awaiting.{Awaiting}
use Rattle.vic_rules.specs.declared.state.Awaiting.TheVariants as awaits
use Rattle.vic_rules.specs.declared.trace.Input.{Input}
use Rattle.vic_rules.specs.declared.trace.Input.TheVariants as input
use Rattle.vic_rules.specs.Client.{is_write, Standing, Sending, Polls, Syncs, move_without_object, IsIdle, MayStep, awaits_nothing, onto, newest_first, path_with_entries, is_awaited, has_form, has_members, has_tags, has_turn, is_other, is_reply_to, is_not_older, is_sealed, keeps_own, has_root, has_open_op, has_own_op, is_next, is_proved, entries_of, seal_of, seal_text_on, first_failing, verdict_on, verdict, move_to_halt, move_on_reply, move_on_outcome, move_on_update, move_to_seal, move_on_entries, new_root, decision, is_done, move_on_answer, move_on_verdict, move_on_payload, step, has_content, move_to_call, move_on_wait, move_by_object_step, move_on_refusal, move_with_object, Invokes, Commits, Seals, Keeps, Fetches}
use Rattle.vic_rules.specs.Trust.{answer_unless_halted, checked_texts, seal_texts, parts_in, text_sent}
use Rattle.std.specs.Prelude.{◌<◌, ◌^◌}
use Rattle.std.specs.Int.{w32, to_be_bytes}
use Rattle.std.proofs.Common.{length-append}
use Rattle.sha2.proofs.Facts256.{length-sha256}
use Rattle.vic_spellings.proofs.Bytes.{bytes-w32, bytes-sha256}
use Rattle.vic_dict.specs.Dictionary.{Fits, AreBytesIn}
use Rattle.vic_dict.specs.declared.op.Op.TheVariants as op
use Rattle.vic_dict.specs.declared.op.Answer.{Answer}
use Rattle.vic_dict.specs.declared.op.Answer.TheVariants as answer
use Rattle.vic_dict.proofs.ByteLists.{AreBytes-append}
use Rattle.vic_wire.specs.declared.message.Digest32.{Digest32}
use Rattle.vic_wire.specs.Texts.{content_text}
use Rattle.vic_rules.specs.declared.object.ObjectCall.{ObjectCall}
use Rattle.vic_rules.specs.declared.object.ObjectCall.TheVariants as object
use Rattle.vic_rules.specs.declared.object.ObjectOutcome.{ObjectOutcome}
use Rattle.vic_rules.specs.declared.object.Phase.{Phase}
use Rattle.vic_rules.specs.declared.object.Phase.TheVariants as phase
use Rattle.vic_rules.specs.Objects.{FitsObject, AreBytesInObject, reference_text, is_reference, first_step, step_on_kept, step_on_answer, after_decision, ObjectStep}
use Rattle.vic_rules.specs.Client.{is_load}
use Rattle.vic_rules.specs.History.{completion}
use Rattle.vic_spellings.proofs.SpelledAnswers.{answer_fits, answer_spelled}
use Rattle.vic_laws.proofs.Words.{some_same, some_of, none_of, none_is_some, all_true, all_weaker, in_right, are_bytes_after, bytes_same, entry_same}
use Rattle.vic_laws.proofs.Steps.{Passes, PhaseFits, IsOther, call_of, StandsAbove, Sealing, Arrived, Quiet, Kind, is_quiet, is_called, is_replied, is_updated, is_listed}

-- ---- entries put onto a path

pub onto_is : (ts : List Tagged) (p : List Entry) → onto ts p ≡ newest_first ts ++ p
onto_is [] p = refl
onto_is (t ∷ ts) p = onto_is ts (t.entry ∷ p) ∙ (sym (append_assoc (newest_first ts) (t.entry ∷ []) p) ∙ ap (λ x. x ++ p) (sym (onto_is ts (t.entry ∷ []))))

pub length-onto : (ts : List Tagged) (p : List Entry) → length (onto ts p) ≡ length p + length ts
length-onto [] p = omega arith
length-onto (t ∷ ts) p = omega (arith, length-onto ts (t.entry ∷ p))

pub onto_all : (P : Entry → Type 0) (ts : List Tagged) (p : List Entry) → AllByRecursion (λ t. P t.entry) ts → AllByRecursion P p → AllByRecursion P (onto ts p)
onto_all P [] p a b = b
onto_all P (t ∷ ts) p a b = onto_all P ts (t.entry ∷ p) a.1 (a.0, b)

-- an entry of the new path is one of the list, or stood there
pub onto_in : (text : Entry → List ℕ) (ts : List Tagged) (p : List Entry) (e : Entry) → IsIn (onto ts p) e → IsIn (map (λ t. text t.entry) ts) (text e) ⊎ IsIn p e
onto_in text [] p e i = inr i
onto_in text (t ∷ ts) p e i = elim (onto_in text ts (t.entry ∷ p) e i) [ inl a ↦ inl (inr a) | inr b ↦ later b ]
  where
    later : IsIn (t.entry ∷ p) e → IsIn (map (λ u. text u.entry) (t ∷ ts)) (text e) ⊎ IsIn p e
    later (inl x) = inl (inl (ap text x))
    later (inr x) = inr x

-- ---- what single checks show

pub all_five : (a b c d e : Bool) → (a && (b && (c && (d && e)))) ≡ true → (a ≡ true) × (b ≡ true) × (c ≡ true) × (d ≡ true) × (e ≡ true)
all_five a b c d e h =
    let p = and_parts a (b && (c && (d && e))) h in
    let q = and_parts b (c && (d && e)) p.1 in
    let r = and_parts c (d && e) q.1 in
    let t = and_parts d e r.1 in
    (p.0, q.0, r.0, t.0, t.1)

pub all_four : (a b c d : Bool) → (a && (b && (c && d))) ≡ true → (a ≡ true) × (b ≡ true) × (c ≡ true) × (d ≡ true)
all_four a b c d h =
    let p = and_parts a (b && (c && d)) h in
    let q = and_parts b (c && d) p.1 in
    let r = and_parts c d q.1 in
    (p.0, q.0, r.0, r.1)

passed : (n : ℕ) (b : Bool) (cs : List (ℕ × Bool)) → first_failing ((n, b) ∷ cs) ≡ None → (b ≡ true) × (first_failing cs ≡ None)
passed n true cs e = (refl, e)
passed n false cs e = absurd cc

-- each of the checks passes where none fails
each_passed : (cs : List (ℕ × Bool)) → first_failing cs ≡ None → AllByRecursion (λ c. c.1 ≡ true) cs
each_passed [] e = tt
each_passed (c ∷ cs) e = let p = passed c.0 c.1 cs e in (p.0, each_passed cs p.1)

-- a verdict of none shows all nine
pub all_passed : (g : Group) (me : ℕ) (s : Standing) (m : ToClient) → HasSpelling m → verdict_on g me s (Some m) ≡ None → Passes g me s m
all_passed g me s m spelled e =
    let p = each_passed ((1, has_form s m) ∷ (2, has_members g me s m) ∷ (3, has_tags g m) ∷ (4, is_not_older s (seal_of m))
    ∷ (5, is_sealed g (path_with_entries s (entries_of m)) (seal_of m)) ∷ (6, keeps_own s (seal_of m)) ∷ (7, is_proved s m) ∷ (8, has_turn s m) ∷ (9, has_content me s m) ∷ []) e in
    record {
      form = p.0;
      members = p.1.0;
      tags = p.1.1.0;
      goes = p.1.1.1.0;
      sealing = p.1.1.1.1.0;
      own = p.1.1.1.1.1.0;
      proof = p.1.1.1.1.1.1.0;
      turn = p.1.1.1.1.1.1.1.0;
      content = p.1.1.1.1.1.1.1.1.0;
      spelled = spelled;
    }

other_shown : (count me : ℕ) (e : Entry) → is_other count me e ≡ true → IsOther count me e
other_shown count me e h = let p = and_parts _ _ h in (leb-true _ _ p.0, eqb-false _ _ (not-true _ p.1))

pub reply_to_shown : (count me seq : ℕ) (o : Op) (load : Bool) (es : List Entry) → is_reply_to count me (awaits.Reply seq o load) es ≡ true
    → (others : List Entry) × (es ≡ call_of me seq o ∷ others) × AllByRecursion (IsOther count me) others
reply_to_shown count me seq o load [] h = absurd (true≢false (sym h))
reply_to_shown count me seq o load (e ∷ others) h =
    let p = and_parts _ _ h in
    let q = and_parts _ _ p.1 in
    (others, ap (λ x. x ∷ others) (entry_same e (call_of me seq o) q.0), all_true (is_other count me) (IsOther count me) (other_shown count me) others q.1)

awaits_reply : (a : Awaiting) (seal : Seal) (entries : List Tagged) (part : List ℕ) → is_awaited a (say.Reply seal entries part) ≡ true
    → (seq : ℕ) × (o : Op) × (load : Bool) × (a ≡ awaits.Reply seq o load)
awaits_reply (awaits.Reply n o load) seal entries part e = (n, o, load, refl)
awaits_reply _ seal entries part e = absurd (true≢false (sym e))

pub awaits_update : (a : Awaiting) (seal : Seal) (part : List ℕ) → is_awaited a (say.Update seal part) ≡ true → a ≡ awaits.Turn
awaits_update awaits.Turn seal part e = refl
awaits_update _ seal part e = absurd (true≢false (sym e))

pub awaits_entries : (a : Awaiting) (seal : Seal) (entries : List Tagged) → is_awaited a (say.Entries seal entries) ≡ true → a ≡ awaits.Entries
awaits_entries awaits.Entries seal entries e = refl
awaits_entries _ seal entries e = absurd (true≢false (sym e))

sealing_from : (g : Group) (s : Standing) (p : List Entry) (seal : Seal) → IsSeal seal → is_not_older s (Some seal) ≡ true → is_sealed g p (Some seal) ≡ true
    → keeps_own s (Some seal) ≡ true → seal.position ≤ length p → Sealing g s p seal
sealing_from g s p seal spelled goes holds own within = record {
  spelled = spelled;
  goes = leb-true _ _ goes;
  within = within;
  own = all_true _ (StandsAbove seal.position) (λ o. ltb-true seal.position o.position) s.own own;
  tag = elim (or_cases (nat_eq seal.position 0) (bytes_eq seal.tag.bytes (tag_of g.key (seal_text_on g p seal.position seal.root.bytes))) holds) [ inl a ↦ inl (eqb-true _ _ a) | inr b ↦ inr (bytes_same _ _ b) ];
}

arrived_from : (ts : List Tagged) (news : List Entry) (before : List (List ℕ)) → newest_first ts ≡ news → AllByRecursion IsTagged ts
    → Arrived (before ++ map (λ t. invoke_text t.entry) ts) news
arrived_from ts news before e tagged = subst (λ x. Arrived (before ++ map (λ t. invoke_text t.entry) ts) x) e (record {
  spelled = onto_all IsEntry ts [] (all_weaker IsTagged (λ t. IsEntry t.entry) (λ t h. h.entry) ts tagged) tt;
  checked = λ x i. elim (onto_in invoke_text ts [] x i) [ inl a ↦ in_right before _ _ a | inr b ↦ absurd b ];
})

-- ---- quiet steps

quiet_halt : (g : Group) (me k : ℕ) (s : Standing) (b : List ℕ) → ((j : ℕ) → s.halted ≡ Some j → k ≡ j) → Quiet g me s (input.Payload b) (move_to_halt s k)
quiet_halt g me k s b same = record {
  path = refl;
  sealed = refl;
  root = refl;
  own = refl;
  calls = refl;
  stays = λ j e. ap Some (same j e);
  rests = λ n o load e f. cc;
  calls_nothing = λ n o e. absurd (none_is_some e);
  opens = λ f. f;
  sends_nothing = refl;
  completes_nothing = λ c p. refl;
  checks_nothing = λ p. refl;
  seals_nothing = λ m e. absurd cc;
  shows_nothing = refl;
}

-- what is taken where the client goes on
pub takes_read : (after : Standing) (b : List ℕ) (m : Option ToClient) → after.halted ≡ None → read_answer b ≡ m → answer_unless_halted after (input.Payload b) ≡ m
takes_read after b m e r = ap (λ h. if is_none h then read_answer b else None) e ∙ r

-- a quiet answer: where the client goes, what it sends, and what it returns
quiet_answer : (g : Group) (me : ℕ) (s : Standing) (b : List ℕ) (m : ToClient) (a : Awaiting) (turned : Phase) (sends : Option Sending) (returns : Option Outcome) (object : Option ObjectOutcome)
    → s.halted ≡ None → read_answer b ≡ Some m
    → seal_of m ≡ None → entries_of m ≡ [] → parts_in (Some m) ≡ [] → ((p : List Entry) → checked_texts g p (Some m) ≡ []) → ((c : ℕ) (p : List Entry) → completion c p returns ≡ [])
    → ((n : ℕ) (o : Op) (load : Bool) → a ≡ awaits.Reply n o load → ⊥) → ((n : ℕ) (o : Op) → sends ≡ Some (Invokes n o) → ⊥) → ((x : Standing) → text_sent g me x sends ≡ [])
    → (PhaseFits s.calls s.phase → PhaseFits s.calls turned)
    → Quiet g me s (input.Payload b) (move_with_object (record s { awaiting = a; phase = turned }) sends returns object)
quiet_answer g me s b m a turned sends returns object alive r e1 e2 e3 e4 e5 waits calls silent opens =
    let t : answer_unless_halted (record s { awaiting = a; phase = turned }) (input.Payload b) ≡ Some m = takes_read (record s { awaiting = a; phase = turned }) b (Some m) alive r in
    record {
      path = refl;
      sealed = refl;
      root = refl;
      own = refl;
      calls = refl;
      stays = λ j e. e;
      rests = λ n o load e f. waits n o load f;
      calls_nothing = calls;
      opens = opens;
      sends_nothing = silent (record s { awaiting = a; phase = turned });
      completes_nothing = e5;
      checks_nothing = λ p. ap (checked_texts g p) t ∙ e4 p;
      seals_nothing = λ k e. subst (λ x. (seal_of x ≡ None) × (entries_of x ≡ [])) (some_same (sym t ∙ e)) (e1, e2);
      shows_nothing = ap parts_in t ∙ e3;
    }

pub rests_nothing : (n : ℕ) (o : Op) (load : Bool) → awaits.Nothing ≡ awaits.Reply n o load → ⊥
rests_nothing n o load e = cc

rests_content : (h : Digest32) (len : ℕ) (n : ℕ) (o : Op) (load : Bool) → awaits.Content h len ≡ awaits.Reply n o load → ⊥
rests_content h len n o load e = cc

fetches_no_call : (h : List ℕ) (n : ℕ) (o : Op) → Some (Fetches h) ≡ Some (Invokes n o) → ⊥
fetches_no_call h n o e = cc

pub decided_opens : (s : Standing) (p : Phase) (o : Outcome) → PhaseFits s.calls p → PhaseFits s.calls (after_decision p o)
decided_opens s phase.Closed o f = tt
decided_opens s (phase.Keeping k h len) o f = f
decided_opens s (phase.Fetching h len) o f = tt
decided_opens s phase.Calling (outcome.Done a) f = answered_opens a
  where
    chosen : (b : Bool) (x y : ObjectStep) → PhaseFits s.calls x.0 → PhaseFits s.calls y.0 → PhaseFits s.calls (if◌then◌else◌ {A = ObjectStep} b x y).0
    chosen true x y p q = p
    chosen false x y p q = q

    answered_opens : (a : Answer) → PhaseFits s.calls (step_on_answer a).0
    answered_opens answer.Stored = tt
    answered_opens (answer.Found v) = chosen (is_reference v) _ _ tt tt
    answered_opens answer.NotFound = tt
    answered_opens answer.Removed = tt
    answered_opens answer.Absent = tt
    answered_opens (answer.Names names) = tt
decided_opens s phase.Calling (outcome.Aborted u) f = tt
decided_opens s phase.Calling (outcome.Refused r) f = tt
decided_opens s phase.Calling (outcome.Halted k) f = tt

wait_kind : (g : Group) (me : ℕ) (s : Standing) (b : List ℕ) (p : Phase) → s.phase ≡ p → s.halted ≡ None → read_answer b ≡ Some say.Wait → Quiet g me s (input.Payload b) (move_on_wait s p)
wait_kind g me s b phase.Closed e alive read = quiet_answer g me s b say.Wait awaits.Nothing s.phase None None None alive read refl refl refl (λ p. refl) (λ c p. refl) rests_nothing (λ n o f. absurd (none_is_some f)) (λ x. refl) (λ f. f)
wait_kind g me s b (phase.Keeping k h len) e alive read = quiet_answer g me s b say.Wait awaits.Nothing s.phase None None None alive read refl refl refl (λ p. refl) (λ c p. refl) rests_nothing (λ n o f. absurd (none_is_some f)) (λ x. refl) (λ f. f)
wait_kind g me s b phase.Calling e alive read = quiet_answer g me s b say.Wait awaits.Nothing s.phase None None None alive read refl refl refl (λ p. refl) (λ c p. refl) rests_nothing (λ n o f. absurd (none_is_some f)) (λ x. refl) (λ f. f)
wait_kind g me s b (phase.Fetching h len) e alive read =
    quiet_answer g me s b say.Wait (awaits.Content h len) s.phase (Some (Fetches h.bytes)) None None alive read refl refl refl (λ p. refl) (λ c p. refl) (rests_content h len) (fetches_no_call h.bytes) (λ x. refl) (λ f. f)

refused_quiet : (g : Group) (me : ℕ) (s : Standing) (b : List ℕ) (r : ℕ) (a : Awaiting) → s.halted ≡ None → read_answer b ≡ Some (say.Refused r)
    → Quiet g me s (input.Payload b) (move_on_refusal s r a)
refused_quiet g me s b r awaits.Kept alive read = quiet_answer g me s b (say.Refused r) awaits.Nothing phase.Closed None None _ alive read refl refl refl (λ p. refl) (λ c p. refl) rests_nothing (λ n o f. absurd (none_is_some f)) (λ x. refl) (λ f. tt)
refused_quiet g me s b r awaits.Nothing alive read = quiet_answer g me s b (say.Refused r) awaits.Nothing _ None (Some (outcome.Refused r)) _ alive read refl refl refl (λ p. refl) (λ c p. refl) rests_nothing (λ n o f. absurd (none_is_some f)) (λ x. refl) (decided_opens s s.phase (outcome.Refused r))
refused_quiet g me s b r (awaits.Reply n o load) alive read = quiet_answer g me s b (say.Refused r) awaits.Nothing _ None (Some (outcome.Refused r)) _ alive read refl refl refl (λ p. refl) (λ c p. refl) rests_nothing (λ n o f. absurd (none_is_some f)) (λ x. refl) (decided_opens s s.phase (outcome.Refused r))
refused_quiet g me s b r awaits.Turn alive read = quiet_answer g me s b (say.Refused r) awaits.Nothing _ None (Some (outcome.Refused r)) _ alive read refl refl refl (λ p. refl) (λ c p. refl) rests_nothing (λ n o f. absurd (none_is_some f)) (λ x. refl) (decided_opens s s.phase (outcome.Refused r))
refused_quiet g me s b r awaits.Entries alive read = quiet_answer g me s b (say.Refused r) awaits.Nothing _ None (Some (outcome.Refused r)) _ alive read refl refl refl (λ p. refl) (λ c p. refl) rests_nothing (λ n o f. absurd (none_is_some f)) (λ x. refl) (decided_opens s s.phase (outcome.Refused r))
refused_quiet g me s b r (awaits.Content h len) alive read = quiet_answer g me s b (say.Refused r) awaits.Nothing _ None (Some (outcome.Refused r)) _ alive read refl refl refl (λ p. refl) (λ c p. refl) rests_nothing (λ n o f. absurd (none_is_some f)) (λ x. refl) (decided_opens s s.phase (outcome.Refused r))

-- ---- the three answers with a seal

-- the client that goes on takes what it read
reply_moves : (me : ℕ) (s : Standing) (seal : Seal) (path below : List Entry) (e : Entry) (found : Option Part) (part : Part) (a : Awaiting) (n : ℕ) (o : Op) (load : Bool)
    → path ≡ e ∷ below → found ≡ Some part → a ≡ awaits.Reply n o load
    → move_on_reply me s seal path found a ≡ move_on_outcome s (e ∷ below) seal.position seal.root.bytes (s.own ++ record { position = length (e ∷ below); op = o; done = is_done (decision me s below seal.position part o) } ∷ []) (decision me s below seal.position part o)
reply_moves me s seal path below e found part a n o load e1 e2 e3 =
    ap (λ p. move_on_reply me s seal p found a) e1 ∙ (ap (λ f. move_on_reply me s seal (e ∷ below) f a) e2 ∙ ap (λ w. move_on_reply me s seal (e ∷ below) (Some part) w) e3)

update_moves : (s : Standing) (seal : Seal) (found : Option Part) (part : Part) (own : List Own) (first : Own) (rest : List Own)
    → found ≡ Some part → own ≡ first ∷ rest → move_on_update s seal found own ≡ move_to_seal s (seal.position + 1) (new_root first part seal.root.bytes) rest
update_moves s seal found part own first rest e1 e2 = ap (λ f. move_on_update s seal f own) e1 ∙ ap (λ w. move_on_update s seal (Some part) w) e2

-- the part shows the walk of the call that is open, and that of the first own call where this is a done put or del
open_shown : (found : Option Part) (part : Part) (a : Awaiting) (n : ℕ) (o : Op) (load : Bool) → found ≡ Some part → a ≡ awaits.Reply n o load → has_open_op found a ≡ true → reaches part o ≡ true
open_shown found part a n o load e f h = sym (ap (λ x. has_open_op x a) e ∙ ap (has_open_op (Some part)) f) ∙ h

own_shown : (found : Option Part) (part : Part) (own : List Own) (first : Own) (rest : List Own) → found ≡ Some part → own ≡ first ∷ rest → has_own_op found own ≡ true → (not (first.done && is_write first.op) || reaches part first.op) ≡ true
own_shown found part own first rest e f h = sym (ap (λ x. has_own_op x own) e ∙ ap (has_own_op (Some part)) f) ∙ h

part_shown : (bytes : List ℕ) (part : Part) (root : List ℕ) → read_part bytes ≡ Some part → has_root (read_part bytes) root ≡ true → part_root part ≡ root
part_shown bytes part root e h = bytes_same _ _ (subst (λ f. has_root f root ≡ true) e h)

next_shown : (position : ℕ) (own : List Own) → is_next position own ≡ true → (first : Own) × (rest : List Own) × (own ≡ first ∷ rest) × (first.position ≡ position)
next_shown position [] e = absurd (true≢false (sym e))
next_shown position (o ∷ others) e = (o, others, refl, eqb-true _ _ e)

-- a length as it is checked, and as it is said
same_length : (ts : List Tagged) (p news : List Entry) → newest_first ts ≡ news → length p + length ts ≡ length (news ++ p)
same_length ts p news e = sym (length-onto ts p) ∙ (ap length (onto_is ts p) ∙ ap (λ x. length (x ++ p)) e)

reply_kind : (g : Group) (me : ℕ) (s : Standing) (b : List ℕ) (seal : Seal) (entries : List Tagged) (bytes : List ℕ) → s.halted ≡ None → AreBytes bytes
    → read_answer b ≡ Some (say.Reply seal entries bytes) → Passes g me s (say.Reply seal entries bytes)
    → Kind g me s (input.Payload b) (move_on_answer me s (say.Reply seal entries bytes))
reply_kind g me s b seal entries bytes alive are_bytes read passes =
    let n = length s.path + length entries in
    let f = all_five (is_awaited s.awaiting (say.Reply seal entries bytes)) (is_some (read_part bytes)) (nat_le n 1048576) (nat_lt seal.position n) (nat_le (n - seal.position) 1024) passes.form in
    let w = awaits_reply s.awaiting seal entries bytes f.0 in
    let r = reply_to_shown g.count me w.0 w.1 w.2 (newest_first entries) (subst (λ a. is_reply_to g.count me a (newest_first entries) ≡ true) w.3 passes.members) in
    let t = some_of (read_part bytes) f.1 in
    let e1 : path_with_entries s entries ≡ call_of me w.0 w.1 ∷ (r.0 ++ s.path) = onto_is entries s.path ∙ ap (λ x. x ++ s.path) r.1 in
    let l : length s.path + length entries ≡ length (call_of me w.0 w.1 ∷ (r.0 ++ s.path)) = same_length entries s.path (call_of me w.0 w.1 ∷ r.0) r.1 in
    let v = reply_moves me s seal (path_with_entries s entries) (r.0 ++ s.path) (call_of me w.0 w.1) (read_part bytes) t.0 s.awaiting w.0 w.1 w.2 e1 t.1 w.3 in
    let n0 = leb-true n 1048576 f.2 in
    let n1 = ltb-true seal.position n f.3 in
    let n2 = leb-true (n - seal.position) 1024 f.4 in
    let goes_on : (move_on_answer me s (say.Reply seal entries bytes)).next.halted ≡ None = ap (λ x. x.next.halted) v ∙ alive in
    let takes = takes_read (move_on_answer me s (say.Reply seal entries bytes)).next b (Some (say.Reply seal entries bytes)) goes_on read in
    is_replied (record {
      payload = b;
      seal = seal;
      entries = entries;
      bytes = bytes;
      seq = w.0;
      op = w.1;
      load = w.2;
      others = r.0;
      part = t.0;
      asked = refl;
      alive = alive;
      takes = takes;
      passes = passes;
      awaited = w.3;
      news = r.1;
      from_others = r.2;
      arrived = subst (λ m. Arrived (checked_texts g (move_on_answer me s (say.Reply seal entries bytes)).next.path m) (call_of me w.0 w.1 ∷ r.0)) (sym takes)
          (arrived_from entries (call_of me w.0 w.1 ∷ r.0) (seal_texts g (move_on_answer me s (say.Reply seal entries bytes)).next.path (Some seal)) r.1 passes.spelled.1.1.1);
      are_bytes = are_bytes;
      is_part = t.1;
      root_is = part_shown bytes t.0 seal.root.bytes t.1 (and_parts (has_root (read_part bytes) seal.root.bytes) (has_open_op (read_part bytes) s.awaiting) passes.proof).0;
      reached = open_shown (read_part bytes) t.0 s.awaiting w.0 w.1 w.2 t.1 w.3 (and_parts (has_root (read_part bytes) seal.root.bytes) (has_open_op (read_part bytes) s.awaiting) passes.proof).1;
      sealing = sealing_from g s (call_of me w.0 w.1 ∷ (r.0 ++ s.path)) seal passes.spelled.0 passes.goes (subst (λ p. is_sealed g p (Some seal) ≡ true) e1 passes.sealing) passes.own (omega arith);
      below = omega arith;
      few = omega arith;
      near = omega arith;
      moved = v;
    })

update_kind : (g : Group) (me : ℕ) (s : Standing) (b : List ℕ) (seal : Seal) (bytes : List ℕ) → s.halted ≡ None → AreBytes bytes
    → read_answer b ≡ Some (say.Update seal bytes) → Passes g me s (say.Update seal bytes)
    → Kind g me s (input.Payload b) (move_on_answer me s (say.Update seal bytes))
update_kind g me s b seal bytes alive are_bytes read passes =
    let f = all_four (is_awaited s.awaiting (say.Update seal bytes)) (is_some (read_part bytes)) (nat_le (length s.path) 1048576) (nat_le seal.position (length s.path)) passes.form in
    let t = some_of (read_part bytes) f.1 in
    let o = next_shown (seal.position + 1) s.own passes.turn in
    let v = update_moves s seal (read_part bytes) t.0 s.own o.0 o.1 t.1 o.2 in
    let goes_on : (move_on_answer me s (say.Update seal bytes)).next.halted ≡ None = ap (λ x. x.next.halted) v ∙ alive in
    is_updated (record {
      payload = b;
      seal = seal;
      bytes = bytes;
      part = t.0;
      first = o.0;
      rest = o.1;
      asked = refl;
      alive = alive;
      takes = takes_read (move_on_answer me s (say.Update seal bytes)).next b (Some (say.Update seal bytes)) goes_on read;
      passes = passes;
      awaited = awaits_update s.awaiting seal bytes f.0;
      are_bytes = are_bytes;
      is_part = t.1;
      root_is = part_shown bytes t.0 seal.root.bytes t.1 (and_parts (has_root (read_part bytes) seal.root.bytes) (has_own_op (read_part bytes) s.own) passes.proof).0;
      reached = own_shown (read_part bytes) t.0 s.own o.0 o.1 t.1 o.2 (and_parts (has_root (read_part bytes) seal.root.bytes) (has_own_op (read_part bytes) s.own) passes.proof).1;
      sealing = sealing_from g s s.path seal passes.spelled passes.goes passes.sealing passes.own (leb-true _ _ f.3);
      own_is = o.2;
      next_is = o.3;
      few = leb-true _ _ f.2;
      moved = v;
    })

entries_kind : (g : Group) (me : ℕ) (s : Standing) (b : List ℕ) (seal : Seal) (entries : List Tagged) → s.halted ≡ None
    → read_answer b ≡ Some (say.Entries seal entries) → Passes g me s (say.Entries seal entries)
    → Kind g me s (input.Payload b) (move_on_answer me s (say.Entries seal entries))
entries_kind g me s b seal entries alive read passes =
    let n = length s.path + length entries in
    let f = all_four (is_awaited s.awaiting (say.Entries seal entries)) (nat_le n 1048576) (nat_le seal.position n) (nat_le (n - seal.position) 1024) passes.form in
    let e1 : path_with_entries s entries ≡ newest_first entries ++ s.path = onto_is entries s.path in
    let l : length s.path + length entries ≡ length (newest_first entries ++ s.path) = same_length entries s.path (newest_first entries) refl in
    let n0 = leb-true n 1048576 f.1 in
    let n1 = leb-true seal.position n f.2 in
    let n2 = leb-true (n - seal.position) 1024 f.3 in
    let takes = takes_read (move_on_answer me s (say.Entries seal entries)).next b (Some (say.Entries seal entries)) alive read in
    is_listed (record {
      payload = b;
      seal = seal;
      entries = entries;
      others = newest_first entries;
      asked = refl;
      alive = alive;
      takes = takes;
      passes = passes;
      awaited = awaits_entries s.awaiting seal entries f.0;
      news = refl;
      from_others = all_true (is_other g.count me) (IsOther g.count me) (other_shown g.count me) (newest_first entries) passes.members;
      arrived = subst (λ m. Arrived (checked_texts g (move_on_answer me s (say.Entries seal entries)).next.path m) (newest_first entries)) (sym takes)
          (arrived_from entries (newest_first entries) (seal_texts g (move_on_answer me s (say.Entries seal entries)).next.path (Some seal)) refl passes.spelled.1.1);
      sealing = sealing_from g s (newest_first entries ++ s.path) seal passes.spelled.0 passes.goes (subst (λ p. is_sealed g p (Some seal) ≡ true) e1 passes.sealing) passes.own (omega arith);
      few = omega arith;
      near = omega arith;
      moved = ap (λ p. move_on_entries s p seal.position seal.root.bytes) e1;
    })

-- ---- every step

halts_kind : (g : Group) (me k : ℕ) (s : Standing) (b : List ℕ) → s.halted ≡ None → Kind g me s (input.Payload b) (move_to_halt s k)
halts_kind g me k s b alive = is_quiet (quiet_halt g me k s b (λ j e. absurd cc))

-- a part within a text of bytes
part_bytes : (b before part : List ℕ) → AreBytes b → b ≡ before ++ part → AreBytes part
part_bytes b before part h e = are_bytes_after before part (subst AreBytes e h)

reference_bytes : (h : List ℕ) (len : ℕ) → AreBytes h → AreBytes (reference_text h len)
reference_bytes h len a = AreBytes-append h (to_be_bytes w32 len) a (bytes-w32 len)

reference_length : (h : List ℕ) (len : ℕ) → length h ≡ 32 → length (reference_text h len) ≤ 64
reference_length h len e = let l : length (h ++ to_be_bytes w32 len) ≡ length h + length (to_be_bytes w32 len) = length-append h (to_be_bytes w32 len) in omega (arith, l)

-- a store that is told that its content is kept calls its put; else nobody awaits that
kept_kind : (g : Group) (me : ℕ) (s : Standing) (b : List ℕ) (p : Phase) → s.phase ≡ p → s.halted ≡ None → read_answer b ≡ Some say.Kept
    → Kind g me s (input.Payload b) (move_by_object_step s false (step_on_kept p))
kept_kind g me s b (phase.Keeping k h len) e alive read = is_called (record {
  op = op.Put k (reference_text h.bytes len);
  load = false;
  turned = phase.Calling;
  alive = alive;
  few = λ f. (subst (PhaseFits s.calls) e f).1;
  fits = λ f. let w = (subst (PhaseFits s.calls) e f).0 in ((w.0.0, reference_length h.bytes len w.1.0), (w.0.1, reference_bytes h.bytes len w.1.1));
  opens = λ calls. tt;
  takes = λ m t. sym (some_same (sym (takes_read (move_to_call s phase.Calling (op.Put k (reference_text h.bytes len)) false).next b (Some say.Kept) alive read) ∙ t));
  moved = refl;
})
kept_kind g me s b phase.Closed e alive read = halts_kind g me 1 s b alive
kept_kind g me s b phase.Calling e alive read = halts_kind g me 1 s b alive
kept_kind g me s b (phase.Fetching h len) e alive read = halts_kind g me 1 s b alive

taken_kind : (g : Group) (me : ℕ) (s : Standing) (b : List ℕ) (m : ToClient) → s.halted ≡ None → AreBytes b → read_answer b ≡ Some m → Passes g me s m
    → b ≡ answer_text m → Kind g me s (input.Payload b) (move_on_answer me s m)
taken_kind g me s b say.Hi alive h read passes text = halts_kind g me 1 s b alive
taken_kind g me s b (say.Reply seal entries bytes) alive h read passes text =
    reply_kind g me s b seal entries bytes alive (part_bytes b (0x42 ∷ seal_field seal ++ entries_field entries) bytes h text) read passes
taken_kind g me s b say.Wait alive h read passes text = is_quiet (wait_kind g me s b s.phase refl alive read)
taken_kind g me s b (say.Update seal bytes) alive h read passes text =
    update_kind g me s b seal bytes alive (part_bytes b (0x44 ∷ seal_field seal) bytes h text) read passes
taken_kind g me s b (say.Entries seal entries) alive h read passes text = entries_kind g me s b seal entries alive read passes
taken_kind g me s b (say.Refused r) alive h read passes text = is_quiet (refused_quiet g me s b r s.awaiting alive read)
taken_kind g me s b say.Kept alive h read passes text = kept_kind g me s b s.phase refl alive read
taken_kind g me s b (say.Content c) alive h read passes text =
    is_quiet (quiet_answer g me s b (say.Content c) awaits.Nothing phase.Closed None None _ alive read refl refl refl (λ p. refl) (λ c p. refl) rests_nothing (λ n o f. absurd (none_is_some f)) (λ x. refl) (λ f. tt))
taken_kind g me s b say.Gone alive h read passes text = halts_kind g me 1 s b alive
taken_kind g me s b say.Absent alive h read passes text = halts_kind g me 1 s b alive

read_kind : (g : Group) (me : ℕ) (s : Standing) (b : List ℕ) (m : Option ToClient) (k : Option ℕ) → s.halted ≡ None → AreBytes b → read_answer b ≡ m
    → verdict_on g me s m ≡ k → Kind g me s (input.Payload b) (move_on_verdict me s m k)
read_kind g me s b m (Some k) alive h read e = halts_kind g me k s b alive
read_kind g me s b (Some m) None alive h read e =
    taken_kind g me s b m alive h read (all_passed g me s m (answer_fits b m h read) e) (answer_spelled b m h read)
read_kind g me s b None None alive h read e = halts_kind g me 1 s b alive

payload_kind : (g : Group) (me : ℕ) (s : Standing) (b : List ℕ) (halted : Option ℕ) → s.halted ≡ halted → AreBytes b → Kind g me s (input.Payload b) (move_on_payload g me s halted b)
unfolding verdict
payload_kind g me s b (Some k) e h = is_quiet (quiet_halt g me k s b (λ j f. some_same (sym e ∙ f)))
payload_kind g me s b None e h = read_kind g me s b (read_answer b) (verdict_on g me s (read_answer b)) e h refl refl

idle_alive : (s : Standing) → IsIdle s → s.halted ≡ None
idle_alive s idle = none_of s.halted (and_parts (awaits_nothing s.awaiting) (is_none s.halted) idle).1

no_poll : (n : ℕ) (o : Op) → Some Polls ≡ Some (Invokes n o) → ⊥
no_poll n o e = cc

no_sync : (n : ℕ) (o : Op) → Some Syncs ≡ Some (Invokes n o) → ⊥
no_sync n o e = cc

no_keep : (c : List ℕ) (n : ℕ) (o : Op) → Some (Keeps c) ≡ Some (Invokes n o) → ⊥
no_keep c n o e = cc

pub no_commit : (done : Bool) (n : ℕ) (o : Op) → Some (Commits done) ≡ Some (Invokes n o) → ⊥
no_commit done n o e = cc

pub no_seal : (n : ℕ) (o : Op) → Some Seals ≡ Some (Invokes n o) → ⊥
no_seal n o e = cc

pub nothing_sent : (n : ℕ) (o : Op) → ◌≡◌ {A = Option Sending} None (Some (Invokes n o)) → ⊥
nothing_sent n o e = cc

pub rests_turn : (n : ℕ) (o : Op) (load : Bool) → awaits.Turn ≡ awaits.Reply n o load → ⊥
rests_turn n o load e = cc

rests_entries : (n : ℕ) (o : Op) (load : Bool) → awaits.Entries ≡ awaits.Reply n o load → ⊥
rests_entries n o load e = cc

rests_kept : (n : ℕ) (o : Op) (load : Bool) → awaits.Kept ≡ awaits.Reply n o load → ⊥
rests_kept n o load e = cc

quiet_ask : (g : Group) (me : ℕ) (s : Standing) (i : Input) (a : Awaiting) (turned : Phase) (sends : Sending) → ((after : Standing) → answer_unless_halted after i ≡ None)
    → ((n : ℕ) (o : Op) (load : Bool) → a ≡ awaits.Reply n o load → ⊥) → ((n : ℕ) (o : Op) → Some sends ≡ Some (Invokes n o) → ⊥) → ((x : Standing) → text_sent g me x (Some sends) ≡ [])
    → (PhaseFits s.calls s.phase → PhaseFits s.calls turned) → Quiet g me s i (move_without_object (record s { awaiting = a; phase = turned }) (Some sends) None)
quiet_ask g me s i a turned sends takes waits calls silent opens = record {
  path = refl;
  sealed = refl;
  root = refl;
  own = refl;
  calls = refl;
  stays = λ j f. f;
  rests = λ n o load f w. waits n o load w;
  calls_nothing = calls;
  opens = opens;
  sends_nothing = silent (record s { awaiting = a; phase = turned });
  completes_nothing = λ c p. refl;
  checks_nothing = λ p. ap (checked_texts g p) (takes (record s { awaiting = a; phase = turned }));
  seals_nothing = λ m f. absurd (none_is_some (sym (takes (record s { awaiting = a; phase = turned })) ∙ f));
  shows_nothing = ap parts_in (takes (record s { awaiting = a; phase = turned }));
}

asked_kind : (g : Group) (me : ℕ) (s : Standing) (i : Input) (o : Op) (load : Bool) (turned : Phase) → ((after : Standing) → answer_unless_halted after i ≡ None) → s.halted ≡ None
    → s.calls + 1 < 2 ^ 32 → Fits o × AreBytesIn o → ((calls : ℕ) → PhaseFits calls turned) → Kind g me s i (move_to_call s turned o load)
asked_kind g me s i o load turned none alive few fits opens = is_called (record {
  op = o;
  load = load;
  turned = turned;
  alive = alive;
  few = λ f. few;
  fits = λ f. fits;
  opens = opens;
  takes = λ m t. absurd (none_is_some (sym (none (move_to_call s turned o load).next) ∙ t));
  moved = refl;
})

object_kind : (g : Group) (me : ℕ) (s : Standing) (c : ObjectCall) → s.halted ≡ None → FitsObject c → AreBytesInObject c → s.calls + 1 < 2 ^ 32
    → Kind g me s (input.Object c) (move_by_object_step s (is_load c) (first_step c))
object_kind g me s (object.Store k c) alive fits are_bytes few =
    is_quiet (quiet_ask g me s (input.Object (object.Store k c)) awaits.Kept _ (Keeps c) (λ a. refl) rests_kept (no_keep c) (λ x. refl)
    (λ f. (((fits.0, are_bytes.0), (length-sha256 (content_text c), bytes-sha256 (content_text c))), few)))
object_kind g me s (object.Load k) alive fits are_bytes few = asked_kind g me s (input.Object (object.Load k)) (op.Get k) true phase.Calling (λ a. refl) alive few (fits, are_bytes) (λ n. tt)
object_kind g me s (object.Erase k) alive fits are_bytes few = asked_kind g me s (input.Object (object.Erase k)) (op.Del k) false phase.Calling (λ a. refl) alive few (fits, are_bytes) (λ n. tt)
object_kind g me s (object.Names p) alive fits are_bytes few = asked_kind g me s (input.Object (object.Names p)) (op.List p) false phase.Calling (λ a. refl) alive few (omega (arith, fits), are_bytes) (λ n. tt)

-- what a client may do where it stands is of one of the five kinds
pub step_kind : (g : Group) (me : ℕ) (s : Standing) (i : Input) → MayStep g s i → Kind g me s i (step g me s i)
unfolding step
step_kind g me s (input.Call o) may = asked_kind g me s (input.Call o) o false phase.Closed (λ a. refl) (idle_alive s may.0) may.1.1.1.1 (may.1.1.0, may.1.1.1.0) (λ n. tt)
step_kind g me s (input.Object c) may = object_kind g me s c (idle_alive s may.0) may.1.1.0 may.1.1.1.0 may.1.1.1.1
step_kind g me s input.Poll may = is_quiet (quiet_ask g me s input.Poll awaits.Turn s.phase Polls (λ a. refl) rests_turn no_poll (λ x. refl) (λ f. f))
step_kind g me s input.Sync may = is_quiet (quiet_ask g me s input.Sync awaits.Entries s.phase Syncs (λ a. refl) rests_entries no_sync (λ x. refl) (λ f. f))
step_kind g me s (input.Payload b) may = payload_kind g me s b s.halted refl may
