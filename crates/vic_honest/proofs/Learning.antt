-- A client takes an answer of an honest server: it goes on, and what it returns is what the log makes of its call.
use Rattle.std.proofs.Common.{◌≡◌, ℕ, suc, ◌+◌, ◌<◌, ◌≤◌, Bool, true, false, ◌&&◌, List, [], ◌∷◌, ◌++◌, length, Option, Some, None, ◌⊎◌, inl, inr, refl, sym, ap, subst, ◌∙◌, arith, length-append, append_assoc}
use Rattle.std.specs.Prelude.{if◌then◌else◌, nat_eq, not, ◌||◌, ◌&&◌}
use Rattle.std.specs.List.{AllByRecursion, filter}
use Rattle.std.proofs.lemmas.Bool.{eq-eqb}
use Rattle.vic_dict.specs.declared.op.Op.{Op}
use Rattle.vic_dict.specs.declared.op.Op.TheVariants as op
use Rattle.vic_dict.specs.declared.op.Entry.{Entry}
use Rattle.vic_dict.specs.declared.op.Outcome.{Outcome}
use Rattle.vic_dict.specs.declared.op.Outcome.TheVariants as outcome
use Rattle.vic_dict.specs.Dictionary.{Dictionary, after}
use Rattle.std.specs.Int.{w32, to_be_bytes}
use Rattle.vic_spellings.proofs.Bytes.{bytes-w32}
use Rattle.vic_dict.specs.declared.op.Answer.{Answer}
use Rattle.vic_dict.specs.declared.op.Answer.TheVariants as answer
use Rattle.vic_dict.specs.declared.op.Mode.{Mode}
use Rattle.vic_dict.specs.declared.op.Mode.TheVariants as mode
use Rattle.vic_dict.specs.Lists.{IsIn}
use Rattle.vic_wire.specs.declared.message.Digest32.{Digest32}
use Rattle.vic_rules.specs.declared.object.Phase.{Phase}
use Rattle.vic_rules.specs.declared.object.Phase.TheVariants as phase
use Rattle.vic_rules.specs.declared.object.Next.TheVariants as next
use Rattle.vic_rules.specs.declared.object.ObjectOutcome.{ObjectOutcome}
use Rattle.vic_rules.specs.declared.object.ObjectOutcome.TheVariants as ended
use Rattle.vic_rules.specs.Objects.{ObjectStep, step_on_answer, final_outcome, outcome_after_decision, is_reference, hash_in, length_in, step_on_kept, after_decision, reference_text}
use Rattle.vic_honest.proofs.Referred.{IsKept, Refers}
use Rattle.vic_honest.proofs.Found.{IsGood, fate_good, finds_ok, after_fetching, reference_long, reference_good}
use Rattle.vic_wire.specs.declared.message.Seal.{Seal}
use Rattle.vic_wire.specs.declared.message.ToClient.{ToClient}
use Rattle.vic_wire.specs.declared.message.ToClient.TheVariants as say
use Rattle.vic_wire.specs.Hashes.{Group}
use Rattle.vic_wire.specs.Trees.{dictionary_root, tree_of}
use Rattle.vic_wire.specs.Cuts.{IsCut, cut_for}
use Rattle.vic_wire.specs.Parts.{Part, read_part, part_for, reaches, root_after}
use Rattle.vic_wire.specs.Messages.{IsEntry}
use Rattle.vic_dict.specs.Dictionary.{IsProper, AreBytesIn}
use Rattle.vic_dict.proofs.ByteLists.{AreBytes-append}
use Rattle.vic_order.specs.Order.{update_part}
use Rattle.vic_roots.proofs.Proper.{byte_keys-proper}
use Rattle.vic_tree.proofs.Alike.{byte_entries, byte_words, alike as alike_on_cut}
use Rattle.vic_tree.proofs.Reached.{root-after}
use Rattle.vic_honest.proofs.SentParts.{for_reaches}
use Rattle.vic_wire.specs.Reading.{read_answer}
use Rattle.vic_rules.specs.declared.state.Own.{Own}
use Rattle.vic_rules.specs.declared.state.Awaiting.{Awaiting}
use Rattle.vic_rules.specs.declared.state.Awaiting.TheVariants as awaits
use Rattle.vic_rules.specs.declared.trace.Input.TheVariants as input
use Rattle.vic_rules.specs.Client.{Standing, Sending, Invokes, Commits, Seals, Fetches, Move, move_to_call, move_on_wait, move_by_object_step, move_on_refusal, finds_reference, loads_reference, has_content, step, payload_of, path_with_entries, decision, decided_outcome, move_on_reply, move_on_outcome, move_on_update, move_to_seal, move_on_entries, new_root, is_write, is_done, move_on_answer, move_on_verdict, move_on_payload, verdict, verdict_on}
use Rattle.vic_rules.specs.History.{Completion, completion}
use Rattle.vic_laws.proofs.Words.{all_weaker, all_append}
use Rattle.vic_order.specs.Order.{Ordered, Server, size, sealed_count}
use Rattle.vic_order.specs.Fates.{entries, fate, dictionary_by}
use Rattle.vic_order.specs.Scenes.{queue_with}
use Rattle.vic_honest.proofs.Words.{length-entries, told, all-second}
use Rattle.vic_honest.proofs.Standing.{EntryFits, PhaseHolds, Rests, Sends, Gets}
use Rattle.vic_honest.proofs.Owns.{AllOn, AllOn-second, NoneOf, NoneOf-first, NoneOf-second, root_on, seal_on, seal_on-position, owns, own_of, owns-mine, owns-others, owns-filter, owns-higher, owns-next, owns-above, above, IsAbove}
use Rattle.vic_honest.proofs.Deciding.{dictionary-next, decides}
use Rattle.vic_honest.proofs.Knowing.{IsOrdered, ServerKnows, Keeps, Calm, ReplyComes, UpdateComes, EntriesCome, RefusalComes, KeepRefused, KeptComes, ContentComes, Does, ClientKnows}
use Rattle.vic_honest.proofs.Checks.{part_is, update_is, proper_by, seal_on-root, grown_told, reply_passes, update_passes, entries_pass, wait_passes, refusal_passes, keep_refusal_passes, kept_passes, content_passes}

-- ---- what is shown of a move

-- a completed call stands in the log, and its outcome is its fate there
pub record IsFated (log : List Ordered) (c : Completion) : Type 0 where
  pub newer : List Ordered
  pub o : Ordered
  pub below : List Ordered
  pub is : log ≡ newer ++ o ∷ below
  pub prefix : c.prefix ≡ entries (o ∷ below)
  pub client : c.client ≡ o.entry.client
  pub outcome : c.outcome ≡ fate o below

-- nothing but an outcome of the log, or a refusal for want of room
abbrev pub IsFine : Option Outcome → Type 0
IsFine None = Unit {0}
IsFine (Some (outcome.Done a)) = Unit {0}
IsFine (Some (outcome.Aborted u)) = Unit {0}
IsFine (Some (outcome.Refused r)) = (0 < r) × (r ≤ 4)
IsFine (Some (outcome.Halted n)) = ⊥

-- a call on objects is refused for want of room alone, of a log or of what is kept; a content that it returns is kept, in a group with objects
abbrev pub EndsFine : Mode → List (List ℕ) → Option ObjectOutcome → Type 0
EndsFine kind contents None = Unit {0}
EndsFine kind contents (Some ended.Stored) = Unit {0}
EndsFine kind contents (Some (ended.Content c)) = (kind ≡ mode.Objects) × IsIn contents c
EndsFine kind contents (Some ended.Missing) = Unit {0}
EndsFine kind contents (Some ended.Removed) = Unit {0}
EndsFine kind contents (Some ended.Absent) = Unit {0}
EndsFine kind contents (Some (ended.Names names)) = Unit {0}
EndsFine kind contents (Some (ended.Aborted u)) = Unit {0}
EndsFine kind contents (Some (ended.Refused r)) = ((0 < r) × (r ≤ 4)) ⊎ (r ≡ 7)

pub ends_later : (kind : Mode) (contents more : List (List ℕ)) → ((c : List ℕ) → IsIn contents c → IsIn more c) → (o : Option ObjectOutcome) → EndsFine kind contents o → EndsFine kind more o
ends_later kind contents more grows None h = tt
ends_later kind contents more grows (Some ended.Stored) h = tt
ends_later kind contents more grows (Some (ended.Content c)) h = (h.0, grows c h.1)
ends_later kind contents more grows (Some ended.Missing) h = tt
ends_later kind contents more grows (Some ended.Removed) h = tt
ends_later kind contents more grows (Some ended.Absent) h = tt
ends_later kind contents more grows (Some (ended.Names names)) h = tt
ends_later kind contents more grows (Some (ended.Aborted u)) h = tt
ends_later kind contents more grows (Some (ended.Refused r)) h = h

-- where the client stands once it has moved there and sent that
abbrev pub Stands : Group → ℕ → Server → Standing → Option Sending → Type 0
Stands g me s t sends = ClientKnows g me s t (queue_with [] (payload_of g me t sends)) []

pub record Learns (g : Group) (me : ℕ) (s : Server) (v : Move) : Type 0 where
  pub client : Stands g me s v.next v.sends
  pub fates : AllByRecursion (IsFated s.log) (completion me v.next.path v.returns)
  pub fine : IsFine v.returns
  pub ends : EndsFine g.mode s.contents v.object

module _ (g : Group) (me : ℕ) (s : Server) where
  pub stands_sending : (t : Standing) (sending : Sending) (seen newer : List Ordered) → Keeps me s t seen newer → Does g me s t seen newer (Sends sending) → Stands g me s t (Some sending)
  stands_sending t sending seen newer keeps does = record { seen = seen; newer = newer; keeps = keeps; doing = Sends sending; up_is = refl; down_is = refl; spelled = tt; does = does }

  pub stands_resting : (t : Standing) (seen newer : List Ordered) → Keeps me s t seen newer → Does g me s t seen newer Rests → Stands g me s t None
  stands_resting t seen newer keeps does = record { seen = seen; newer = newer; keeps = keeps; doing = Rests; up_is = refl; down_is = refl; spelled = tt; does = does }

completed_is : (P : Completion → Type 0) (me : ℕ) (p : List Entry) (x : Outcome) → P (record { client = me; prefix = p; outcome = x }) → AllByRecursion P (completion me p (Some x))
completed_is P me p (outcome.Done a) h = (h, tt)
completed_is P me p (outcome.Aborted u) h = (h, tt)
completed_is P me p (outcome.Refused r) h = tt
completed_is P me p (outcome.Halted n) h = tt

decided_fine : (w : Option ℕ) (d : Dictionary) (o : Op) → IsFine (Some (decided_outcome w d o))
decided_fine None d o = tt
decided_fine (Some u) d o = tt

fate_fine : (o : Ordered) (below : List Ordered) → IsFine (Some (fate o below))
unfolding fate
fate_fine o below = decided_fine _ _ _

answered_ends : (kind : Mode) (contents : List (List ℕ)) (a : Answer) → EndsFine kind contents (final_outcome (step_on_answer a).1)
answered_ends kind contents answer.Stored = tt
answered_ends kind contents (answer.Found v) = by_test (is_reference v)
  where
    by_test : (b : Bool) → EndsFine kind contents (final_outcome (if◌then◌else◌ {A = ObjectStep} b (phase.Fetching (record { bytes = hash_in v }) (length_in v), next.Fetch (record { bytes = hash_in v }) (length_in v)) (phase.Closed, next.Bad)).1)
    by_test true = tt
    by_test false = tt
answered_ends kind contents answer.NotFound = tt
answered_ends kind contents answer.Removed = tt
answered_ends kind contents answer.Absent = tt
answered_ends kind contents (answer.Names names) = tt

-- a call on objects ends so with a decided call of its own
outcome_ends : (kind : Mode) (contents : List (List ℕ)) (p : Phase) (x : Outcome) → IsFine (Some x) → EndsFine kind contents (outcome_after_decision p x)
outcome_ends kind contents phase.Closed x h = tt
outcome_ends kind contents (phase.Keeping k d len) x h = tt
outcome_ends kind contents (phase.Fetching d len) x h = tt
outcome_ends kind contents phase.Calling (outcome.Done a) h = answered_ends kind contents a
outcome_ends kind contents phase.Calling (outcome.Aborted u) h = tt
outcome_ends kind contents phase.Calling (outcome.Refused r) h = inl h
outcome_ends kind contents phase.Calling (outcome.Halted k) h = tt

-- ---- moves as equations

step_takes : (g : Group) (me : ℕ) (t : Standing) (payload : List ℕ) (m : ToClient) → t.halted ≡ None → read_answer payload ≡ Some m → verdict_on g me t (Some m) ≡ None
    → step g me t (input.Payload payload) ≡ move_on_answer me t m
unfolding step verdict
step_takes g me t payload m going read passes =
    ap (λ h. move_on_payload g me t h payload) going ∙ ap (λ r. move_on_verdict me t r (verdict_on g me t r)) read ∙ ap (move_on_verdict me t (Some m)) passes

abbrev reply_move : Standing → Entry → List Entry → ℕ → ℕ → List ℕ → Op → Outcome → Move
reply_move t e below long position root o ends = move_on_outcome t (e ∷ below) position root (t.own ++ record { position = long; op = o; done = is_done ends } ∷ []) ends

reply_moves : (me : ℕ) (t : Standing) (seal : Seal) (p below : List Entry) (e : Entry) (found : Option Part) (part : Part) (a : Awaiting) (n : ℕ) (o : Op) (load : Bool) (long : ℕ) (position : ℕ) (root : List ℕ) (p_op : Op) (ends : Outcome)
    → p ≡ e ∷ below → found ≡ Some part → a ≡ awaits.Reply n o load → length (e ∷ below) ≡ long → seal.position ≡ position → seal.root.bytes ≡ root → o ≡ p_op → decision me t below position part p_op ≡ ends
    → move_on_reply me t seal p found a ≡ reply_move t e below long position root p_op ends
reply_moves me t seal p below e found part a n o load long position root p_op ends e1 e2 e3 e4 e5 e6 e7 e8 =
    ap (λ x. move_on_reply me t seal x found a) e1 ∙ ap (λ f. move_on_reply me t seal (e ∷ below) f a) e2 ∙ ap (move_on_reply me t seal (e ∷ below) (Some part)) e3
    ∙ ap (λ k. reply_move t e below k seal.position seal.root.bytes o (decision me t below seal.position part o)) e4
    ∙ ap (λ k. reply_move t e below long k seal.root.bytes o (decision me t below k part o)) e5
    ∙ ap (λ r. reply_move t e below long position r o (decision me t below position part o)) e6
    ∙ ap (λ x. reply_move t e below long position root x (decision me t below position part x)) e7
    ∙ ap (reply_move t e below long position root p_op) e8

update_moves : (t : Standing) (seal : Seal) (found : Option Part) (part : Part) (first : Own) (rest : List Own) (position : ℕ) (root : List ℕ)
    → found ≡ Some part → t.own ≡ first ∷ rest → seal.position + 1 ≡ position → new_root first part seal.root.bytes ≡ root → move_on_update t seal found t.own ≡ move_to_seal t position root rest
update_moves t seal found part first rest position root e1 e2 e3 e4 =
    ap (λ f. move_on_update t seal f t.own) e1 ∙ ap (move_on_update t seal (Some part)) e2 ∙ ap (λ k. move_to_seal t k (new_root first part seal.root.bytes) rest) e3 ∙ ap (λ r. move_to_seal t position r rest) e4

root_chosen : (done : Bool) (o : Op) (d : Dictionary) (part : Part) → IsProper d → AreBytesIn o → IsCut part (tree_of d) → (not (done && is_write o) || reaches part o) ≡ true → (if done && is_write o then root_after part o else dictionary_root d) ≡ dictionary_root (if done then after d o else d)
root_chosen true (op.Put k v) d part proper bytes cut shown = root-after d (byte_entries d (byte_keys-proper d proper)) part cut (op.Put k v) (byte_words (op.Put k v) bytes) shown
root_chosen true (op.Get k) d part proper bytes cut shown = refl
root_chosen true (op.Del k) d part proper bytes cut shown = root-after d (byte_entries d (byte_keys-proper d proper)) part cut (op.Del k) (byte_words (op.Del k) bytes) shown
root_chosen true (op.List p) d part proper bytes cut shown = refl
root_chosen false o d part proper bytes cut shown = refl

-- the root that a client computes is that of the log
new_root-is : (g : Group) (o : Ordered) (below : List Ordered) (part : Part) → IsProper (dictionary_by below) → AreBytesIn o.entry.op → IsCut part (tree_of (dictionary_by below)) → (not ((own_of o below).done && is_write o.entry.op) || reaches part o.entry.op) ≡ true
    → new_root (own_of o below) part (seal_on g below).root.bytes ≡ root_on (o ∷ below)
unfolding root_on
new_root-is g o below part proper bytes cut shown =
    ap (λ r. new_root (own_of o below) part r) (seal_on-root g below) ∙ root_chosen (is_done (fate o below)) o.entry.op (dictionary_by below) part proper bytes cut shown ∙ ap dictionary_root (sym (dictionary-next o below))

-- a load's Reply passes the last check where what it finds is a reference
load_content : (me : ℕ) (t : Standing) (seal : Seal) (p below : List Entry) (e : Entry) (found : Option Part) (part : Part) (a : Awaiting) (n : ℕ) (o : Op) (load : Bool) (position : ℕ) (p_op : Op) (ends : Outcome)
    → p ≡ e ∷ below → found ≡ Some part → a ≡ awaits.Reply n o load → seal.position ≡ position → o ≡ p_op → decision me t below position part p_op ≡ ends
    → (load ≡ true → finds_reference ends ≡ true) → loads_reference me t seal p found a ≡ true
load_content me t seal p below e found part a n o load position p_op ends e1 e2 e3 e4 e5 e6 good =
    ap (λ x. loads_reference me t seal x found a) e1 ∙ ap (λ f. loads_reference me t seal (e ∷ below) f a) e2 ∙ ap (loads_reference me t seal (e ∷ below) (Some part)) e3 ∙ by_load load good
  where
    by_load : (b : Bool) → (b ≡ true → finds_reference ends ≡ true) → loads_reference me t seal (e ∷ below) (Some part) (awaits.Reply n o b) ≡ true
    by_load true h =
        ap (λ k. finds_reference (decision me t below k part o)) e4 ∙ ap (λ x. finds_reference (decision me t below position part x)) e5 ∙ ap finds_reference e6 ∙ h refl
    by_load false h = refl

-- ---- the answers

module _ (g : Group) (made : List (List ℕ)) (s : Server) (k : ServerKnows g s) (fits : AllByRecursion (EntryFits made) s.log) (room : size s ≤ 1048576)
    (me : ℕ) (t : Standing) (seen newer : List Ordered) (keeps : Keeps me s t seen newer) where
  length-log : length s.log ≡ length newer + length seen
  length-log = ap length keeps.log ∙ length-append newer seen

  -- the own calls that are laid over a base
  own_over : (base between : List Ordered) → length keeps.base ≤ length base → NoneOf me between → filter (above (length base)) t.own ≡ owns me (length base) (between ++ seen)
  own_over base between le none =
      ap (filter (above (length base))) keeps.own ∙ owns-filter me (length keeps.base) (length base) seen le ∙ sym (owns-others me (length base) between seen none)

  own_above : (n : ℕ) → n ≤ sealed_count s → AllByRecursion (IsAbove n) t.own
  own_above n le = all_weaker (IsAbove (sealed_count s)) (IsAbove n) (λ x h. omega arith) t.own keeps.unsealed

  -- they are those above any base that is sealed
  own_is : (base between : List Ordered) → length keeps.base ≤ length base → length base ≤ sealed_count s → NoneOf me between → t.own ≡ owns me (length base) (between ++ seen)
  own_is base between le sealed none =
      keeps.own ∙ owns-higher me (length keeps.base) (length base) seen le (subst (AllByRecursion (IsAbove (length base))) keeps.own (own_above (length base) sealed)) ∙ sym (owns-others me (length base) between seen none)

  fits_at : (new old : List Ordered) → s.log ≡ new ++ old → AllByRecursion (EntryFits made) old
  fits_at new old is = all-second (EntryFits made) new old (subst (AllByRecursion (EntryFits made)) is fits)

  below_refers : (new : List Ordered) (o : Ordered) (below : List Ordered) → s.log ≡ new ++ o ∷ below → s.mode ≡ mode.Objects → AllByRecursion (λ x. Refers s.contents x.entry.op) below
  below_refers new o below is objects =
      let all = all-second (λ x. Refers s.contents x.entry.op) new (o ∷ below) (subst (AllByRecursion (λ x. Refers s.contents x.entry.op)) is (k.referred objects)) in all.1

  ordered_at : (new old : List Ordered) → s.log ≡ new ++ old → AllOn (IsOrdered g) old
  ordered_at new old is = AllOn-second (IsOrdered g) new old (subst (AllOn (IsOrdered g)) is k.ordered)

  all_on_first : (new old : List Ordered) → AllOn (IsOrdered g) (new ++ old) → AllOn (IsOrdered g) new
  all_on_first [] old h = tt
  all_on_first (o ∷ new) old h = (record { member = h.0.member; tag = h.0.tag; near = omega (arith, h.0.near, length-append new old) }, all_on_first new old h.1)

  -- it awaits something else, or nothing, and its call on objects has come elsewhere
  keeps_waiting : (a : Awaiting) (p : Phase) (n : ℕ) → t.calls ≤ n → ((h : Digest32) (len : ℕ) → p ≡ phase.Fetching h len → (s.mode ≡ mode.Objects) × IsKept s.contents h.bytes len)
      → Keeps me s (record t { awaiting = a; phase = p; calls = n }) seen newer
  keeps_waiting a p n more fetching = record {
    over = keeps.over;
    base = keeps.base;
    log = keeps.log;
    path = keeps.path;
    going = keeps.going;
    cut = keeps.cut;
    sealed = keeps.sealed;
    root = keeps.root;
    own = keeps.own;
    unsealed = keeps.unsealed;
    last = omega (arith, keeps.last, more);
    fetching = fetching;
  }

  rests_so : (p : Phase) → ((h : Digest32) (len : ℕ) → p ≡ phase.Fetching h len → (s.mode ≡ mode.Objects) × IsKept s.contents h.bytes len) → Calm me s t newer
      → Stands g me s (record t { awaiting = awaits.Nothing; phase = p }) None
  rests_so p fetching calm = stands_resting g me s (record t { awaiting = awaits.Nothing; phase = p }) seen newer (keeps_waiting awaits.Nothing p t.calls (omega arith) fetching) (refl, record { ready = calm.ready; sealed = calm.sealed; others = calm.others })

  -- after Wait: a load fetches the content that it found
  wait_by : (p : Phase) → t.phase ≡ p → PhaseHolds t.calls p → Calm me s t newer → Learns g me s (move_on_wait t p)
  wait_by phase.Closed e holds calm = record { client = rests_so t.phase keeps.fetching calm; fates = tt; fine = tt; ends = tt }
  wait_by (phase.Keeping k h len) e holds calm = record { client = rests_so t.phase keeps.fetching calm; fates = tt; fine = tt; ends = tt }
  wait_by phase.Calling e holds calm = record { client = rests_so t.phase keeps.fetching calm; fates = tt; fine = tt; ends = tt }
  wait_by (phase.Fetching h len) e holds calm =
      let f = keeps.fetching h len e in
      record {
        client = stands_sending g me s (record t { awaiting = awaits.Content h len }) (Fetches h.bytes) seen newer (keeps_waiting (awaits.Content h len) t.phase t.calls (omega arith) keeps.fetching) (record {
          digest = h;
          len = len;
          is = refl;
          awaiting = refl;
          kept = f.1;
          long = holds;
          objects = f.0;
          calm = record { ready = calm.ready; sealed = calm.sealed; others = calm.others };
        });
        fates = tt;
        fine = tt;
        ends = tt;
      }

  -- after a refusal nothing is to be fetched that wasn't before
  refused_fetching : (r : ℕ) (p : Phase) → ((h : Digest32) (len : ℕ) → p ≡ phase.Fetching h len → (s.mode ≡ mode.Objects) × IsKept s.contents h.bytes len)
      → (h : Digest32) (len : ℕ) → after_decision p (outcome.Refused r) ≡ phase.Fetching h len → (s.mode ≡ mode.Objects) × IsKept s.contents h.bytes len
  refused_fetching r phase.Closed old h len e = absurd cc
  refused_fetching r (phase.Keeping k d n) old h len e = absurd cc
  refused_fetching r phase.Calling old h len e = absurd cc
  refused_fetching r (phase.Fetching d n) old h len e = old h len e

  refused_by : (r : ℕ) (a : Awaiting) (n : ℕ) (o : Op) (load : Bool) → a ≡ awaits.Reply n o load → (0 < r) × (r ≤ 4) → Calm me s t newer → Learns g me s (move_on_refusal t r a)
  refused_by r a n o load e limit calm = subst (λ x. Learns g me s (move_on_refusal t r x)) (sym e) (record {
    client = rests_so (after_decision t.phase (outcome.Refused r)) (refused_fetching r t.phase keeps.fetching) calm;
    fates = tt;
    fine = limit;
    ends = outcome_ends g.mode s.contents t.phase (outcome.Refused r) limit;
  })

  module _ (payload : List ℕ) where
    pub wait_learnt : PhaseHolds t.calls t.phase → read_answer payload ≡ Some say.Wait → t.awaiting ≡ awaits.Turn → Calm me s t newer → Learns g me s (step g me t (input.Payload payload))
    wait_learnt holds read awaiting calm =
        subst (Learns g me s) (sym (step_takes g me t payload say.Wait keeps.going read (wait_passes g me t awaiting))) (wait_by t.phase refl holds calm)

    pub refusal_learnt : (r : ℕ) → read_answer payload ≡ Some (say.Refused r) → RefusalComes me s t newer r → Learns g me s (step g me t (input.Payload payload))
    refusal_learnt r read c =
        subst (Learns g me s) (sym (step_takes g me t payload (say.Refused r) keeps.going read (refusal_passes g me t r c.number c.op c.load c.awaiting)))
        (refused_by r t.awaiting c.number c.op c.load c.awaiting c.limit c.calm)

    pub keep_refusal_learnt : (r : ℕ) → read_answer payload ≡ Some (say.Refused r) → KeepRefused me s t newer r → Learns g me s (step g me t (input.Payload payload))
    keep_refusal_learnt r read c =
        subst (Learns g me s) (sym (step_takes g me t payload (say.Refused r) keeps.going read (keep_refusal_passes g me t r c.awaiting) ∙ ap (move_on_refusal t r) c.awaiting))
        (record { client = rests_so phase.Closed (λ h len e. absurd cc) c.calm; fates = tt; fine = tt; ends = inr c.full })

    pub kept_learnt : read_answer payload ≡ Some say.Kept → KeptComes me s t newer → Learns g me s (step g me t (input.Payload payload))
    kept_learnt read c =
        let w = c.holds.0 in
        let v : List ℕ = reference_text c.h.bytes c.len in
        let o : Op = op.Put c.key v in
        let n : ℕ = t.calls + 1 in
        subst (Learns g me s) (sym (step_takes g me t payload say.Kept keeps.going read (kept_passes g me t c.awaiting) ∙ ap (λ p. move_by_object_step t false (step_on_kept p)) c.at)) (record {
          client = stands_sending g me s (move_to_call t phase.Calling o false).next (Invokes n o) seen newer (keeps_waiting (awaits.Reply n o false) phase.Calling n (omega arith) (λ h len e. absurd cc)) (record {
            load = false;
            objects = record { calling = λ e. c.objects; loads = λ e. absurd cc };
            refers = λ e. reference_good s.contents c.h.bytes c.len w.1.0 (omega (arith, c.small)) c.kept;
            awaiting = refl;
            number = refl;
            new = omega (arith, keeps.last);
            fits = ((w.0.0, omega (arith, reference_long c.h.bytes c.len w.1.0)), (w.0.1, AreBytes-append c.h.bytes (to_be_bytes w32 c.len) w.1.1 (bytes-w32 c.len)));
            calm = record { ready = c.calm.ready; sealed = c.calm.sealed; others = c.calm.others };
          });
          fates = tt;
          fine = tt;
          ends = tt;
        })

    pub content_learnt : (c : List ℕ) → read_answer payload ≡ Some (say.Content c) → ContentComes me s t newer c → Learns g me s (step g me t (input.Payload payload))
    content_learnt c read d =
        subst (Learns g me s) (sym (step_takes g me t payload (say.Content c) keeps.going read (content_passes g me t c d.digest d.len d.awaiting d.is)))
        (record { client = rests_so phase.Closed (λ h len e. absurd cc) d.calm; fates = tt; fine = tt; ends = (sym k.kind ∙ d.objects, d.kept) })

    pub reply_learnt : (m : ToClient) → read_answer payload ≡ Some m → ReplyComes g me s t seen newer m → Learns g me s (step g me t (input.Payload payload))
    reply_learnt m read c =
        let o : Ordered = c.o in
        let base : List Ordered = c.base in
        let below : List Ordered = c.between ++ seen in
        let message : ToClient = say.Reply (seal_on g base) (told (o ∷ c.between)) (part_for (dictionary_by base) o.entry.op) in
        let part : Part = cut_for (tree_of (dictionary_by base)) o.entry.op in
        let log_is : s.log ≡ c.later ++ o ∷ below = keeps.log ∙ ap (λ n. n ++ seen) c.split ∙ append_assoc c.later (o ∷ c.between) seen in
        let base_log : s.log ≡ (c.later ++ o ∷ c.over) ++ base = log_is ∙ ap (λ l. c.later ++ o ∷ l) c.cut ∙ sym (append_assoc c.later (o ∷ c.over) base) in
        let ordered : AllOn (IsOrdered g) (o ∷ below) = ordered_at c.later (o ∷ below) log_is in
        let base_fits : AllByRecursion (EntryFits made) base = fits_at (c.later ++ o ∷ c.over) base base_log in
        let le : length keeps.base ≤ length base = omega (arith, c.from, keeps.sealed) in
        let few : length (o ∷ below) ≤ 1048576 = omega (arith, room, ap length log_is, length-append c.later (o ∷ below)) in
        let client : o.entry.client ≡ me = ap (λ e. e.client) c.entry in
        let mine : nat_eq o.entry.client me ≡ true = eq-eqb o.entry.client me client in
        let proper = proper_by made base base_fits in
        let spelled : IsEntry o.entry = (fits_at c.later (o ∷ below) log_is).0.spelled in
        let shows = alike_on_cut (dictionary_by base) (byte_keys-proper (dictionary_by base) proper) part (part_is made base base_fits o.entry.op).cut o.entry.op spelled.op.1 (for_reaches (dictionary_by base) proper o.entry.op) in
        let ends : decision me t (entries below) (length base) part o.entry.op ≡ fate o below =
        ap (λ l. decision me t (entries l) (length base) part o.entry.op) c.cut
        ∙ decides me t o c.over base part shows client c.sealed_then (own_over base c.between le c.others ∙ ap (owns me (length base)) c.cut)
        ∙ ap (fate o) (sym c.cut) in
        let good : s.mode ≡ mode.Objects → (v : List ℕ) → fate o below ≡ outcome.Done (answer.Found v) → IsGood s.contents v =
        λ objects. fate_good s.contents o below (below_refers c.later o below log_is objects) in
        let content : has_content me t message ≡ true =
        load_content me t (seal_on g base) (path_with_entries t (told (o ∷ c.between))) (entries below) o.entry (read_part (part_for (dictionary_by base) o.entry.op)) part t.awaiting c.number c.op c.load (length base) o.entry.op (fate o below)
        (grown_told t (o ∷ c.between) seen keeps.path) (part_is made base base_fits o.entry.op).read c.awaiting (seal_on-position g base) (sym (ap (λ e. e.op) c.entry)) ends
        (λ loads. finds_ok (fate o below) (λ v e. (good (c.objects.loads loads) v e).0)) in
        let passes = reply_passes g made me t seen keeps.path o c.between c.over base c.number c.op c.load c.cut c.awaiting c.entry (all_on_first (o ∷ c.between) seen ordered) c.others c.sealed_then c.from
        ordered.0.near few base_fits (own_above (length base) c.upto) content in
        let moved : move_on_answer me t message ≡ reply_move t o.entry (entries below) (length (o ∷ below)) (length base) (root_on base) o.entry.op (fate o below) =
        reply_moves me t (seal_on g base) (path_with_entries t (told (o ∷ c.between))) (entries below) o.entry (read_part (part_for (dictionary_by base) o.entry.op)) part t.awaiting c.number c.op c.load
        (length (o ∷ below)) (length base) (root_on base) o.entry.op (fate o below)
        (grown_told t (o ∷ c.between) seen keeps.path) (part_is made base base_fits o.entry.op).read c.awaiting (ap suc (length-entries below)) (seal_on-position g base) (seal_on-root g base) (sym (ap (λ e. e.op) c.entry)) ends in
        let own : List Own = t.own ++ own_of o below ∷ [] in
        let next : Standing = record t { path = entries (o ∷ below); sealed = length base; root = root_on base; awaiting = awaits.Turn; own = own; phase = after_decision t.phase (fate o below) } in
        let higher : length base < length (o ∷ below) = omega (arith, ap length c.cut, length-append c.over base) in
        let next_keeps : Keeps me s next (o ∷ below) c.later = record {
          over = o ∷ c.over;
          base = base;
          log = log_is;
          path = refl;
          going = keeps.going;
          cut = ap (λ l. o ∷ l) c.cut;
          sealed = refl;
          root = refl;
          own = ap (λ xs. xs ++ own_of o below ∷ []) (own_is base c.between le c.upto c.others) ∙ sym (owns-mine me (length base) o below mine higher);
          unsealed = all_append (IsAbove (sealed_count s)) t.own (own_of o below ∷ []) keeps.unsealed (c.higher, tt);
          last = keeps.last;
          fetching = after_fetching (s.mode ≡ mode.Objects) s.contents t.phase (fate o below) keeps.fetching c.objects.calling good;
        } in
        subst (Learns g me s) (sym (step_takes g me t payload message keeps.going (read ∙ ap Some c.message) passes ∙ moved)) (record {
          client = stands_sending g me s next (Commits (is_done (fate o below))) (o ∷ below) c.later next_keeps (record {
            o = o;
            below = below;
            awaiting = refl;
            top = refl;
            mine = mine;
            status = refl;
            sealed = c.upto;
            others = c.later_others;
            stage = c.stage;
          });
          fates = completed_is (IsFated s.log) me (entries (o ∷ below)) (fate o below) (record { newer = c.later; o = o; below = below; is = log_is; prefix = refl; client = sym client; outcome = refl });
          fine = fate_fine o below;
          ends = outcome_ends g.mode s.contents t.phase (fate o below) (fate_fine o below);
        })

    pub update_learnt : (m : ToClient) → read_answer payload ≡ Some m → UpdateComes g me s t seen newer m → Learns g me s (step g me t (input.Payload payload))
    update_learnt m read c =
        let o : Ordered = c.o in
        let below : List Ordered = c.below in
        let message : ToClient = say.Update (seal_on g below) (update_part (dictionary_by below) o.entry.op c.done) in
        let rest : List Own = owns me (length (o ∷ below)) seen in
        let in_log : s.log ≡ ((newer ++ c.above) ++ o ∷ []) ++ below = keeps.log ∙ ap (λ l. newer ++ l) c.split ∙ sym (append_assoc newer c.above (o ∷ below)) ∙ sym (append_assoc (newer ++ c.above) (o ∷ []) below) in
        let below_fits : AllByRecursion (EntryFits made) below = fits_at ((newer ++ c.above) ++ o ∷ []) below in_log in
        let le : length keeps.base ≤ length below = omega (arith, keeps.sealed, c.calm.sealed, c.count) in
        let few_seen : length seen ≤ 1048576 = omega (arith, room, length-log) in
        let few : length below ≤ 1048576 = omega (arith, few_seen, ap length c.split, length-append c.above (o ∷ below)) in
        let own : t.own ≡ own_of o below ∷ rest =
        own_is below [] le (omega (arith, c.count)) tt ∙ ap (owns me (length below)) c.split ∙ owns-next me (length below) c.above o below c.mine refl ∙ ap (λ l. own_of o below ∷ owns me (length (o ∷ below)) l) (sym c.split) in
        let status : c.done ≡ is_done (fate o below) = k.fates (newer ++ c.above) o below c.done (keeps.log ∙ ap (λ l. newer ++ l) c.split ∙ sym (append_assoc newer c.above (o ∷ below))) c.committed in
        let sent = update_is made below below_fits o.entry.op c.done in
        let spelled : IsEntry o.entry = (fits_at (newer ++ c.above) (o ∷ below) (keeps.log ∙ ap (λ l. newer ++ l) c.split ∙ sym (append_assoc newer c.above (o ∷ below)))).0.spelled in
        let passes = update_passes g made me t seen keeps.path c.above o below rest c.done status c.split c.awaiting (omega (arith, keeps.sealed)) few_seen below_fits (own_above (length below) (omega (arith, c.count))) own in
        let moved : move_on_answer me t message ≡ move_to_seal t (length (o ∷ below)) (root_on (o ∷ below)) rest =
        update_moves t (seal_on g below) (read_part (update_part (dictionary_by below) o.entry.op c.done)) sent.0 (own_of o below) rest (length (o ∷ below)) (root_on (o ∷ below))
        sent.1.read own (omega (arith, seal_on-position g below))
        (new_root-is g o below sent.0 (proper_by made below below_fits) spelled.op.1 sent.1.cut (ap (λ b. not (b && is_write o.entry.op) || reaches sent.0 o.entry.op) (sym status) ∙ sent.2)) in
        let next : Standing = record t { sealed = length (o ∷ below); root = root_on (o ∷ below); own = rest; awaiting = awaits.Turn } in
        let next_keeps : Keeps me s next seen newer = record {
          over = c.above;
          base = o ∷ below;
          log = keeps.log;
          path = keeps.path;
          going = keeps.going;
          cut = c.split;
          sealed = refl;
          root = refl;
          own = refl;
          unsealed = all_weaker (IsAbove (length (o ∷ below))) (IsAbove (sealed_count s)) (λ x h. omega (arith, h, c.count)) rest (owns-above me (length (o ∷ below)) seen);
          last = keeps.last;
          fetching = keeps.fetching;
        } in
        subst (Learns g me s) (sym (step_takes g me t payload message keeps.going (read ∙ ap Some c.message) passes ∙ moved)) (record {
          client = stands_sending g me s next Seals seen newer next_keeps (record {
            above = c.above;
            o = o;
            below = below;
            done = c.done;
            awaiting = refl;
            split = c.split;
            mine = c.mine;
            count = c.count;
            position = refl;
            committed = c.committed;
            ready = c.calm.ready;
            others = c.calm.others;
          });
          fates = tt;
          fine = tt;
          ends = tt;
        })

    pub entries_learnt : (m : ToClient) → read_answer payload ≡ Some m → EntriesCome g me s t seen newer m → Learns g me s (step g me t (input.Payload payload))
    entries_learnt m read c =
        let base : List Ordered = c.base in
        let now : List Ordered = c.between ++ seen in
        let message : ToClient = say.Entries (seal_on g base) (told c.between) in
        let log_is : s.log ≡ c.later ++ now = keeps.log ∙ ap (λ n. n ++ seen) c.split ∙ append_assoc c.later c.between seen in
        let ordered : AllOn (IsOrdered g) now = ordered_at c.later now log_is in
        let le : length keeps.base ≤ length base = omega (arith, c.from, keeps.sealed) in
        let few : length now ≤ 1048576 = omega (arith, room, ap length log_is, length-append c.later now) in
        let between_others : NoneOf me (c.later ++ c.between) = subst (NoneOf me) c.split c.calm.others in
        let none : NoneOf me c.between = NoneOf-second me c.later c.between between_others in
        let passes = entries_pass g made me t seen keeps.path c.between c.over base c.cut c.awaiting (all_on_first c.between seen ordered) none c.from c.near few (own_above (length base) c.upto) in
        let moved : move_on_answer me t message ≡ move_on_entries t (entries now) (length base) (root_on base) =
        ap (λ p. move_on_entries t p (seal_on g base).position (seal_on g base).root.bytes) (grown_told t c.between seen keeps.path)
        ∙ ap (λ n. move_on_entries t (entries now) n (seal_on g base).root.bytes) (seal_on-position g base) ∙ ap (move_on_entries t (entries now) (length base)) (seal_on-root g base) in
        let next : Standing = record t { path = entries now; sealed = length base; root = root_on base; awaiting = awaits.Nothing } in
        let next_keeps : Keeps me s next now c.later = record {
          over = c.over;
          base = base;
          log = log_is;
          path = refl;
          going = keeps.going;
          cut = c.cut;
          sealed = refl;
          root = refl;
          own = own_is base c.between le c.upto none;
          unsealed = keeps.unsealed;
          last = keeps.last;
          fetching = keeps.fetching;
        } in
        subst (Learns g me s) (sym (step_takes g me t payload message keeps.going (read ∙ ap Some c.message) passes ∙ moved)) (record {
          client = stands_resting g me s next now c.later next_keeps (refl, record { ready = c.calm.ready; sealed = c.upto; others = NoneOf-first me c.later c.between between_others });
          fates = tt;
          fine = tt;
          ends = tt;
        })

    -- what is taken, by its kind
    pub answer_learnt : PhaseHolds t.calls t.phase → (m : ToClient) → read_answer payload ≡ Some m → Does g me s t seen newer (Gets m) → Learns g me s (step g me t (input.Payload payload))
    answer_learnt holds say.Hi read d = absurd d
    answer_learnt holds (say.Reply seal ts part) read d = reply_learnt (say.Reply seal ts part) read d
    answer_learnt holds say.Wait read d = wait_learnt holds read d.0 d.1
    answer_learnt holds (say.Update seal part) read d = update_learnt (say.Update seal part) read d
    answer_learnt holds (say.Entries seal ts) read d = entries_learnt (say.Entries seal ts) read d
    answer_learnt holds (say.Refused r) read (inl d) = refusal_learnt r read d
    answer_learnt holds (say.Refused r) read (inr d) = keep_refusal_learnt r read d
    answer_learnt holds say.Kept read d = kept_learnt read d
    answer_learnt holds (say.Content c) read d = content_learnt c read d
    answer_learnt holds say.Gone read d = absurd d
    answer_learnt holds say.Absent read d = absurd d
