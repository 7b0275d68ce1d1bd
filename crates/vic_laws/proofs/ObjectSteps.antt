-- What calls on objects return, what they fetch and keep, and which contents are known.
use Rattle.std.specs.Prelude.{◌≡◌, ℕ, ◌⊎◌, Bool, true, false, if◌then◌else◌, List, [], ◌∷◌, ◌++◌, length, Option, Some, None, nat_eq}
use Rattle.std.proofs.Common.{refl, ap, subst, sym, ◌∙◌, inl, inr}
use Rattle.std.proofs.lemmas.Bool.{cases_eq, eqb-true, eqb-false}
use Rattle.vic_dict.specs.declared.op.Answer.TheVariants as answer
use Rattle.vic_dict.specs.declared.op.Outcome.{Outcome}
use Rattle.vic_dict.specs.declared.op.Outcome.TheVariants as outcome
use Rattle.vic_dict.specs.declared.op.Mode.TheVariants as mode
use Rattle.vic_dict.specs.Lists.{IsIn}
use Rattle.vic_wire.specs.declared.message.Digest32.{Digest32}
use Rattle.vic_wire.specs.declared.message.ToClient.{ToClient}
use Rattle.vic_wire.specs.declared.message.ToClient.TheVariants as say
use Rattle.vic_wire.specs.declared.message.ToServer.TheVariants as ask
use Rattle.vic_wire.specs.Hashes.{Group}
use Rattle.vic_wire.specs.Messages.{request_text}
use Rattle.vic_rules.specs.declared.object.ObjectOutcome.{ObjectOutcome}
use Rattle.vic_rules.specs.declared.object.ObjectOutcome.TheVariants as ended
use Rattle.vic_rules.specs.declared.object.Next.TheVariants as next
use Rattle.vic_rules.specs.declared.object.Phase.{Phase}
use Rattle.vic_rules.specs.declared.object.Phase.TheVariants as phase
use Rattle.vic_rules.specs.declared.trace.TraceStep.{TraceStep}
use Rattle.vic_rules.specs.Objects.{ObjectStep, final_outcome, step_on_outcome, after_decision, outcome_after_decision, is_reference, hash_in, length_in}
use Rattle.vic_rules.specs.Client.{Standing, Move, Sending, Invokes, Commits, Polls, Seals, Syncs, Keeps, Fetches, payload_of}
use Rattle.vic_rules.specs.History.{standing, move_of, IsStep, AreSteps}
use Rattle.vic_rules.specs.Views.{IsCompleted}
use Rattle.vic_rules.specs.Trust.{answer_taken, answer_unless_halted, content_sent, content_in, contents_known}
use Rattle.vic_laws.specs.ContentClaims.{NoAskOf}
use Rattle.vic_laws.specs.ObjectClaims.{EndsObject, ObjectsEndSo, FoundSince, FetchesSo, KeepsSo, KnowsContent, of_keep, of_answer, IsKnownIn, ContentsAre}
use Rattle.vic_laws.proofs.Words.{some_same, none_is_some, in_either, tail_same}
use Rattle.vic_laws.proofs.Standings.{standing_moved, standing_kept, earlier_steps}
use Rattle.vic_laws.proofs.ByCases.{took_is}
use Rattle.vic_laws.proofs.RealTime.{took_is as took_plainly}
use Rattle.vic_laws.proofs.Phases.{Together, Finds}
use Rattle.vic_laws.proofs.Contents.{all_together, phased_at, fetching_takes, known_sent, known_taken, known_since}
use Rattle.vic_laws.proofs.Asked.{calls_what_it_is_asked}
use Rattle.vic_laws.proofs.Endings.{Returned, is_nothing, is_decided, is_refused, is_refused_content, is_content, is_halted, Calls, Left, Fetched, Stands, stands, ending_at, turn_nothing}

-- ---- what is returned of a call on objects

-- the outcome of the operation whose call on objects ended so
abbrev back : ObjectOutcome → Option Outcome
back ended.Stored = Some (outcome.Done answer.Stored)
back (ended.Content c) = None
back ended.Missing = Some (outcome.Done answer.NotFound)
back ended.Removed = Some (outcome.Done answer.Removed)
back ended.Absent = Some (outcome.Done answer.Absent)
back (ended.Names l) = Some (outcome.Done (answer.Names l))
back (ended.Aborted u) = Some (outcome.Aborted u)
back (ended.Refused r) = Some (outcome.Refused r)

abbrev back_of : Option ObjectOutcome → Option Outcome
back_of None = None
back_of (Some e) = back e

-- what a decision of a call on objects returns
abbrev ends_as : Outcome → Option ObjectOutcome
ends_as o = final_outcome (step_on_outcome o).1

found_nothing : (v : List ℕ) → ends_as (outcome.Done (answer.Found v)) ≡ None
found_nothing v = chosen (is_reference v)
  where
    chosen : (b : Bool) → final_outcome (if◌then◌else◌ {A = ObjectStep} b (phase.Fetching (record { bytes = hash_in v }) (length_in v), next.Fetch (record { bytes = hash_in v }) (length_in v)) (phase.Closed, next.Bad)).1 ≡ None
    chosen true = refl
    chosen false = refl

from_end : (o : Outcome) (e : ObjectOutcome) → ends_as o ≡ Some e → back e ≡ Some o
from_end (outcome.Done answer.Stored) e h = ap back_of (sym h)
from_end (outcome.Done (answer.Found v)) e h = absurd (none_is_some (sym (found_nothing v) ∙ h))
from_end (outcome.Done answer.NotFound) e h = ap back_of (sym h)
from_end (outcome.Done answer.Removed) e h = ap back_of (sym h)
from_end (outcome.Done answer.Absent) e h = ap back_of (sym h)
from_end (outcome.Done (answer.Names l)) e h = ap back_of (sym h)
from_end (outcome.Aborted u) e h = ap back_of (sym h)
from_end (outcome.Refused r) e h = ap back_of (sym h)
from_end (outcome.Halted k) e h = absurd (none_is_some h)

-- a call that was awaited belongs to one on objects
ends_calling : (s : Standing) (v : Move) (o : Outcome) → s.phase ≡ phase.Calling → v.object ≡ outcome_after_decision s.phase o → v.object ≡ ends_as o
ends_calling s v o calling is = is ∙ ap (λ (p : Phase). outcome_after_decision p o) calling

completed_apart : (o : Outcome) (r : ℕ) → IsCompleted o → Some (outcome.Refused r) ≡ Some o → ⊥
completed_apart o r c e = subst IsCompleted (sym (some_same e)) c

completed_going : (o : Outcome) (k : ℕ) → IsCompleted o → Some (outcome.Halted k) ≡ Some o → ⊥
completed_going o k c e = subst IsCompleted (sym (some_same e)) c

-- an outcome that isn't a refusal or a content is that of the decided operation
ended_to : (s : Standing) (took : Option ToClient) (v : Move) → Calls s → Returned s took v → (e : ObjectOutcome) (a : Outcome) → back e ≡ Some a → IsCompleted a → v.object ≡ Some e → v.returns ≡ Some a
ended_to s took v calls (is_nothing q) e a is done given = absurd (none_is_some (sym q.object ∙ given))
ended_to s took v calls (is_decided d) e a is done given =
    let so : v.object ≡ ends_as d.ends = ends_calling s v d.ends (calls d.number d.called d.load d.awaited).0 d.object in
    d.returned ∙ (sym (from_end d.ends e (sym so ∙ given)) ∙ is)
ended_to s took v calls (is_refused f) e a is done given =
    let so : v.object ≡ Some (ended.Refused f.reason) = ends_calling s v (outcome.Refused f.reason) (calls f.number f.called f.load f.awaited).0 f.object in
    let same : ended.Refused f.reason ≡ e = some_same (sym so ∙ given) in
    absurd (completed_apart a f.reason done (ap back same ∙ is))
ended_to s took v calls (is_refused_content f) e a is done given =
    let same : ended.Refused f.reason ≡ e = some_same (sym f.object ∙ given) in
    absurd (completed_apart a f.reason done (ap back same ∙ is))
ended_to s took v calls (is_content f) e a is done given =
    let same : ended.Content f.content ≡ e = some_same (sym f.object ∙ given) in
    absurd (none_is_some (ap back same ∙ is))
ended_to s took v calls (is_halted q) e a is done given = absurd (none_is_some (sym q.object ∙ given))

ended_from : (s : Standing) (took : Option ToClient) (v : Move) → Calls s → Returned s took v → (e : ObjectOutcome) (a : Outcome) → ends_as a ≡ Some e → IsCompleted a → v.returns ≡ Some a → v.object ≡ Some e
ended_from s took v calls (is_nothing q) e a is done given = absurd (none_is_some (sym q.returned ∙ given))
ended_from s took v calls (is_decided d) e a is done given =
    let so : v.object ≡ ends_as d.ends = ends_calling s v d.ends (calls d.number d.called d.load d.awaited).0 d.object in
    let same : d.ends ≡ a = some_same (sym d.returned ∙ given) in
    so ∙ (ap ends_as same ∙ is)
ended_from s took v calls (is_refused f) e a is done given = absurd (completed_apart a f.reason done (sym f.returned ∙ given))
ended_from s took v calls (is_refused_content f) e a is done given = absurd (none_is_some (sym f.returned ∙ given))
ended_from s took v calls (is_content f) e a is done given = absurd (none_is_some (sym f.returned ∙ given))
ended_from s took v calls (is_halted q) e a is done given = absurd (completed_going a q.check done (sym q.returned ∙ given))

refused_apart : (r q : ℕ) → ended.Refused r ≡ ended.Refused q → r ≡ q
refused_apart r q e = cc

content_refused : (c : List ℕ) (r : ℕ) → ended.Content c ≡ ended.Refused r → ⊥
content_refused c r e = cc

halted_refused : (k r : ℕ) → outcome.Halted k ≡ outcome.Refused r → ⊥
halted_refused k r e = cc

same_refusal : (r q : ℕ) → outcome.Refused r ≡ outcome.Refused q → r ≡ q
same_refusal r q e = cc

took_refusal : (r q : ℕ) → say.Refused r ≡ say.Refused q → r ≡ q
took_refusal r q e = cc

took_content : (c d : List ℕ) → say.Content c ≡ say.Content d → c ≡ d
took_content c d e = cc

took_apart : (r : ℕ) (c : List ℕ) → say.Refused r ≡ say.Content c → ⊥
took_apart r c e = cc

refused_to : (s : Standing) (took : Option ToClient) (v : Move) → Calls s → Returned s took v → (r : ℕ) → v.object ≡ Some (ended.Refused r)
    → (v.returns ≡ Some (outcome.Refused r)) ⊎ ((v.returns ≡ None) × (took ≡ Some (say.Refused r)))
refused_to s took v calls (is_nothing q) r given = absurd (none_is_some (sym q.object ∙ given))
refused_to s took v calls (is_decided d) r given =
    let so : v.object ≡ ends_as d.ends = ends_calling s v d.ends (calls d.number d.called d.load d.awaited).0 d.object in
    absurd (completed_apart d.ends r d.completes (from_end d.ends (ended.Refused r) (sym so ∙ given)))
refused_to s took v calls (is_refused f) r given =
    let so : v.object ≡ Some (ended.Refused f.reason) = ends_calling s v (outcome.Refused f.reason) (calls f.number f.called f.load f.awaited).0 f.object in
    inl (f.returned ∙ ap (λ (n : ℕ). Some (outcome.Refused n)) (refused_apart f.reason r (some_same (sym so ∙ given))))
refused_to s took v calls (is_refused_content f) r given =
    inr (f.returned, f.took_it ∙ ap (λ (n : ℕ). Some (say.Refused n)) (refused_apart f.reason r (some_same (sym f.object ∙ given))))
refused_to s took v calls (is_content f) r given = absurd (content_refused f.content r (some_same (sym f.object ∙ given)))
refused_to s took v calls (is_halted q) r given = absurd (none_is_some (sym q.object ∙ given))

refused_call : (s : Standing) (took : Option ToClient) (v : Move) → Calls s → Returned s took v → (r : ℕ) → v.returns ≡ Some (outcome.Refused r) → v.object ≡ Some (ended.Refused r)
refused_call s took v calls (is_nothing q) r given = absurd (none_is_some (sym q.returned ∙ given))
refused_call s took v calls (is_decided d) r given = absurd (completed_apart d.ends r d.completes (sym given ∙ d.returned))
refused_call s took v calls (is_refused f) r given =
    let so : v.object ≡ Some (ended.Refused f.reason) = ends_calling s v (outcome.Refused f.reason) (calls f.number f.called f.load f.awaited).0 f.object in
    so ∙ ap (λ (n : ℕ). Some (ended.Refused n)) (same_refusal f.reason r (some_same (sym f.returned ∙ given)))
refused_call s took v calls (is_refused_content f) r given = absurd (none_is_some (sym f.returned ∙ given))
refused_call s took v calls (is_content f) r given = absurd (none_is_some (sym f.returned ∙ given))
refused_call s took v calls (is_halted q) r given = absurd (halted_refused q.check r (some_same (sym q.returned ∙ given)))

refused_content : (s : Standing) (took : Option ToClient) (v : Move) → Returned s took v → (r : ℕ) → v.returns ≡ None → took ≡ Some (say.Refused r) → v.object ≡ Some (ended.Refused r)
refused_content s took v (is_nothing q) r none it = absurd (q.no_refusal r it)
refused_content s took v (is_decided d) r none it = absurd (none_is_some (sym none ∙ d.returned))
refused_content s took v (is_refused f) r none it = absurd (none_is_some (sym none ∙ f.returned))
refused_content s took v (is_refused_content f) r none it = f.object ∙ ap (λ (n : ℕ). Some (ended.Refused n)) (took_refusal f.reason r (some_same (sym f.took_it ∙ it)))
refused_content s took v (is_content f) r none it = absurd (took_apart r f.content (some_same (sym it ∙ f.took_it)))
refused_content s took v (is_halted q) r none it = absurd (none_is_some (sym q.took_none ∙ it))

content_to : (s : Standing) (took : Option ToClient) (v : Move) → Returned s took v → (c : List ℕ) → took ≡ Some (say.Content c) → v.object ≡ Some (ended.Content c)
content_to s took v (is_nothing q) c it = absurd (q.no_content c it)
content_to s took v (is_decided d) c it = absurd (d.no_content c it)
content_to s took v (is_refused f) c it = absurd (f.no_content c it)
content_to s took v (is_refused_content f) c it = absurd (took_apart f.reason c (some_same (sym f.took_it ∙ it)))
content_to s took v (is_content f) c it = f.object ∙ ap (λ (d : List ℕ). Some (ended.Content d)) (took_content f.content c (some_same (sym f.took_it ∙ it)))
content_to s took v (is_halted q) c it = absurd (none_is_some (sym q.took_none ∙ it))

halted_so : (s : Standing) (took : Option ToClient) (v : Move) → Returned s took v → (k : ℕ) → v.returns ≡ Some (outcome.Halted k) → v.object ≡ None
halted_so s took v (is_nothing q) k given = q.object
halted_so s took v (is_decided d) k given = absurd (completed_going d.ends k d.completes (sym given ∙ d.returned))
halted_so s took v (is_refused f) k given = absurd (halted_refused k f.reason (some_same (sym given ∙ f.returned)))
halted_so s took v (is_refused_content f) k given = absurd (none_is_some (sym f.returned ∙ given))
halted_so s took v (is_content f) k given = absurd (none_is_some (sym f.returned ∙ given))
halted_so s took v (is_halted q) k given = q.object

refused_found : (r : ℕ) (w : List ℕ) → outcome.Refused r ≡ outcome.Done (answer.Found w) → ⊥
refused_found r w e = cc

halted_found : (k : ℕ) (w : List ℕ) → outcome.Halted k ≡ outcome.Done (answer.Found w) → ⊥
halted_found k w e = cc

-- a get that found a value is a load's, and the value is a reference
pub record FoundIt (s : Standing) (v : Move) (w : List ℕ) : Type 0 where
  pub size : is_reference w ≡ true
  pub object : v.object ≡ None
  pub turned : v.next.phase ≡ phase.Fetching (record { bytes = hash_in w }) (length_in w)

found_it : (s : Standing) (took : Option ToClient) (v : Move) → Calls s → Returned s took v → (w : List ℕ) → v.returns ≡ Some (outcome.Done (answer.Found w)) → FoundIt s v w
found_it s took v calls (is_nothing q) w given = absurd (none_is_some (sym q.returned ∙ given))
found_it s took v calls (is_decided d) w given =
    let same : d.ends ≡ outcome.Done (answer.Found w) = some_same (sym d.returned ∙ given) in
    let call = calls d.number d.called d.load d.awaited in
    let get = d.gets w same in
    let size : is_reference w ≡ true = d.loads w same (call.1 get.0 get.1) in
    record {
      size = size;
      object = ends_calling s v d.ends call.0 d.object ∙ (ap ends_as same ∙ found_nothing w);
      turned = d.turned ∙ (ap (λ (p : Phase). after_decision p d.ends) call.0 ∙ (ap (after_decision phase.Calling) same
          ∙ ap (λ (b : Bool). (if◌then◌else◌ {A = ObjectStep} b (phase.Fetching (record { bytes = hash_in w }) (length_in w), next.Fetch (record { bytes = hash_in w }) (length_in w)) (phase.Closed, next.Bad)).0) size));
    }
found_it s took v calls (is_refused f) w given = absurd (refused_found f.reason w (some_same (sym f.returned ∙ given)))
found_it s took v calls (is_refused_content f) w given = absurd (none_is_some (sym f.returned ∙ given))
found_it s took v calls (is_content f) w given = absurd (none_is_some (sym f.returned ∙ given))
found_it s took v calls (is_halted q) w given = absurd (halted_found q.check w (some_same (sym q.returned ∙ given)))

-- in a group without objects nothing is returned of one
plain_none : (s : Standing) (took : Option ToClient) (v : Move) → s.phase ≡ phase.Closed → Together s.phase s.awaiting → Returned s took v → v.object ≡ None
plain_none s took v closed t (is_nothing q) = q.object
plain_none s took v closed t (is_decided d) = d.object ∙ ap (λ (p : Phase). outcome_after_decision p d.ends) closed
plain_none s took v closed t (is_refused f) = f.object ∙ ap (λ (p : Phase). outcome_after_decision p (outcome.Refused f.reason)) closed
plain_none s took v closed t (is_refused_content f) = absurd ((subst (λ (p : Phase). Together p s.awaiting) closed t).1 f.awaited)
plain_none s took v closed t (is_content f) = absurd ((subst (λ (p : Phase). Together p s.awaiting) closed t).0 f.digest f.len f.awaited)
plain_none s took v closed t (is_halted q) = q.object

ends_object : (g : Group) (x : TraceStep) (past : List TraceStep) → AreSteps g (x ∷ past) → g.mode ≡ mode.Objects → EndsObject g past x
ends_object g x past steps objects =
    let s : Standing = standing g x.client past in
    let v : Move = move_of g past x in
    let t : Option ToClient = answer_unless_halted v.next x.input in
    let calls : Calls s = (stands g past steps.0 x.client).calls objects in
    let r : Returned s t v = (ending_at g x past steps).returned in
    let to : (e : ObjectOutcome) (a : Outcome) → back e ≡ Some a → IsCompleted a → x.object ≡ Some e → x.returned ≡ Some a =
    λ e a is done given. steps.1.returned ∙ ended_to s t v calls r e a is done (sym steps.1.object ∙ given) in
    let from : (e : ObjectOutcome) (a : Outcome) → ends_as a ≡ Some e → IsCompleted a → x.returned ≡ Some a → x.object ≡ Some e =
    λ e a is done given. steps.1.object ∙ ended_from s t v calls r e a is done (sym steps.1.returned ∙ given) in
    record {
      stored = (to ended.Stored (outcome.Done answer.Stored) refl tt, from ended.Stored (outcome.Done answer.Stored) refl tt);
      missing = (to ended.Missing (outcome.Done answer.NotFound) refl tt, from ended.Missing (outcome.Done answer.NotFound) refl tt);
      removed = (to ended.Removed (outcome.Done answer.Removed) refl tt, from ended.Removed (outcome.Done answer.Removed) refl tt);
      absent = (to ended.Absent (outcome.Done answer.Absent) refl tt, from ended.Absent (outcome.Done answer.Absent) refl tt);
      names = λ l. (to (ended.Names l) (outcome.Done (answer.Names l)) refl tt, from (ended.Names l) (outcome.Done (answer.Names l)) refl tt);
      aborted = λ u. (to (ended.Aborted u) (outcome.Aborted u) refl tt, from (ended.Aborted u) (outcome.Aborted u) refl tt);
      refused = λ n. (refuses n, refuses_from n);
      content = λ c. (gives c, λ it. steps.1.object ∙ content_to s t v r c (sym (took_plainly g past x) ∙ it));
      found = λ w given. (let f : FoundIt s v w = found_it s t v calls r w (sym steps.1.returned ∙ given) in (steps.1.object ∙ f.object, eqb-true (length w) 36 f.size));
      halted = λ k given. steps.1.object ∙ halted_so s t v r k (sym steps.1.returned ∙ given);
    }
  where
    refuses : (n : ℕ) → x.object ≡ Some (ended.Refused n) → (x.returned ≡ Some (outcome.Refused n)) ⊎ ((x.returned ≡ None) × (answer_taken g past x ≡ Some (say.Refused n)))
    refuses n given = elim (refused_to (standing g x.client past) _ (move_of g past x) ((stands g past steps.0 x.client).calls objects) (ending_at g x past steps).returned n (sym steps.1.object ∙ given)) [
      | inl a ↦ inl (steps.1.returned ∙ a)
      | inr b ↦ inr (steps.1.returned ∙ b.0, took_plainly g past x ∙ b.1)
    ]

    refuses_from : (n : ℕ) → (x.returned ≡ Some (outcome.Refused n)) ⊎ ((x.returned ≡ None) × (answer_taken g past x ≡ Some (say.Refused n))) → x.object ≡ Some (ended.Refused n)
    refuses_from n (inl a) = steps.1.object ∙ refused_call (standing g x.client past) _ (move_of g past x) ((stands g past steps.0 x.client).calls objects) (ending_at g x past steps).returned n (sym steps.1.returned ∙ a)
    refuses_from n (inr b) = steps.1.object ∙ refused_content (standing g x.client past) _ (move_of g past x) (ending_at g x past steps).returned n (sym steps.1.returned ∙ b.0) (sym (took_plainly g past x) ∙ b.1)

    gives : (c : List ℕ) → x.object ≡ Some (ended.Content c) → answer_taken g past x ≡ Some (say.Content c)
    gives c given = took_plainly g past x ∙ ((phased_at g x past steps).content c (sym steps.1.object ∙ given)).took_it

pub objects_end_so : ObjectsEndSo
objects_end_so g h lawful later x past is =
    let now : AreSteps g (x ∷ past) = earlier_steps g later (x ∷ past) (subst (AreSteps g) is lawful.steps) in
    let at : Stands g (standing g x.client past) = stands g past now.0 x.client in
    record {
      plain = λ plain. now.1.object ∙ plain_none (standing g x.client past) _ (move_of g past x) (at.closed plain) at.together (ending_at g x past now).returned;
      objects = λ objects. ends_object g x past now objects;
    }

-- ---- what bytes tell of what was sent

starts_apart : (a b : ℕ) (x y : List ℕ) → nat_eq a b ≡ false → a ∷ x ≡ b ∷ y → ⊥
starts_apart a b x y differ e = eqb-false a b differ (let f : a ≡ b = cc in f)

keep_told : (g : Group) (me : ℕ) (s : Standing) (o : Option Sending) (c : List ℕ) → payload_of g me s o ≡ Some (request_text (ask.Keep c)) → o ≡ Some (Keeps c)
keep_told g me s None c e = absurd (none_is_some e)
keep_told g me s (Some (Invokes n q)) c e = absurd (starts_apart 0x22 0x27 _ _ refl (some_same e))
keep_told g me s (Some (Commits done)) c e = absurd (starts_apart 0x23 0x27 _ _ refl (some_same e))
keep_told g me s (Some Polls) c e = absurd (starts_apart 0x24 0x27 _ _ refl (some_same e))
keep_told g me s (Some Seals) c e = absurd (starts_apart 0x25 0x27 _ _ refl (some_same e))
keep_told g me s (Some Syncs) c e = absurd (starts_apart 0x26 0x27 _ _ refl (some_same e))
keep_told g me s (Some (Keeps d)) c e = ap (λ (b : List ℕ). Some (Keeps b)) (tail_same 0x27 0x27 d c (some_same e))
keep_told g me s (Some (Fetches h)) c e = absurd (starts_apart 0x28 0x27 _ _ refl (some_same e))

fetch_told : (g : Group) (me : ℕ) (s : Standing) (o : Option Sending) (d : Digest32) → payload_of g me s o ≡ Some (request_text (ask.Fetch d)) → o ≡ Some (Fetches d.bytes)
fetch_told g me s None d e = absurd (none_is_some e)
fetch_told g me s (Some (Invokes n q)) d e = absurd (starts_apart 0x22 0x28 _ _ refl (some_same e))
fetch_told g me s (Some (Commits done)) d e = absurd (starts_apart 0x23 0x28 _ _ refl (some_same e))
fetch_told g me s (Some Polls) d e = absurd (starts_apart 0x24 0x28 _ _ refl (some_same e))
fetch_told g me s (Some Seals) d e = absurd (starts_apart 0x25 0x28 _ _ refl (some_same e))
fetch_told g me s (Some Syncs) d e = absurd (starts_apart 0x26 0x28 _ _ refl (some_same e))
fetch_told g me s (Some (Keeps c)) d e = absurd (starts_apart 0x27 0x28 _ _ refl (some_same e))
fetch_told g me s (Some (Fetches h)) d e = ap (λ (b : List ℕ). Some (Fetches b)) (tail_same 0x28 0x28 h d.bytes (some_same e))

-- ---- what is fetched

found_later : (x : TraceStep) (past : List TraceStep) (me : ℕ) (hash : List ℕ) → NoAskOf me (x ∷ []) → FoundSince past me hash → FoundSince (x ∷ past) me hash
found_later x past me hash takes f = record {
  between = x ∷ f.between;
  reply = f.reply;
  before = f.before;
  since = ap (λ (h : List TraceStep). x ∷ h) f.since;
  alone = (takes.0, f.alone);
  owner = f.owner;
  value = f.value;
  found = f.found;
  is = f.is;
}

-- a client that is fetching a content found its reference, and was asked for nothing since
found_since : (g : Group) (h : List TraceStep) → AreSteps g h → (me : ℕ) (d : Digest32) (len : ℕ) → (standing g me h).phase ≡ phase.Fetching d len → FoundSince h me d.bytes
unfolding standing
found_since g [] steps me d len e = absurd (let f : phase.Closed ≡ phase.Fetching d len = e in cc)
found_since g (x ∷ past) steps me d len e = elim (cases_eq x.client me) [
  | inl same ↦ subst (λ (m : ℕ). FoundSince (x ∷ past) m d.bytes) same
      (let moved : (move_of g past x).next.phase ≡ phase.Fetching d len =
      sym (ap (λ (s : Standing). s.phase) (standing_moved g x.client x past refl)) ∙ subst (λ (m : ℕ). (standing g m (x ∷ past)).phase ≡ phase.Fetching d len) (sym same) e in
      elim ((phased_at g x past steps).fetching d len moved) [
        | inl before ↦ found_later x past x.client d.bytes
            ((λ w. fetching_takes g (standing g x.client past) x.input d len steps.1.may (all_together g past steps.0 x.client) before), tt)
            (found_since g past steps.0 x.client d len before)
        | inr now ↦ found_now now
      ])
  | inr differ ↦ found_later x past me d.bytes ((λ w. absurd (differ w)), tt) (found_since g past steps.0 me d len (sym (ap (λ (s : Standing). s.phase) (standing_kept g me x past differ)) ∙ e))
]
  where
    found_now : Finds (move_of g past x).returns d len → FoundSince (x ∷ past) x.client d.bytes
    found_now f = record {
      between = [];
      reply = x;
      before = past;
      since = refl;
      alone = tt;
      owner = refl;
      value = f.value;
      found = steps.1.returned ∙ f.is;
      is = f.hash_is;
    }

-- the digest of a value that was found
abbrev digest_in : List ℕ → Digest32
digest_in w = record { bytes = hash_in w }

-- from the step at which a reference was found the content is to be fetched, or no answer is awaited, until the client is asked for more
left_since : (g : Group) (me : ℕ) (w : List ℕ) (between : List TraceStep) (x : TraceStep) (past : List TraceStep) → AreSteps g (between ++ x ∷ past) → g.mode ≡ mode.Objects → NoAskOf me between
    → x.client ≡ me → x.returned ≡ Some (outcome.Done (answer.Found w)) → Left (standing g me (between ++ x ∷ past)) (digest_in w) (length_in w)
left_since g me w [] x past steps objects alone own found =
    let s : Standing = standing g x.client past in
    let f : FoundIt s (move_of g past x) w = found_it s _ (move_of g past x) ((stands g past steps.0 x.client).calls objects) (ending_at g x past steps).returned w (sym steps.1.returned ∙ found) in
    inl (ap (λ (s : Standing). s.phase) (standing_moved g me x past own) ∙ f.turned)
left_since g me w (y ∷ between) x past steps objects alone own found =
    let before : Left (standing g me (between ++ x ∷ past)) (digest_in w) (length_in w) = left_since g me w between x past steps.0 objects alone.1 own found in
    elim (cases_eq y.client me) [
      | inl same ↦ subst (λ (s : Standing). Left s (digest_in w) (length_in w)) (sym (standing_moved g me y (between ++ x ∷ past) same))
          ((ending_at g y (between ++ x ∷ past) steps).stays (alone.0 same) (digest_in w) (length_in w)
          (subst (λ (m : ℕ). Left (standing g m (between ++ x ∷ past)) (digest_in w) (length_in w)) (sym same) before))
      | inr differ ↦ subst (λ (s : Standing). Left s (digest_in w) (length_in w)) (sym (standing_kept g me y (between ++ x ∷ past) differ)) before
    ]

fetches_from : (g : Group) (x : TraceStep) (past : List TraceStep) → AreSteps g (x ∷ past) → g.mode ≡ mode.Objects → (d : Digest32) → answer_taken g past x ≡ Some say.Wait → FoundSince past x.client d.bytes
    → x.sent ≡ Some (request_text (ask.Fetch d))
fetches_from g x past steps objects d it f =
    let e = ending_at g x past steps in
    let took_it : answer_unless_halted (move_of g past x).next x.input ≡ Some say.Wait = sym (took_plainly g past x) ∙ it in
    let left : Left (standing g x.client past) (digest_in f.value) (length_in f.value) =
    subst (λ (h : List TraceStep). Left (standing g x.client h) (digest_in f.value) (length_in f.value)) (sym f.since)
    (left_since g x.client f.value f.between f.reply f.before (subst (AreSteps g) f.since steps.0) objects f.alone f.owner f.found) in
    elim left [
      | inl fetching ↦ steps.1.sent ∙ (ap (payload_of g x.client (move_of g past x).next) (e.waits took_it (digest_in f.value) (length_in f.value) fetching)
          ∙ ap (λ (b : List ℕ). Some (0x28 ∷ b)) (sym f.is))
      | inr nothing ↦ absurd (turn_nothing (sym (e.turn took_it) ∙ nothing))
    ]

fetches_to : (g : Group) (x : TraceStep) (past : List TraceStep) → AreSteps g (x ∷ past) → (d : Digest32) → x.sent ≡ Some (request_text (ask.Fetch d)) → (answer_taken g past x ≡ Some say.Wait) × FoundSince past x.client d.bytes
fetches_to g x past steps d sent =
    let sends : (move_of g past x).sends ≡ Some (Fetches d.bytes) = fetch_told g x.client (move_of g past x).next (move_of g past x).sends d (sym steps.1.sent ∙ sent) in
    let f : Fetched (standing g x.client past) (answer_unless_halted (move_of g past x).next x.input) d.bytes = (ending_at g x past steps).fetches d.bytes sends in
    (took_plainly g past x ∙ f.took_it, subst (FoundSince past x.client) (sym f.is) (found_since g past steps.0 x.client f.digest f.len f.fetching))

-- a group without objects has none to fetch
no_fetch : (g : Group) (x : TraceStep) (past : List TraceStep) → AreSteps g (x ∷ past) → (d : Digest32) → g.mode ≡ mode.Plain → x.sent ≡ Some (request_text (ask.Fetch d)) → ⊥
no_fetch g x past steps d plain sent =
    let sends : (move_of g past x).sends ≡ Some (Fetches d.bytes) = fetch_told g x.client (move_of g past x).next (move_of g past x).sends d (sym steps.1.sent ∙ sent) in
    let f : Fetched (standing g x.client past) (answer_unless_halted (move_of g past x).next x.input) d.bytes = (ending_at g x past steps).fetches d.bytes sends in
    apart f.digest f.len (sym ((stands g past steps.0 x.client).closed plain) ∙ f.fetching)
  where
    apart : (h : Digest32) (len : ℕ) → phase.Closed ≡ phase.Fetching h len → ⊥
    apart h len e = cc

pub fetches_so : FetchesSo
fetches_so g h lawful later x past is d =
    let now : AreSteps g (x ∷ past) = earlier_steps g later (x ∷ past) (subst (AreSteps g) is lawful.steps) in
    record {
      plain = λ plain sent. no_fetch g x past now d plain sent;
      objects = λ objects. (fetches_to g x past now d, λ w. fetches_from g x past now objects d w.0 w.1);
    }

-- ---- what is kept

pub keeps_so : KeepsSo
keeps_so g h lawful later x past is c =
    let now : AreSteps g (x ∷ past) = earlier_steps g later (x ∷ past) (subst (AreSteps g) is lawful.steps) in
    let v : Move = move_of g past x in (
      λ sent. (ending_at g x past now).keeps c (keep_told g x.client v.next v.sends c (sym now.1.sent ∙ sent)),
      λ asked. now.1.sent ∙ ap (payload_of g x.client v.next) ((calls_what_it_is_asked g x past now).store asked.0 c asked.1),
    )

-- ---- which contents are known

only_content : (a c : List ℕ) → IsIn (a ∷ []) c → a ≡ c
only_content a c (inl same) = same
only_content a c (inr none) = absurd none

sent_content : (o : Option Sending) (c : List ℕ) → IsIn (content_sent o) c → o ≡ Some (Keeps c)
sent_content None c i = absurd i
sent_content (Some (Invokes n q)) c i = absurd i
sent_content (Some (Commits done)) c i = absurd i
sent_content (Some Polls) c i = absurd i
sent_content (Some Seals) c i = absurd i
sent_content (Some Syncs) c i = absurd i
sent_content (Some (Keeps d)) c i = ap (λ (b : List ℕ). Some (Keeps b)) (only_content d c i)
sent_content (Some (Fetches h)) c i = absurd i

came_content : (o : Option ToClient) (c : List ℕ) → IsIn (content_in o) c → o ≡ Some (say.Content c)
came_content None c i = absurd i
came_content (Some say.Hi) c i = absurd i
came_content (Some (say.Reply seal entries part)) c i = absurd i
came_content (Some say.Wait) c i = absurd i
came_content (Some (say.Update seal part)) c i = absurd i
came_content (Some (say.Entries seal entries)) c i = absurd i
came_content (Some (say.Refused r)) c i = absurd i
came_content (Some say.Kept) c i = absurd i
came_content (Some (say.Content d)) c i = ap (λ (b : List ℕ). Some (say.Content b)) (only_content d c i)
came_content (Some say.Gone) c i = absurd i
came_content (Some say.Absent) c i = absurd i

known_to : (g : Group) (h : List TraceStep) → AreSteps g h → (c : List ℕ) → IsIn (contents_known g h) c → IsKnownIn g h c
unfolding contents_known
known_to g [] steps c i = absurd i
known_to g (x ∷ past) steps c i = elim (in_either (content_sent (move_of g past x).sends) (content_in (answer_taken g past x) ++ contents_known g past) c i) [
  | inl a ↦ record { later = []; x = x; past = past; is = refl; knows = of_keep (steps.1.sent ∙ ap (payload_of g x.client (move_of g past x).next) (sent_content (move_of g past x).sends c a)) }
  | inr b ↦ elim (in_either (content_in (answer_taken g past x)) (contents_known g past) c b) [
    | inl a ↦ record { later = []; x = x; past = past; is = refl; knows = of_answer ((took_is g past x (say.Content c)).0 (came_content (answer_taken g past x) c a)) }
    | inr w ↦ (let r = known_to g past steps.0 c w in record { later = x ∷ r.later; x = r.x; past = r.past; is = ap (λ (k : List TraceStep). x ∷ k) r.is; knows = r.knows })
  ]
]

known_at : (g : Group) (x : TraceStep) (past : List TraceStep) → IsStep g past x → (c : List ℕ) → KnowsContent g past x c → IsIn (contents_known g (x ∷ past)) c
known_at g x past step c (of_keep sent) = known_sent g x past c (keep_told g x.client (move_of g past x).next (move_of g past x).sends c (sym step.sent ∙ sent))
known_at g x past step c (of_answer t) = known_taken g x past c ((took_is g past x (say.Content c)).1 t)

known_from : (g : Group) (h : List TraceStep) → AreSteps g h → (c : List ℕ) → IsKnownIn g h c → IsIn (contents_known g h) c
known_from g h steps c k =
    let now : AreSteps g (k.x ∷ k.past) = earlier_steps g k.later (k.x ∷ k.past) (subst (AreSteps g) k.is steps) in
    subst (λ (w : List TraceStep). IsIn (contents_known g w) c) (sym k.is) (known_since g k.later (k.x ∷ k.past) c (known_at g k.x k.past now.1 c k.knows))

pub contents_are : ContentsAre
contents_are g h lawful c = (known_to g h lawful.steps c, known_from g h lawful.steps c)
