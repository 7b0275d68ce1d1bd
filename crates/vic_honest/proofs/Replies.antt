-- A Reply that a client takes returns what becomes of its call, and a refusal that it takes returns the refusal.
use Rattle.vic_wire.specs.declared.message.Tagged.{Tagged}
use Rattle.std.proofs.Common.{◌≡◌, ℕ, List, [], ◌∷◌, ◌++◌, Option, Some, None, inl, inr, refl, sym, ap, subst, ◌∙◌}
use Rattle.vic_dict.specs.declared.op.Op.{Op}
use Rattle.vic_dict.specs.declared.op.Entry.{Entry}
use Rattle.vic_dict.specs.declared.op.Outcome.{Outcome}
use Rattle.vic_dict.specs.declared.op.Outcome.TheVariants as outcome
use Rattle.vic_dict.specs.Dictionary.{Dictionary}
use Rattle.vic_dict.specs.Lists.{IsIn}
use Rattle.vic_wire.specs.declared.message.Seal.{Seal}
use Rattle.vic_wire.specs.declared.message.ToClient.{ToClient}
use Rattle.vic_wire.specs.declared.message.ToClient.TheVariants as say
use Rattle.vic_wire.specs.Hashes.{Group}
use Rattle.vic_wire.specs.Parts.{Part, read_part}
use Rattle.vic_wire.specs.Reading.{read_answer}
use Rattle.vic_dict.specs.declared.op.Mode.TheVariants as mode
use Rattle.vic_wire.specs.declared.message.Digest32.{Digest32}
use Rattle.vic_rules.specs.declared.object.ObjectCall.TheVariants as object
use Rattle.vic_rules.specs.declared.object.Phase.{Phase}
use Rattle.vic_rules.specs.declared.object.Phase.TheVariants as phase
use Rattle.vic_rules.specs.declared.state.Awaiting.{Awaiting}
use Rattle.vic_rules.specs.declared.state.Awaiting.TheVariants as awaits
use Rattle.vic_rules.specs.declared.trace.Input.{Input}
use Rattle.vic_rules.specs.declared.trace.Input.TheVariants as input
use Rattle.vic_rules.specs.declared.trace.TraceStep.{TraceStep}
use Rattle.vic_rules.specs.Client.{Standing, Move, step, path_with_entries, decision, decided_outcome, move_on_reply, move_on_answer, move_on_verdict, move_on_payload, verdict, move_on_refusal, MayStep}
use Rattle.vic_rules.specs.History.{standing, move_of, AreSteps, IsStep, completion, completions}
use Rattle.vic_laws.proofs.Words.{some_same, in_right, all_at}
use Rattle.vic_laws.proofs.Steps.{Kind, is_quiet, is_called, is_replied, is_updated, is_listed, Replied, call_of}
use Rattle.vic_laws.proofs.Standings.{earlier_steps, standing_moved}
use Rattle.vic_laws.proofs.Calls.{kind_of, RepliedAt, completed_by, completion_joins}
use Rattle.vic_laws.proofs.Complete.{completions_stay}
use Rattle.vic_laws.proofs.Phases.{Together}
use Rattle.vic_laws.proofs.Contents.{all_together, AskedToStore, keeping_asked}
use Rattle.vic_order.specs.Fates.{entries}
use Rattle.vic_order.specs.Order.{Server}
use Rattle.vic_order.specs.Scenes.{Scene, Event}
use Rattle.vic_honest.specs.SafeRuns.{IsSafeRun}
use Rattle.vic_honest.specs.Claims.{StandsAsFated, ReturnsItsFate, RefusalIsReturned}
use Rattle.vic_honest.proofs.Learning.{IsFine}
use Rattle.vic_honest.proofs.Runs.{run_fits, run_knows, never_halted, all_fated}

-- ---- an answer passes where the client doesn't halt

abbrev Halts : Option Outcome → Type 0
Halts returned = (k : ℕ) × (returned ≡ Some (outcome.Halted k))

answer_passes : (me : ℕ) (t : Standing) (found : Option ToClient) (failed : Option ℕ) (m : ToClient) → found ≡ Some m → (Halts (move_on_verdict me t found failed).returns → ⊥) → move_on_verdict me t found failed ≡ move_on_answer me t m
answer_passes me t found (Some k) m e goes = absurd (goes (k, refl))
answer_passes me t (Some n) None m e goes = ap (move_on_answer me t) (some_same e)
answer_passes me t None None m e goes = absurd cc

payload_passes : (g : Group) (me : ℕ) (t : Standing) (halted : Option ℕ) (payload : List ℕ) (m : ToClient) → read_answer payload ≡ Some m → (Halts (move_on_payload g me t halted payload).returns → ⊥)
    → move_on_payload g me t halted payload ≡ move_on_answer me t m
payload_passes g me t (Some k) payload m read goes = absurd (goes (k, refl))
payload_passes g me t None payload m read goes = answer_passes me t (read_answer payload) (verdict g me t payload) m read goes

step_passes : (g : Group) (me : ℕ) (t : Standing) (payload : List ℕ) (m : ToClient) → read_answer payload ≡ Some m → (Halts (step g me t (input.Payload payload)).returns → ⊥)
    → step g me t (input.Payload payload) ≡ move_on_answer me t m
unfolding step
step_passes g me t payload m read goes = payload_passes g me t t.halted payload m read goes

payload_alive : (g : Group) (me : ℕ) (t : Standing) (halted : Option ℕ) (payload : List ℕ) → (Halts (move_on_payload g me t halted payload).returns → ⊥) → halted ≡ None
payload_alive g me t (Some k) payload goes = absurd (goes (k, refl))
payload_alive g me t None payload goes = refl

step_alive : (g : Group) (me : ℕ) (t : Standing) (payload : List ℕ) → (Halts (step g me t (input.Payload payload)).returns → ⊥) → t.halted ≡ None
unfolding step
step_alive g me t payload goes = payload_alive g me t t.halted payload goes

-- a step of the history that took this answer
module _ (s : Scene) (server : Server) (events : List Event) (run : IsSafeRun s server events) (newer : List TraceStep) (x : TraceStep) (past : List TraceStep) (is : s.history ≡ newer ++ x ∷ past)
    (payload : List ℕ) (input_is : x.input ≡ input.Payload payload) (m : ToClient) (read : read_answer payload ≡ Some m) where
  step_is : IsStep s.group past x
  step_is =
      let now : AreSteps s.group (x ∷ past) = earlier_steps s.group newer (x ∷ past) (subst (AreSteps s.group) is (run_fits s server events run.honest).fits.steps) in now.1

  goes_on : Halts (move_of s.group past x).returns → ⊥
  goes_on h =
      let there : IsIn s.history x = subst (λ l. IsIn l x) (sym is) (in_right newer (x ∷ past) x (inl refl)) in
      never_halted x.returned h.0 (all_at (λ y. IsFine y.returned) s.history x (run_knows s server events run).fine there) (step_is.returned ∙ h.1)

  taken_here : move_of s.group past x ≡ move_on_answer x.client (standing s.group x.client past) m
  taken_here =
      let as_payload : move_of s.group past x ≡ step s.group x.client (standing s.group x.client past) (input.Payload payload) = ap (step s.group x.client (standing s.group x.client past)) input_is in
      as_payload ∙ step_passes s.group x.client (standing s.group x.client past) payload m read (λ h. goes_on (h.0, ap (λ v. v.returns) as_payload ∙ h.1))

  -- the client hadn't halted
  alive_here : (standing s.group x.client past).halted ≡ None
  alive_here =
      let as_payload : move_of s.group past x ≡ step s.group x.client (standing s.group x.client past) (input.Payload payload) = ap (step s.group x.client (standing s.group x.client past)) input_is in
      step_alive s.group x.client (standing s.group x.client past) payload (λ h. goes_on (h.0, ap (λ v. v.returns) as_payload ∙ h.1))

  before : AreSteps s.group past
  before = let now : AreSteps s.group (x ∷ past) = earlier_steps s.group newer (x ∷ past) (subst (AreSteps s.group) is (run_fits s server events run.honest).fits.steps) in now.0

-- ---- a refusal

-- a store alone awaits that a content is kept
kept_keeps : (p : Phase) (a : Awaiting) → Together p a → a ≡ awaits.Kept → (k : List ℕ) × (h : Digest32) × (len : ℕ) × (p ≡ phase.Keeping k h len)
kept_keeps phase.Closed a t e = absurd (t.1 e)
kept_keeps (phase.Keeping k h len) a t e = (k, h, len, refl)
kept_keeps phase.Calling a t e = let f = sym t.3 ∙ e in absurd cc
kept_keeps (phase.Fetching h len) a (inl f) e = let w = sym f ∙ e in absurd cc
kept_keeps (phase.Fetching h len) a (inr f) e = let w = sym f ∙ e in absurd cc

-- so it is asked for in a group with objects alone
kept_objects : (g : Group) (h : List TraceStep) → AreSteps g h → (me : ℕ) → (standing g me h).halted ≡ None → (standing g me h).awaiting ≡ awaits.Kept → g.mode ≡ mode.Objects
kept_objects g h steps me alive e =
    let k = kept_keeps (standing g me h).phase (standing g me h).awaiting (all_together g h steps me) e in
    let a : AskedToStore g h me k.0 k.1 k.2 = keeping_asked g h steps me k.0 k.1 k.2 alive k.3 in
    let then : AreSteps g (a.asked ∷ a.past) = earlier_steps g a.between (a.asked ∷ a.past) (subst (AreSteps g) a.is steps) in
    let may : MayStep g (standing g a.asked.client a.past) (input.Object (object.Store k.0 a.content)) = subst (MayStep g (standing g a.asked.client a.past)) a.stores then.1.may in
    may.1.0

-- a refusal is returned, by what was awaited
returned_by : (g : Group) (t : Standing) (x : TraceStep) (r : ℕ) (a : Awaiting) → t.awaiting ≡ a → (t.awaiting ≡ awaits.Kept → g.mode ≡ mode.Objects) → x.returned ≡ (move_on_refusal t r a).returns → x.object ≡ (move_on_refusal t r a).object → RefusalIsReturned g t x r
returned_by g t x r awaits.Kept e objects returned object = inr (record { objects = objects e; awaited = e; returned = returned; object = object })
returned_by g t x r awaits.Nothing e objects returned object = inl (record { other = λ k. let f = sym e ∙ k in absurd cc; returned = returned; object = object })
returned_by g t x r (awaits.Reply n o load) e objects returned object = inl (record { other = λ k. let f = sym e ∙ k in absurd cc; returned = returned; object = object })
returned_by g t x r awaits.Turn e objects returned object = inl (record { other = λ k. let f = sym e ∙ k in absurd cc; returned = returned; object = object })
returned_by g t x r awaits.Entries e objects returned object = inl (record { other = λ k. let f = sym e ∙ k in absurd cc; returned = returned; object = object })
returned_by g t x r (awaits.Content h len) e objects returned object = inl (record { other = λ k. let f = sym e ∙ k in absurd cc; returned = returned; object = object })

pub refusals_return : (s : Scene) (server : Server) (events : List Event) → IsSafeRun s server events → (newer : List TraceStep) (x : TraceStep) (past : List TraceStep) → s.history ≡ newer ++ x ∷ past
    → (payload : List ℕ) → x.input ≡ input.Payload payload → (r : ℕ) → read_answer payload ≡ Some (say.Refused r) → RefusalIsReturned s.group (standing s.group x.client past) x r
refusals_return s server events run newer x past is payload input_is r read =
    let step_so = step_is s server events run newer x past is payload input_is (say.Refused r) read in
    let taken_so = taken_here s server events run newer x past is payload input_is (say.Refused r) read in
    let t : Standing = standing s.group x.client past in
    returned_by s.group t x r t.awaiting refl (kept_objects s.group past (before s server events run newer x past is payload input_is (say.Refused r) read) x.client (alive_here s server events run newer x past is payload input_is (say.Refused r) read)) (step_so.returned ∙ ap (λ v. v.returns) taken_so) (step_so.object ∙ ap (λ v. v.object) taken_so)

-- ---- a Reply

-- the client decided its call
record Decides (returned : Option Outcome) : Type 0 where
  blocking : Option ℕ
  dictionary : Dictionary
  op : Op
  decided_so : returned ≡ Some (decided_outcome blocking dictionary op)

reply_decides : (me : ℕ) (t : Standing) (seal : Seal) (p : List Entry) (part : Option Part) (a : Awaiting) → (Halts (move_on_reply me t seal p part a).returns → ⊥) → Decides (move_on_reply me t seal p part a).returns
unfolding decision
reply_decides me t seal [] part a goes = absurd (goes (1, refl))
reply_decides me t seal (x ∷ below) None a goes = absurd (goes (1, refl))
reply_decides me t seal (x ∷ below) (Some part) (awaits.Reply n o load) goes = record { blocking = _; dictionary = _; op = o; decided_so = refl }
reply_decides me t seal (x ∷ below) (Some part) awaits.Nothing goes = absurd (goes (1, refl))
reply_decides me t seal (x ∷ below) (Some part) awaits.Turn goes = absurd (goes (1, refl))
reply_decides me t seal (x ∷ below) (Some part) awaits.Entries goes = absurd (goes (1, refl))
reply_decides me t seal (x ∷ below) (Some part) awaits.Kept goes = absurd (goes (1, refl))
reply_decides me t seal (x ∷ below) (Some part) (awaits.Content hash len) goes = absurd (goes (1, refl))

decided_completes : (me : ℕ) (p : List Entry) (blocking : Option ℕ) (d : Dictionary) (o : Op) → completion me p (Some (decided_outcome blocking d o)) ≡ [] → ⊥
decided_completes me p None d o e = absurd cc
decided_completes me p (Some u) d o e = absurd cc

none_decides : (returned : Option Outcome) → returned ≡ None → Decides returned → ⊥
none_decides returned e d = let f = d.decided_so in absurd cc

-- a step that decides a call took a Reply to it
decides_replied : (g : Group) (me : ℕ) (t : Standing) (i : Input) (v : Move) → Kind g me t i v → Decides v.returns → Replied g me t i v
decides_replied g me t i v (is_quiet q) d =
    absurd (decided_completes me v.next.path d.blocking d.dictionary d.op (ap (completion me v.next.path) (sym d.decided_so) ∙ q.completes_nothing me v.next.path))
decides_replied g me t i v (is_called c) d = absurd (none_decides v.returns (ap (λ w. w.returns) c.moved) d)
decides_replied g me t i v (is_replied r) d = r
decides_replied g me t i v (is_updated u) d = absurd (none_decides v.returns (ap (λ w. w.returns) u.moved) d)
decides_replied g me t i v (is_listed l) d = absurd (none_decides v.returns (ap (λ w. w.returns) l.moved) d)

-- the Reply that a step took completes its call, which has its fate
replied_fated : (s : Scene) (server : Server) (events : List Event) → IsSafeRun s server events → (newer : List TraceStep) (x : TraceStep) (past : List TraceStep) → s.history ≡ newer ++ x ∷ past
    → IsStep s.group past x → (r : RepliedAt s.group past x) → ReturnsItsFate s.group server.log past x
replied_fated s server events run newer x past is step_so r =
    let there : IsIn (completions s.group s.history) (completed_by r) =
    subst (λ h. IsIn (completions s.group h) (completed_by r)) (sym is) (completions_stay s.group newer (x ∷ past) (completed_by r) (completion_joins s.group past x step_so r)) in
    let f : StandsAsFated server.log (completed_by r) = all_fated s server events run (completed_by r) there in
    let grown_path : call_of x.client r.seq r.op ∷ (r.others ++ (standing s.group x.client past).path) ≡ f.o.entry ∷ entries f.below = f.prefix in
    let entry : call_of x.client r.seq r.op ≡ f.o.entry = cc in
    record {
      newer = f.newer;
      o = f.o;
      below = f.below;
      is = f.is;
      client = sym f.client;
      load = r.load;
      awaited = r.awaited ∙ ap (λ e. awaits.Reply e.seq e.op r.load) entry;
      path = ap (λ u. u.path) (standing_moved s.group x.client x past refl) ∙ ap (λ v. v.next.path) r.moved ∙ f.prefix;
      returned = step_so.returned ∙ ap (λ v. v.returns) r.moved ∙ ap Some f.outcome;
    }

pub replies_return : (s : Scene) (server : Server) (events : List Event) → IsSafeRun s server events → (newer : List TraceStep) (x : TraceStep) (past : List TraceStep) → s.history ≡ newer ++ x ∷ past
    → (payload : List ℕ) → x.input ≡ input.Payload payload → (seal : Seal) (told : List Tagged) (part : List ℕ) → read_answer payload ≡ Some (say.Reply seal told part)
    → ReturnsItsFate s.group server.log past x
replies_return s server events run newer x past is payload input_is seal told part read =
    let t : Standing = standing s.group x.client past in
    let m : ToClient = say.Reply seal told part in
    let step_so : IsStep s.group past x = step_is s server events run newer x past is payload input_is m read in
    let taken_so : move_of s.group past x ≡ move_on_reply x.client t seal (path_with_entries t told) (read_part part) t.awaiting = taken_here s server events run newer x past is payload input_is m read in
    let goes : Halts (move_on_reply x.client t seal (path_with_entries t told) (read_part part) t.awaiting).returns → ⊥ =
    λ h. goes_on s server events run newer x past is payload input_is m read (h.0, ap (λ v. v.returns) taken_so ∙ h.1) in
    let ends : Decides (move_of s.group past x).returns = subst (λ v. Decides v.returns) (sym taken_so) (reply_decides x.client t seal (path_with_entries t told) (read_part part) t.awaiting goes) in
    replied_fated s server events run newer x past is step_so (decides_replied s.group x.client t x.input (move_of s.group past x) (kind_of s.group past x step_so) ends)
