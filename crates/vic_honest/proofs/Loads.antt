-- A content that a load returned is that of the last done store of its name, in the order of the log.
use Rattle.std.proofs.Common.{◌≡◌, ℕ, List, [], ◌∷◌, ◌++◌, length, drop, true, Option, Some, None, inl, inr, refl, sym, ap, subst, ◌∙◌, arith}
use Rattle.std.specs.Prelude.{nat_eq}
use Rattle.std.specs.List.{AllByRecursion}
use Rattle.std.specs.Str.{bytes_eq}
use Rattle.std.specs.FinMap as map
use Rattle.std.proofs.lemmas.Bool.{and_parts}
use Rattle.vic_dict.specs.declared.op.Op.TheVariants as op
use Rattle.vic_dict.specs.declared.op.Entry.{Entry}
use Rattle.vic_dict.specs.declared.op.Answer.TheVariants as answer
use Rattle.vic_dict.specs.declared.op.Outcome.TheVariants as outcome
use Rattle.vic_dict.specs.declared.op.Mode.TheVariants as mode
use Rattle.vic_dict.specs.Lists.{IsIn}
use Rattle.vic_dict.specs.Dictionary.{Fits, AreBytesIn, reply}
use Rattle.vic_wire.specs.Texts.{entry_text, invoke_text}
use Rattle.vic_wire.specs.Hashes.{Group, IsGroup}
use Rattle.vic_wire.specs.Messages.{IsEntry}
use Rattle.vic_wire.specs.Reading.{entry_at}
use Rattle.vic_rules.specs.declared.object.ObjectCall.TheVariants as object
use Rattle.vic_rules.specs.declared.object.ObjectOutcome.TheVariants as ended
use Rattle.vic_rules.specs.declared.trace.Input.{Input}
use Rattle.vic_rules.specs.declared.trace.Input.TheVariants as input
use Rattle.vic_rules.specs.declared.trace.TraceStep.{TraceStep}
use Rattle.vic_rules.specs.declared.trace.Shown.{Shown}
use Rattle.vic_rules.specs.Objects.{content_hash, reference_of, hash_in, is_content_of}
use Rattle.vic_rules.specs.Client.{Standing, Sending, Invokes, Commits, Polls, Seals, Syncs, Keeps, Fetches, step, MayStep, commit_text_on, seal_text_on}
use Rattle.vic_rules.specs.History.{standing, move_of, IsStep, AreSteps, IsLawful, completions}
use Rattle.vic_rules.specs.Views.{NoStepOf, AsksFor, Explains, left_by}
use Rattle.vic_rules.specs.Trust.{texts_made, text_sent, content_sent, answer_unless_halted}
use Rattle.vic_spellings.proofs.Steps.{ok_is}
use Rattle.vic_spellings.proofs.Entries.{entry_again}
use Rattle.vic_laws.specs.ContentClaims.{IsStore}
use Rattle.vic_laws.proofs.Words.{all_at, in_either, in_left, in_right, bytes_same}
use Rattle.vic_laws.proofs.Standings.{earlier_steps}
use Rattle.vic_laws.proofs.Calls.{kind_of, phases_fit, called_if, completion_stays}
use Rattle.vic_laws.proofs.Complete.{completions_stay}
use Rattle.vic_laws.proofs.Steps.{call_of}
use Rattle.vic_laws.proofs.Phases.{Fetches as Fetched}
use Rattle.vic_laws.proofs.LastPut.{LastPut, last_put_is}
use Rattle.vic_laws.proofs.Contents.{FoundBy, fetching_found, phased_at, same_put, hash_of_reference}
use Rattle.vic_laws.proofs.Asked.{calls_are_asked}
use Rattle.vic_order.specs.Order.{Ordered, Server}
use Rattle.vic_order.specs.Fates.{entries, fate}
use Rattle.vic_order.specs.Scenes.{Scene, Event}
use Rattle.vic_honest.specs.SafeRuns.{contents_sent, IsSafeRun}
use Rattle.vic_honest.specs.Claims.{shown_log, StandsAsFated, LoadIsFated}
use Rattle.vic_honest.proofs.Words.{all-second}
use Rattle.vic_honest.proofs.Standing.{EntryFits}
use Rattle.vic_honest.proofs.Found.{found_value}
use Rattle.vic_honest.proofs.Sent.{sent_once}
use Rattle.vic_honest.proofs.Runs.{run_fits, run_sent, all_lawful, all_fated, all_ends, logs_are_legal}

-- ---- each entry of the log was called

-- its client called it at a step
record CalledAt (g : Group) (h : List TraceStep) (e : Entry) : Type 0 where
  later : List TraceStep
  call : TraceStep
  past : List TraceStep
  is : h ≡ later ++ call ∷ past
  caller : call.client ≡ e.client
  sends : (move_of g past call).sends ≡ Some (Invokes e.seq e.op)

-- the text of an entry tells it
text_tells : (a b : Entry) → IsEntry a → IsEntry b → invoke_text a ≡ invoke_text b → a ≡ b
text_tells a b fa fb e =
    let texts : entry_text a ≡ entry_text b = ap (drop 1) e in
    ap (λ (p : Entry × List ℕ). p.0) (ok_is (a, []) (b, []) (sym (entry_again a [] fa) ∙ ap (λ t. entry_at (t ++ [])) texts ∙ entry_again b [] fb))

abbrev first : List ℕ → ℕ
first [] = 0
first (x ∷ xs) = x

-- a step that made the text of an entry called it
called_now : (g : Group) (past : List TraceStep) (x : TraceStep) → IsGroup g → AreSteps g past → IsStep g past x → (e : Entry) → IsEntry e
    → IsIn (text_sent g x.client (move_of g past x).next (move_of g past x).sends) (invoke_text e) → (x.client ≡ e.client) × ((move_of g past x).sends ≡ Some (Invokes e.seq e.op))
unfolding commit_text_on seal_text_on
called_now g past x group steps is e fits i = now (move_of g past x).sends refl i
  where
    v : Standing
    v = (move_of g past x).next

    now : (o : Option Sending) → (move_of g past x).sends ≡ o → IsIn (text_sent g x.client v o) (invoke_text e) → (x.client ≡ e.client) × ((move_of g past x).sends ≡ Some (Invokes e.seq e.op))
    now None at j = absurd j
    now (Some (Invokes n o)) at (inl same) =
        let a = called_if g x.client (standing g x.client past) x.input (move_of g past x) (kind_of g past x is) n o at in
        let opens = phases_fit g past steps x.client in
        let mine : Entry = call_of x.client n o in
        let few = a.0.few opens in
        let number = a.1.0 in
        let member = is.member in
        let count = group.count in
        let spelled : IsEntry mine = record {
          client = (member.0, omega (arith, member.1, count.1));
          seq = (omega (arith, number), omega (arith, number, few));
          op = subst (λ q. Fits q × AreBytesIn q) a.1.1 (a.0.fits opens);
        } in
        let whole : mine ≡ e = text_tells mine e spelled fits same in
        (ap (λ y. y.client) whole, at ∙ ap (λ y. Some (Invokes y.seq y.op)) whole)
    now (Some (Invokes n o)) at (inr none) = absurd none
    now (Some (Commits done)) at (inl same) = let h = ap first same in absurd (omega (arith, h))
    now (Some (Commits done)) at (inr none) = absurd none
    now (Some Polls) at j = absurd j
    now (Some Seals) at (inl same) = let h = ap first same in absurd (omega (arith, h))
    now (Some Seals) at (inr none) = absurd none
    now (Some Syncs) at j = absurd j
    now (Some (Keeps content)) at j = absurd j
    now (Some (Fetches k)) at j = absurd j

-- an entry whose text was made was called
called_in : (g : Group) (h : List TraceStep) → IsGroup g → AreSteps g h → (e : Entry) → IsEntry e → IsIn (texts_made g h) (invoke_text e) → CalledAt g h e
unfolding texts_made
called_in g [] group steps e fits i = absurd i
called_in g (x ∷ past) group steps e fits i = elim (in_either (text_sent g x.client (move_of g past x).next (move_of g past x).sends) (texts_made g past) (invoke_text e) i) [
  | inl a ↦ (let c = called_now g past x group steps.0 steps.1 e fits a in record { later = []; call = x; past = past; is = refl; caller = c.0; sends = c.1 })
  | inr b ↦ (let c = called_in g past group steps.0 e fits b in record { later = x ∷ c.later; call = c.call; past = c.past; is = ap (λ l. x ∷ l) c.is; caller = c.caller; sends = c.sends })
]

-- ---- a put is that of a store

-- what was sent in an earlier history was sent in the whole
sent_since : (g : Group) (later past : List TraceStep) (c : List ℕ) → IsIn (contents_sent g past) c → IsIn (contents_sent g (later ++ past)) c
unfolding contents_sent
sent_since g [] past c i = i
sent_since g (x ∷ later) past c i = in_right (content_sent (move_of g (later ++ past) x).sends) (contents_sent g (later ++ past)) c (sent_since g later past c i)

-- a client that was asked to store a content sent it
store_sends : (g : Group) (past : List TraceStep) (x : TraceStep) (k c : List ℕ) → x.input ≡ input.Object (object.Store k c) → IsIn (contents_sent g (x ∷ past)) c
unfolding contents_sent step
store_sends g past x k c e =
    in_left (content_sent (move_of g past x).sends) (contents_sent g past) c
    (subst (λ i. IsIn (content_sent (step g x.client (standing g x.client past) i).sends) c) (sym e) (inl refl))

-- nobody in a group with objects calls a put at the step at which it was asked for it
not_asked : (g : Group) (me : ℕ) (t : Standing) (i : Input) → g.mode ≡ mode.Objects → MayStep g t i → (n : ℕ) (k v : List ℕ) → (step g me t i).sends ≡ Some (Invokes n (op.Put k v)) → AsksFor i (op.Put k v) → ⊥
unfolding step
not_asked g me t (input.Call o) objects may n k v sends asks = let e : mode.Objects ≡ mode.Plain = sym objects ∙ may.1.0 in absurd cc
not_asked g me t (input.Object (object.Store q c)) objects may n k v sends asks = absurd cc
not_asked g me t (input.Object (object.Load q)) objects may n k v sends asks = absurd cc
not_asked g me t (input.Object (object.Erase q)) objects may n k v sends asks = absurd cc
not_asked g me t (input.Object (object.Names q)) objects may n k v sends asks = absurd cc
not_asked g me t input.Poll objects may n k v sends asks = absurd asks
not_asked g me t input.Sync objects may n k v sends asks = absurd asks
not_asked g me t (input.Payload payload) objects may n k v sends asks = absurd asks

-- the store that a put belongs to
record StoredAt (g : Group) (h : List TraceStep) (e : Entry) (k v : List ℕ) : Type 0 where
  content : List ℕ
  value_is : v ≡ reference_of content
  sent : IsIn (contents_sent g h) content
  store : IsStore g h e k content

stored_at : (g : Group) (h : List TraceStep) → IsLawful g h → g.mode ≡ mode.Objects → (e : Entry) (k v : List ℕ) → e.op ≡ op.Put k v → CalledAt g h e → StoredAt g h e k v
stored_at g h lawful objects e k v is c =
    let sends : (move_of g c.past c.call).sends ≡ Some (Invokes e.seq (op.Put k v)) = c.sends ∙ ap (λ q. Some (Invokes e.seq q)) is in
    let now : AreSteps g (c.call ∷ c.past) = earlier_steps g c.later (c.call ∷ c.past) (subst (AreSteps g) c.is lawful.steps) in
    elim ((calls_are_asked g h lawful c.later c.call c.past c.is e.seq (op.Put k v) sends).asked) [
      | inl a ↦ absurd (not_asked g c.call.client (standing g c.call.client c.past) c.call.input objects now.1.may e.seq k v sends a)
      | inr b ↦
          let same : (k ≡ b.name) × (v ≡ reference_of b.content) = same_put k b.name v (reference_of b.content) b.is in
          let shape : h ≡ c.later ++ c.call ∷ (b.between ++ b.asked ∷ b.before) = c.is ∙ ap (λ l. c.later ++ c.call ∷ l) b.since in
          let sent_then : IsIn (contents_sent g c.past) b.content =
          subst (λ l. IsIn (contents_sent g l) b.content) (sym b.since) (sent_since g b.between (b.asked ∷ b.before) b.content (store_sends g b.before b.asked b.name b.content b.stores)) in
          record {
            content = b.content;
            value_is = same.1;
            sent = subst (λ l. IsIn (contents_sent g l) b.content) (sym c.is) (sent_since g c.later (c.call ∷ c.past) b.content (sent_since g (c.call ∷ []) c.past b.content sent_then));
            store = record {
              later = c.later;
              call = c.call;
              between = b.between;
              asked = b.asked;
              past = b.before;
              is = shape;
              owner = b.owner ∙ c.caller;
              caller = c.caller;
              stores = b.stores ∙ ap (λ q. input.Object (object.Store q b.content)) (sym same.0);
              quiet = subst (λ m. NoStepOf m b.between) c.caller b.quiet;
              sends = subst (λ l. (move_of g l c.call).sends ≡ Some (Invokes e.seq e.op)) b.since c.sends;
              puts_it = is ∙ ap (op.Put k) same.1;
            };
          }
    ]

-- ---- a load

-- what a list shows comes from an entry of the log
shown_of : (log : List Ordered) (y : Shown) → IsIn (shown_log log) y → (o : Ordered) × (IsIn log o × (y.entry ≡ o.entry))
shown_of [] y i = absurd i
shown_of (o ∷ below) y (inl e) = (o, (inl refl, ap (λ z. z.entry) (sym e)))
shown_of (o ∷ below) y (inr i) = let r = shown_of below y i in (r.0, (inr r.1.0, r.1.1))

hash_of_content : (digest : List ℕ) (len : ℕ) (c : List ℕ) → is_content_of digest len c ≡ true → content_hash c ≡ digest
hash_of_content digest len c e = bytes_same (content_hash c) digest (and_parts (nat_eq (length c) len) (bytes_eq (content_hash c) digest) e).1

-- the get that found a value: what was put under its name last below it
record Gotten (g : Group) (h : List TraceStep) (below : List Ordered) (name value : List ℕ) : Type 0 where
  last : LastPut name value (shown_log below)
  stored : StoredAt g h last.shown.entry name value

gotten : (s : Scene) (server : Server) (events : List Event) → IsSafeRun s server events → s.group.mode ≡ mode.Objects → (newer : List Ordered) (o : Ordered) (below : List Ordered) → server.log ≡ newer ++ o ∷ below
    → (name value : List ℕ) → o.entry.op ≡ op.Get name → fate o below ≡ outcome.Done (answer.Found value) → Gotten s.group s.history below name value
gotten s server events run objects newer o below is name value gets found =
    let g : Group = s.group in
    let y : Shown = record { entry = o.entry; outcome = fate o below } in
    let explained : answer.Found value ≡ reply (left_by (shown_log below)) o.entry.op = subst (Explains (left_by (shown_log below)) y) found (logs_are_legal (o ∷ below)).0.1 in
    let there : map.get (left_by (shown_log below)) name ≡ Some value = found_value (map.get (left_by (shown_log below)) name) value (ap (reply (left_by (shown_log below))) (sym gets) ∙ sym explained) in
    let last : LastPut name value (shown_log below) = last_put_is name value (shown_log below) there in
    let put = shown_of below last.shown last.there in
    let all : AllByRecursion (EntryFits (texts_made g s.history)) (o ∷ below) =
    all-second (EntryFits (texts_made g s.history)) newer (o ∷ below) (subst (AllByRecursion (EntryFits (texts_made g s.history))) is (run_fits s server events run.honest).fits.server.log) in
    let fits : EntryFits (texts_made g s.history) put.0 = all_at (EntryFits (texts_made g s.history)) below put.0 all.1 put.1.0 in
    let lawful : IsLawful g s.history = all_lawful s server events run.honest in
    let called : CalledAt g s.history last.shown.entry = subst (CalledAt g s.history) (sym put.1.1) (called_in g s.history lawful.group lawful.steps put.0.entry fits.spelled fits.text) in
    record { last = last; stored = stored_at g s.history lawful objects last.shown.entry name value last.puts_it called }

-- each content that a load returned is that of the last done store of its name below it
pub loads_are_fated : (s : Scene) (server : Server) (events : List Event) → IsSafeRun s server events → (newer : List TraceStep) (x : TraceStep) (past : List TraceStep) → s.history ≡ newer ++ x ∷ past
    → (content : List ℕ) → x.object ≡ Some (ended.Content content) → LoadIsFated s.group s.history past server.log x.client content
loads_are_fated s server events run newer x past is content given =
    let g : Group = s.group in
    let now : AreSteps g (x ∷ past) = earlier_steps g newer (x ∷ past) (subst (AreSteps g) is (all_lawful s server events run.honest).steps) in
    let there : IsIn s.history x = subst (λ l. IsIn l x) (sym is) (in_right newer (x ∷ past) x (inl refl)) in
    let kept : (g.mode ≡ mode.Objects) × IsIn server.contents content = all_ends s server events run x there (ended.Content content) given in
    let sent : IsIn (contents_sent g s.history) content = (run_sent s server events run.honest).kept content kept.1 in
    let f : Fetched (standing g x.client past) (answer_unless_halted (move_of g past x).next x.input) content = (phased_at g x past now).content content (sym now.1.object ∙ given) in
    let b : FoundBy g past x.client f.h f.len = fetching_found g past kept.0 now.0 x.client f.h f.len f.fetching in
    let joined : IsIn (completions g s.history) b.by = subst (λ l. IsIn (completions g l) b.by) (sym is) (completions_stay g newer (x ∷ past) b.by (completion_stays g past x b.by b.there)) in
    let d : StandsAsFated server.log b.by = all_fated s server events run b.by joined in
    let heads : call_of x.client b.seq (op.Get b.name) ∷ b.below ≡ d.o.entry ∷ entries d.below = sym b.is ∙ d.prefix in
    let entry : call_of x.client b.seq (op.Get b.name) ≡ d.o.entry = cc in
    let gets : d.o.entry.op ≡ op.Get b.name = ap (λ e. e.op) (sym entry) in
    let found : fate d.o d.below ≡ outcome.Done (answer.Found b.value) = sym d.outcome ∙ b.ends in
    let t : Gotten g s.history d.below b.name b.value = gotten s server events run kept.0 d.newer d.o d.below d.is b.name b.value gets found in
    let same : content_hash t.stored.content ≡ content_hash content =
    sym (hash_of_reference t.stored.content) ∙ ap hash_in (sym t.stored.value_is) ∙ sym b.hash_is ∙ sym (hash_of_content f.h.bytes f.len content f.is) in
    let one : t.stored.content ≡ content = sent_once s run.apart kept.0 t.stored.content content t.stored.sent sent same in
    record {
      between = b.between;
      asked = b.asked;
      before = b.before;
      since = b.since;
      loader = b.loader;
      alone = b.alone;
      newer = d.newer;
      o = d.o;
      below = d.below;
      is = d.is;
      own = ap (λ e. e.client) (sym entry);
      name = b.name;
      loads = b.loads;
      called = b.called ∙ ap (λ (e : Entry). Some (Invokes e.seq (op.Get b.name))) entry;
      gets = gets;
      found = found ∙ ap (λ w. outcome.Done (answer.Found w)) (t.stored.value_is ∙ ap reference_of one);
      stored = t.last.shown;
      last = t.last.last;
      by_store = subst (IsStore g s.history t.last.shown.entry b.name) one t.stored.store;
    }
