-- What a load returns is what the last done store of its name stored.
use Rattle.std.specs.Prelude.{◌≡◌, ℕ, Bool, true, false, List, [], ◌∷◌, ◌++◌, length, take, Option, Some, None, nat_eq}
use Rattle.std.specs.Int.{w32, to_be_bytes}
use Rattle.std.specs.Str.{bytes_eq}
use Rattle.std.specs.FinMap as map
use Rattle.std.proofs.Common.{refl, ap, subst, sym, ◌∙◌, inl, inr, append_assoc, true≢false}
use Rattle.std.proofs.lemmas.Bool.{cases_eq, and_parts, eqb-true}
use Rattle.std.proofs.lemmas.Slice.Eq.{bytes_eq-Decides}
use Rattle.sha2.proofs.Facts256.{length-sha256}
use Rattle.vic_dict.specs.declared.op.Op.{Op}
use Rattle.vic_dict.specs.declared.op.Op.TheVariants as op
use Rattle.vic_dict.specs.declared.op.Entry.{Entry}
use Rattle.vic_dict.specs.declared.op.Answer.TheVariants as answer
use Rattle.vic_dict.specs.declared.op.Outcome.{Outcome}
use Rattle.vic_dict.specs.declared.op.Outcome.TheVariants as outcome
use Rattle.vic_dict.specs.declared.op.Mode.{Mode}
use Rattle.vic_dict.specs.declared.op.Mode.TheVariants as mode
use Rattle.vic_dict.specs.Lists.{IsIn}
use Rattle.vic_dict.specs.Dictionary.{Dictionary, reply, answer_of_get, answer_of_del}
use Rattle.vic_wire.specs.declared.message.Digest32.{Digest32}
use Rattle.vic_wire.specs.declared.message.ToClient.TheVariants as say
use Rattle.vic_wire.specs.Texts.{content_text}
use Rattle.vic_wire.specs.Hashes.{Group}
use Rattle.vic_rules.specs.declared.object.ObjectCall.TheVariants as object
use Rattle.vic_rules.specs.declared.object.Phase.TheVariants as phase
use Rattle.vic_rules.specs.declared.trace.Input.{Input}
use Rattle.vic_rules.specs.declared.trace.Input.TheVariants as input
use Rattle.vic_rules.specs.declared.trace.TraceStep.{TraceStep}
use Rattle.vic_rules.specs.declared.trace.Shown.{Shown}
use Rattle.vic_rules.specs.Objects.{content_hash, reference_text, reference_of, is_reference, hash_in, length_in, is_content_of}
use Rattle.vic_rules.specs.Client.{Standing, Move, Invokes, Keeps, MayStep, IsIdle, decided_outcome, decision}
use Rattle.vic_wire.specs.Parts.{Part}
use Rattle.vic_rules.specs.History.{standing, move_of, AreSteps, IsLawful, Completion, completions}
use Rattle.vic_rules.specs.Views.{NoStepOf, IsAnswered, IsLegal, Explains, left_by, view_of}
use Rattle.vic_rules.specs.Trust.{IsForged, Collides, of_content, contents_known, content_sent, content_in, answer_taken, answer_unless_halted}
use Rattle.vic_laws.specs.ContentClaims.{IsTaken, NoAskOf, IsStore, LoadsLast, LoadsGetTheLast}
use Rattle.vic_laws.proofs.Words.{in_left, in_right, bytes_same}
use Rattle.vic_laws.proofs.Standings.{standing_moved, standing_kept, earlier_steps}
use Rattle.vic_laws.proofs.Calls.{kind_of, RepliedAt, completed_by, completion_joins, asked_since, completion_stays, completion_answers}
use Rattle.vic_laws.proofs.Steps.{call_of}
use Rattle.vic_laws.proofs.Complete.{replied_if, completions_stay, views_complete}
use Rattle.vic_laws.proofs.Agreement.{splits_at, views_show_only_calls}
use Rattle.vic_laws.proofs.Legality.{views_legal}
use Rattle.vic_laws.proofs.LastPut.{LastPut, last_put_is}
use Rattle.vic_laws.proofs.Phases.{at_rest, idle_nothing, same_key, Together, Finds, Stores, Fetches, Puts, Phased, phased, nothing_closed}

-- ---- along a history

-- what each client awaits goes with how far its call on objects has come
pub all_together : (g : Group) (h : List TraceStep) → AreSteps g h → (me : ℕ) → Together (standing g me h).phase (standing g me h).awaiting
unfolding standing
all_together g [] steps me = nothing_closed
all_together g (x ∷ past) steps me = elim (cases_eq x.client me) [
  | inl same ↦ subst (λ (m : ℕ). Together (standing g m (x ∷ past)).phase (standing g m (x ∷ past)).awaiting) same
      (subst (λ (s : Standing). Together s.phase s.awaiting) (sym (standing_moved g x.client x past refl))
      (phased g x.client (standing g x.client past) x.input steps.1.may (all_together g past steps.0 x.client)).together)
  | inr differ ↦ subst (λ (s : Standing). Together s.phase s.awaiting) (sym (standing_kept g me x past differ)) (all_together g past steps.0 me)
]

pub phased_at : (g : Group) (x : TraceStep) (past : List TraceStep) → AreSteps g (x ∷ past) → Phased (standing g x.client past) x.input (move_of g past x)
phased_at g x past steps = phased g x.client (standing g x.client past) x.input steps.1.may (all_together g past steps.0 x.client)

-- a dictionary that explains a found value has it under the key of a get
found_is : (d : Dictionary) (o : Op) (v : List ℕ) → answer.Found v ≡ reply d o → (k : List ℕ) × (o ≡ op.Get k) × (map.get d k ≡ Some v)
found_is d (op.Put k w) v e = absurd cc
found_is d (op.Get k) v e = (k, refl, had (map.get d k) e)
  where
    had : (x : Option (List ℕ)) → answer.Found v ≡ answer_of_get x → x ≡ Some v
    had None e = absurd cc
    had (Some w) e = (let f : v ≡ w = cc in ap Some (sym f))
found_is d (op.Del k) v e = absurd (gone_apart (map.get d k) e)
  where
    gone_apart : (x : Option (List ℕ)) → answer.Found v ≡ answer_of_del x → ⊥
    gone_apart None e = cc
    gone_apart (Some w) e = cc
found_is d (op.List p) v e = absurd cc

pub mode_apart : {m : Mode} → m ≡ mode.Objects → m ≡ mode.Plain → ⊥
mode_apart a b = let e : mode.Objects ≡ mode.Plain = sym a ∙ b in cc

plain_call : (g : Group) (s : Standing) (o : Op) (i : Input) → i ≡ input.Call o → MayStep g s i → g.mode ≡ mode.Plain
plain_call g s o i e may = (subst (MayStep g s) e may).1.0

never : (s : Standing) (d : Digest32) (len : ℕ) → IsIdle s → Together s.phase s.awaiting → s.phase ≡ phase.Fetching d len → ⊥
never s d len idle t e =
    let rests : s.phase ≡ phase.Closed = at_rest s.phase (subst (Together s.phase) (idle_nothing s.awaiting _ idle) t) in
    let w : phase.Closed ≡ phase.Fetching d len = sym rests ∙ e in
    cc

-- the last thing that a client was asked for is a load, whose get found a reference with this hash and length
pub record FoundBy (g : Group) (h : List TraceStep) (me : ℕ) (digest : Digest32) (len : ℕ) : Type 0 where
  pub value : List ℕ
  pub name : List ℕ
  pub seq : ℕ
  pub by : Completion
  pub below : List Entry
  pub there : IsIn (completions g h) by
  pub is : by.prefix ≡ call_of me seq (op.Get name) ∷ below
  pub ends : by.outcome ≡ outcome.Done (answer.Found value)
  pub size : is_reference value ≡ true
  pub hash_is : digest.bytes ≡ hash_in value
  pub length_is : len ≡ length_in value
  pub between : List TraceStep
  pub asked : TraceStep
  pub before : List TraceStep
  pub since : h ≡ between ++ asked ∷ before
  pub loader : asked.client ≡ me
  pub loads : asked.input ≡ input.Object (object.Load name)
  pub called : (move_of g before asked).sends ≡ Some (Invokes seq (op.Get name))
  pub alone : NoAskOf me between

found_later : (g : Group) (x : TraceStep) (past : List TraceStep) (me : ℕ) (d : Digest32) (len : ℕ) → (x.client ≡ me → IsTaken x.input) → FoundBy g past me d len → FoundBy g (x ∷ past) me d len
found_later g x past me d len takes f = record {
  value = f.value;
  name = f.name;
  seq = f.seq;
  by = f.by;
  below = f.below;
  there = completion_stays g past x f.by f.there;
  is = f.is;
  ends = f.ends;
  size = f.size;
  hash_is = f.hash_is;
  length_is = f.length_is;
  between = x ∷ f.between;
  asked = f.asked;
  before = f.before;
  since = ap (λ (h : List TraceStep). x ∷ h) f.since;
  loader = f.loader;
  loads = f.loads;
  called = f.called;
  alone = (takes, f.alone);
}

quiet_alone : (me : ℕ) (h : List TraceStep) → NoStepOf me h → NoAskOf me h
quiet_alone me [] q = tt
quiet_alone me (x ∷ h) q = ((λ e. absurd (q.0 e)), quiet_alone me h q.1)

-- only a get is decided so that it finds a value
decided_found : (u : Option ℕ) (d : Dictionary) (o : Op) (v : List ℕ) → decided_outcome u d o ≡ outcome.Done (answer.Found v) → (k : List ℕ) × (o ≡ op.Get k)
decided_found (Some u) d o v e = absurd cc
decided_found None d o v e = let f : reply d o ≡ answer.Found v = cc in let w = found_is d o v (sym f) in (w.0, w.1)

pub decision_found : (me : ℕ) (s : Standing) (below : List Entry) (base : ℕ) (part : Part) (o : Op) (v : List ℕ) → decision me s below base part o ≡ outcome.Done (answer.Found v) → (k : List ℕ) × (o ≡ op.Get k)
unfolding decision
decision_found me s below base part o v e = decided_found _ _ o v e

same_outcome : (o p : Outcome) → Some o ≡ Some p → o ≡ p
same_outcome o p e = cc

found_now : (g : Group) (x : TraceStep) (past : List TraceStep) → g.mode ≡ mode.Objects → AreSteps g (x ∷ past) → (d : Digest32) (len : ℕ) → Finds (move_of g past x).returns d len → FoundBy g (x ∷ past) x.client d len
found_now g x past objects steps d len f =
    let s : Standing = standing g x.client past in
    let r : RepliedAt g past x = replied_if g x.client s x.input (move_of g past x) (kind_of g past x steps.1) (outcome.Done (answer.Found f.value)) tt f.is in
    let ends : (completed_by r).outcome ≡ outcome.Done (answer.Found f.value) = same_outcome _ _ (sym (ap (λ (m : Move). m.returns) r.moved) ∙ f.is) in
    let k = decision_found x.client s (r.others ++ s.path) r.seal.position r.part r.op f.value ends in
    let a = asked_since g past steps.0 x.client r.seq r.op r.load r.alive r.awaited in
    let made : AreSteps g (a.call ∷ a.past) = earlier_steps g a.between (a.call ∷ a.past) (subst (AreSteps g) a.is steps.0) in
    let sends : (move_of g a.past a.call).sends ≡ Some (Invokes r.seq (op.Get k.0)) = a.asked ∙ ap (λ (q : Op). Some (Invokes r.seq q)) k.1 in
    let loads : a.call.input ≡ input.Object (object.Load k.0) = elim ((phased_at g a.call a.past made).gets r.seq k.0 sends) [
      | inl plain ↦ absurd (mode_apart objects (plain_call g (standing g a.call.client a.past) (op.Get k.0) a.call.input plain made.1.may))
      | inr l ↦ l
    ] in
    record {
      value = f.value;
      name = k.0;
      seq = r.seq;
      by = completed_by r;
      below = r.others ++ s.path;
      there = completion_joins g past x steps.1 r;
      is = ap (λ (q : Op). call_of x.client r.seq q ∷ (r.others ++ s.path)) k.1;
      ends = ends;
      size = f.size;
      hash_is = f.hash_is;
      length_is = f.length_is;
      between = x ∷ a.between;
      asked = a.call;
      before = a.past;
      since = ap (λ (h : List TraceStep). x ∷ h) a.is;
      loader = a.makes.client;
      loads = loads;
      called = sends;
      alone = ((λ e. subst IsTaken (sym r.asked) tt), quiet_alone x.client a.between a.quiet);
    }

-- a client that is fetching a content is asked for nothing
pub fetching_takes : (g : Group) (s : Standing) (i : Input) (d : Digest32) (len : ℕ) → MayStep g s i → Together s.phase s.awaiting → s.phase ≡ phase.Fetching d len → IsTaken i
fetching_takes g s (input.Payload b) d len may t e = tt
fetching_takes g s (input.Call o) d len may t e = absurd (never s d len may.0 t e)
fetching_takes g s (input.Object c) d len may t e = absurd (never s d len may.0 t e)
fetching_takes g s input.Poll d len may t e = absurd (never s d len may t e)
fetching_takes g s input.Sync d len may t e = absurd (never s d len may t e)

-- a client that is fetching a content found its reference, for the load that it was asked for last
pub fetching_found : (g : Group) (h : List TraceStep) → g.mode ≡ mode.Objects → AreSteps g h → (me : ℕ) (d : Digest32) (len : ℕ) → (standing g me h).phase ≡ phase.Fetching d len → FoundBy g h me d len
unfolding standing
fetching_found g [] objects steps me d len e = absurd (let f : phase.Closed ≡ phase.Fetching d len = e in cc)
fetching_found g (x ∷ past) objects steps me d len e = elim (cases_eq x.client me) [
  | inl same ↦ subst (λ (m : ℕ). FoundBy g (x ∷ past) m d len) same
      (let moved : (move_of g past x).next.phase ≡ phase.Fetching d len =
      sym (ap (λ (s : Standing). s.phase) (standing_moved g x.client x past refl)) ∙ subst (λ (m : ℕ). (standing g m (x ∷ past)).phase ≡ phase.Fetching d len) (sym same) e in
      elim ((phased_at g x past steps).fetching d len moved) [
        | inl before ↦ found_later g x past x.client d len
            (λ w. fetching_takes g (standing g x.client past) x.input d len steps.1.may (all_together g past steps.0 x.client) before)
            (fetching_found g past objects steps.0 x.client d len before)
        | inr now ↦ found_now g x past objects steps d len now
      ])
  | inr differ ↦ found_later g x past me d len (λ w. absurd (differ w)) (fetching_found g past objects steps.0 me d len (sym (ap (λ (s : Standing). s.phase) (standing_kept g me x past differ)) ∙ e))
]

-- a client was asked to store a content, and made no step since
pub record AskedToStore (g : Group) (h : List TraceStep) (me : ℕ) (k : List ℕ) (digest : Digest32) (len : ℕ) : Type 0 where
  pub content : List ℕ
  pub between : List TraceStep
  pub asked : TraceStep
  pub past : List TraceStep
  pub is : h ≡ between ++ asked ∷ past
  pub owner : asked.client ≡ me
  pub stores : asked.input ≡ input.Object (object.Store k content)
  pub quiet : NoStepOf me between
  pub known : IsIn (contents_known g h) content
  pub hash_is : digest.bytes ≡ content_hash content
  pub length_is : len ≡ length content

known_later : (g : Group) (x : TraceStep) (past : List TraceStep) (c : List ℕ) → IsIn (contents_known g past) c → IsIn (contents_known g (x ∷ past)) c
unfolding contents_known
known_later g x past c i = in_right (content_sent (move_of g past x).sends) _ c (in_right (content_in (answer_taken g past x)) (contents_known g past) c i)

pub known_since : (g : Group) (later past : List TraceStep) (c : List ℕ) → IsIn (contents_known g past) c → IsIn (contents_known g (later ++ past)) c
known_since g [] past c i = i
known_since g (x ∷ later) past c i = known_later g x (later ++ past) c (known_since g later past c i)

pub known_sent : (g : Group) (x : TraceStep) (past : List TraceStep) (c : List ℕ) → (move_of g past x).sends ≡ Some (Keeps c) → IsIn (contents_known g (x ∷ past)) c
unfolding contents_known
known_sent g x past c e = in_left (content_sent (move_of g past x).sends) _ c (subst (λ o. IsIn (content_sent o) c) (sym e) (inl refl))

pub known_taken : (g : Group) (x : TraceStep) (past : List TraceStep) (c : List ℕ) → answer_taken g past x ≡ Some (say.Content c) → IsIn (contents_known g (x ∷ past)) c
unfolding contents_known
known_taken g x past c e = in_right (content_sent (move_of g past x).sends) _ c (in_left (content_in (answer_taken g past x)) (contents_known g past) c (subst (λ o. IsIn (content_in o) c) (sym e) (inl refl)))

-- a client whose store awaits that its content is kept was asked for that store
pub keeping_asked : (g : Group) (h : List TraceStep) → AreSteps g h → (me : ℕ) (k : List ℕ) (d : Digest32) (len : ℕ) → (standing g me h).halted ≡ None → (standing g me h).phase ≡ phase.Keeping k d len
    → AskedToStore g h me k d len
unfolding standing
keeping_asked g [] steps me k d len alive e = absurd (let f : phase.Closed ≡ phase.Keeping k d len = e in cc)
keeping_asked g (x ∷ past) steps me k d len alive e = elim (cases_eq x.client me) [
  | inl same ↦ subst (λ (m : ℕ). AskedToStore g (x ∷ past) m k d len) same
      (let leads = standing_moved g x.client x past refl in
      let moved : (move_of g past x).next.phase ≡ phase.Keeping k d len =
      sym (ap (λ (s : Standing). s.phase) leads) ∙ subst (λ (m : ℕ). (standing g m (x ∷ past)).phase ≡ phase.Keeping k d len) (sym same) e in
      let going : (move_of g past x).next.halted ≡ None =
      sym (ap (λ (s : Standing). s.halted) leads) ∙ subst (λ (m : ℕ). (standing g m (x ∷ past)).halted ≡ None) (sym same) alive in
      let w : Stores x.input (move_of g past x).sends k d len = (phased_at g x past steps).keeping k d len going moved in
      record {
        content = w.content;
        between = [];
        asked = x;
        past = past;
        is = refl;
        owner = refl;
        stores = w.asked;
        quiet = tt;
        known = known_sent g x past w.content w.sent;
        hash_is = w.hash_is;
        length_is = w.length_is;
      })
  | inr differ ↦
      (let keeps = standing_kept g me x past differ in
      let w : AskedToStore g past me k d len = keeping_asked g past steps.0 me k d len (sym (ap (λ (s : Standing). s.halted) keeps) ∙ alive) (sym (ap (λ (s : Standing). s.phase) keeps) ∙ e) in
      record {
        content = w.content;
        between = x ∷ w.between;
        asked = w.asked;
        past = w.past;
        is = ap (λ (h : List TraceStep). x ∷ h) w.is;
        owner = w.owner;
        stores = w.stores;
        quiet = (differ, w.quiet);
        known = known_later g x past w.content w.known;
        hash_is = w.hash_is;
        length_is = w.length_is;
      })
]

-- ---- one load

explained_at : (newer : List Shown) (y : Shown) (older : List Shown) → IsLegal (newer ++ y ∷ older) → Explains (left_by older) y y.outcome
explained_at [] y older l = l.1
explained_at (x ∷ newer) y older l = explained_at newer y older l.0

explains_found : (d : Dictionary) (y : Shown) (x : Outcome) (v : List ℕ) → x ≡ outcome.Done (answer.Found v) → Explains d y x → answer.Found v ≡ reply d y.entry.op
explains_found d y (outcome.Done a) v e w = (let f : a ≡ answer.Found v = cc in sym f ∙ w)
explains_found d y (outcome.Aborted u) v e w = absurd cc
explains_found d y (outcome.Refused r) v e w = absurd w
explains_found d y (outcome.Halted k) v e w = absurd w

-- the hash in a reference
pub first_part : (h rest : List ℕ) (n : ℕ) → length h ≡ n → take n (h ++ rest) ≡ h
first_part [] rest n e = ap (λ m. take m rest) (sym e)
first_part (x ∷ h) rest n e = ap (λ m. take m (x ∷ (h ++ rest))) (sym e) ∙ ap (λ t. x ∷ t) (first_part h rest (length h) refl)

pub hash_of_reference : (c : List ℕ) → hash_in (reference_of c) ≡ content_hash c
hash_of_reference c = first_part (content_hash c) (to_be_bytes w32 (length c)) 32 (length-sha256 (content_text c))

content_parts : (digest : List ℕ) (len : ℕ) (c : List ℕ) → is_content_of digest len c ≡ true → (length c ≡ len) × (content_hash c ≡ digest)
content_parts digest len c e = let p = and_parts (nat_eq (length c) len) (bytes_eq (content_hash c) digest) e in (eqb-true (length c) len p.0, bytes_same (content_hash c) digest p.1)

-- two contents that are known and have one hash are equal, unless two texts collide
one_content : (g : Group) (h : List TraceStep) → (Collides g h → ⊥) → (c d : List ℕ) → IsIn (contents_known g h) c → IsIn (contents_known g h) d → content_hash c ≡ content_hash d → c ≡ d
one_content g h apart c d i j same = decided (bytes_eq (content_text c) (content_text d)) refl
  where
    tails : (c d : List ℕ) → content_text c ≡ content_text d → c ≡ d
    tails c d e = cc

    decided : (b : Bool) → bytes_eq (content_text c) (content_text d) ≡ b → c ≡ d
    decided true e = tails c d (bytes_same (content_text c) (content_text d) e)
    decided false e = absurd (apart (record {
      one = content_text c;
      other = content_text d;
      one_listed = of_content c i refl;
      other_listed = of_content d j refl;
      differ = λ f. true≢false (sym ((bytes_eq-Decides (content_text c) (content_text d)).1 f) ∙ e);
      same_hash = same;
    }))

pub same_put : (k n v w : List ℕ) → op.Put k v ≡ op.Put n w → (k ≡ n) × (v ≡ w)
same_put k n v w e = (cc, cc)

-- the call of a put in a group with objects is that of a store
pub record StoredBy (g : Group) (h : List TraceStep) (e : Entry) (k v : List ℕ) : Type 0 where
  pub content : List ℕ
  pub value_is : v ≡ reference_of content
  pub known : IsIn (contents_known g h) content
  pub store : IsStore g h e k content

stored_by : (g : Group) (h : List TraceStep) → AreSteps g h → g.mode ≡ mode.Objects → (e : Entry) (o : Outcome) (k v : List ℕ) → e.op ≡ op.Put k v → IsAnswered g h e o → StoredBy g h e k v
stored_by g h steps objects e o k v is a =
    let rest : List TraceStep = a.between ++ a.call ∷ a.past in
    let all : AreSteps g (a.later ++ a.answer ∷ rest) = subst (AreSteps g) a.is steps in
    let now : AreSteps g (a.call ∷ a.past) = earlier_steps g a.between (a.call ∷ a.past) (earlier_steps g a.later (a.answer ∷ rest) all).0 in
    let s : Standing = standing g a.call.client a.past in
    let sends : (move_of g a.past a.call).sends ≡ Some (Invokes e.seq (op.Put k v)) = a.asked ∙ ap (λ (q : Op). Some (Invokes e.seq q)) is in
    let puts : Puts s (op.Put k v) = elim ((phased_at g a.call a.past now).puts e.seq k v sends) [
      | inl plain ↦ absurd (mode_apart objects (plain_call g s (op.Put k v) a.call.input plain now.1.may))
      | inr p ↦ p
    ] in
    let w : AskedToStore g a.past a.call.client puts.name puts.h puts.len = keeping_asked g a.past now.0 a.call.client puts.name puts.h puts.len puts.alive puts.keeping in
    let same : (k ≡ puts.name) × (v ≡ reference_text puts.h.bytes puts.len) = same_put k puts.name v (reference_text puts.h.bytes puts.len) puts.is in
    let value : v ≡ reference_of w.content = same.1 ∙ (ap (λ (b : List ℕ). reference_text b puts.len) w.hash_is ∙ ap (reference_text (content_hash w.content)) w.length_is) in
    let caller : a.call.client ≡ e.client = a.makes.client in
    let shape : h ≡ (a.later ++ a.answer ∷ a.between) ++ a.call ∷ (w.between ++ w.asked ∷ w.past) =
    a.is ∙ (ap (λ (p : List TraceStep). a.later ++ a.answer ∷ (a.between ++ a.call ∷ p)) w.is ∙ sym (append_assoc a.later (a.answer ∷ a.between) (a.call ∷ (w.between ++ w.asked ∷ w.past)))) in
    record {
      content = w.content;
      value_is = value;
      known = subst (λ (t : List TraceStep). IsIn (contents_known g t) w.content) (sym (a.is ∙ sym (append_assoc a.later (a.answer ∷ a.between) (a.call ∷ a.past))))
          (known_since g (a.later ++ a.answer ∷ a.between) (a.call ∷ a.past) w.content (known_later g a.call a.past w.content w.known));
      store = record {
        later = a.later ++ a.answer ∷ a.between;
        call = a.call;
        between = w.between;
        asked = w.asked;
        past = w.past;
        is = shape;
        owner = w.owner ∙ caller;
        caller = caller;
        stores = w.stores ∙ ap (λ (n : List ℕ). input.Object (object.Store n w.content)) (sym same.0);
        quiet = subst (λ (m : ℕ). NoStepOf m w.between) caller w.quiet;
        sends = subst (λ (p : List TraceStep). (move_of g p a.call).sends ≡ Some (Invokes e.seq e.op)) w.is a.asked;
        puts_it = is ∙ ap (op.Put k) value;
      };
    }

-- the content that was fetched is the one that was stored
one_stored : (g : Group) (h : List TraceStep) → (Collides g h → ⊥) → (digest : List ℕ) (len : ℕ) (content value stored : List ℕ) → is_content_of digest len content ≡ true → digest ≡ hash_in value → value ≡ reference_of stored
    → IsIn (contents_known g h) content → IsIn (contents_known g h) stored → stored ≡ content
one_stored g h apart digest len content value stored is hash_is value_is known known_stored =
    let parts : (length content ≡ len) × (content_hash content ≡ digest) = content_parts digest len content is in
    let same : content_hash content ≡ content_hash stored = parts.1 ∙ (hash_is ∙ (ap hash_in value_is ∙ hash_of_reference stored)) in
    one_content g h apart stored content known_stored known (sym same)

-- the get of a load stands in the view, and what it found was put there last
pub record Gotten (g : Group) (h : List TraceStep) (me : ℕ) (e : Entry) (name value : List ℕ) : Type 0 where
  pub newer : List Shown
  pub older : List Shown
  pub view : view_of g me h ≡ newer ++ record { entry = e; outcome = outcome.Done (answer.Found value) } ∷ older
  pub last : LastPut name value older
  pub shown : IsIn (view_of g me h) last.shown

gotten : (g : Group) (h : List TraceStep) → IsLawful g h → (IsForged g h → ⊥) → (Collides g h → ⊥) → (me : ℕ) (e : Entry) (name value : List ℕ) → e.client ≡ me → e.op ≡ op.Get name
    → IsAnswered g h e (outcome.Done (answer.Found value)) → Gotten g h me e name value
gotten g h lawful honest apart me e name value own gets answered =
    let get : Shown = record { entry = e; outcome = outcome.Done (answer.Found value) } in
    let v = splits_at (view_of g me h) get (views_complete g h lawful me e (outcome.Done (answer.Found value)) own tt answered).0 in
    let legal : IsLegal (v.0 ++ get ∷ v.1) = subst IsLegal v.2 (views_legal g h lawful honest apart me) in
    let found = found_is (left_by v.1) e.op value (explains_found (left_by v.1) get get.outcome value refl (explained_at v.0 get v.1 legal)) in
    let same_name : found.0 ≡ name = same_key found.0 name (sym found.1 ∙ gets) in
    let l : LastPut name value v.1 = last_put_is name value v.1 (subst (λ (k : List ℕ). map.get (left_by v.1) k ≡ Some value) same_name found.2) in
    record {
      newer = v.0;
      older = v.1;
      view = v.2;
      last = l;
      shown = subst (λ (w : List Shown). IsIn w l.shown) (sym v.2) (in_right v.0 (get ∷ v.1) l.shown (inr l.there));
    }

-- a load that found a reference, and fetched this content
load_is : (g : Group) (h past : List TraceStep) → IsLawful g h → g.mode ≡ mode.Objects → (IsForged g h → ⊥) → (Collides g h → ⊥) → (me : ℕ) (d : Digest32) (len : ℕ) (content : List ℕ)
    → is_content_of d.bytes len content ≡ true → IsIn (contents_known g h) content → (b : FoundBy g past me d len) → IsIn (completions g h) b.by → LoadsLast g h past me content
load_is g h past lawful objects honest apart me d len content is known b there =
    let e : Entry = call_of me b.seq (op.Get b.name) in
    let answered : IsAnswered g h e (outcome.Done (answer.Found b.value)) = subst (IsAnswered g h e) b.ends (completion_answers g h lawful.steps b.by there e b.below b.is) in
    let t : Gotten g h me e b.name b.value = gotten g h lawful honest apart me e b.name b.value refl refl answered in
    let st : StoredBy g h t.last.shown.entry b.name b.value =
    stored_by g h lawful.steps objects t.last.shown.entry t.last.shown.outcome b.name b.value t.last.puts_it (views_show_only_calls g h lawful me t.last.shown t.shown) in
    let one : st.content ≡ content = one_stored g h apart d.bytes len content b.value st.content is b.hash_is st.value_is known st.known in
    record {
      name = b.name;
      between = b.between;
      asked = b.asked;
      before = b.before;
      since = b.since;
      loader = b.loader;
      loads = b.loads;
      alone = b.alone;
      newer = t.newer;
      get = record { entry = e; outcome = outcome.Done (answer.Found b.value) };
      older = t.older;
      view = t.view;
      own = refl;
      called = b.called;
      gets = refl;
      found = ap (λ (w : List ℕ). outcome.Done (answer.Found w)) (st.value_is ∙ ap reference_of one);
      stored = t.last.shown;
      last = t.last.last;
      by_store = subst (IsStore g h t.last.shown.entry b.name) one st.store;
    }

-- each content that a load returned is that of the last done store of its name
pub loads_get_the_last : LoadsGetTheLast
unfolding answer_taken
loads_get_the_last g h lawful objects honest apart later x past is content given =
    let now : AreSteps g (x ∷ past) = earlier_steps g later (x ∷ past) (subst (AreSteps g) is lawful.steps) in
    let f : Fetches (standing g x.client past) (answer_unless_halted (move_of g past x).next x.input) content = (phased_at g x past now).content content (sym now.1.object ∙ given) in
    let b : FoundBy g past x.client f.h f.len = fetching_found g past objects now.0 x.client f.h f.len f.fetching in
    load_is g h past lawful objects honest apart x.client f.h f.len content f.is
    (subst (λ (t : List TraceStep). IsIn (contents_known g t) content) (sym is) (known_since g later (x ∷ past) content (known_taken g x past content f.took_it))) b
    (subst (λ (t : List TraceStep). IsIn (completions g t) b.by) (sym is) (completions_stay g later (x ∷ past) b.by (completion_stays g past x b.by b.there)))
