-- The texts made are those that a reader finds in the bytes that were sent.
use Rattle.std.specs.Prelude.{◌≡◌, ℕ, List, [], ◌∷◌, ◌++◌, length, Option, Some, None}
use Rattle.std.proofs.Common.{refl, ap, subst, sym, ◌∙◌, inl, inr, arith}
use Rattle.vic_dict.specs.declared.op.Entry.{Entry}
use Rattle.vic_dict.specs.Lists.{IsIn, AreBytes, front}
use Rattle.vic_wire.specs.declared.message.Digest32.{Digest32}
use Rattle.vic_wire.specs.declared.message.ToServer.{ToServer}
use Rattle.vic_wire.specs.declared.message.ToServer.TheVariants as ask
use Rattle.vic_wire.specs.Texts.{invoke_text, commit_text, seal_text}
use Rattle.vic_wire.specs.Hashes.{Group, chain, tag_of}
use Rattle.vic_wire.specs.Messages.{request_text, HasRequestSpelling}
use Rattle.vic_wire.specs.Reading.{read_request}
use Rattle.vic_rules.specs.declared.trace.TraceStep.{TraceStep}
use Rattle.vic_rules.specs.Client.{Standing, Sending, Invokes, Commits, Polls, Seals, Syncs, Keeps, Fetches, request_of, payload_of, commit_text_on, seal_text_on}
use Rattle.vic_rules.specs.History.{path, move_of, AreSteps}
use Rattle.vic_rules.specs.Trust.{texts_made, text_sent, IsForged}
use Rattle.vic_spellings.proofs.SpelledRequests.{request_again}
use Rattle.vic_spellings.proofs.Holding.{request-bytes}
use Rattle.vic_laws.proofs.Words.{some_same, none_is_some, in_left, in_right, in_either}
use Rattle.vic_laws.proofs.Standings.{standing_moved, earlier_steps}
use Rattle.vic_laws.proofs.Growth.{front_whole}
use Rattle.vic_laws.proofs.ByCases.{texts_taken_are, only_one}
use Rattle.vic_laws.proofs.RealTime.{forged_earlier}
use Rattle.vic_made.specs.MadeTexts.{RequestSent, SentText, of_call, of_status, of_seal, SendingOf, Forgery, SentRequests, MadeTexts, MadeTags, Forgeries}
use Rattle.vic_made.proofs.Spelled.{IsSpelled, step_spelled}

-- ---- the text that a request speaks of

-- of a client's request, over its path
abbrev told_text : Group → ℕ → List Entry → ToServer → List (List ℕ)
told_text g me p (ask.Hello kind client) = []
told_text g me p (ask.Invoke known seq o tag) = invoke_text (record { client = me; seq = seq; op = o }) ∷ []
told_text g me p (ask.Commit position done tag) = commit_text position (chain g (front position p)) done ∷ []
told_text g me p ask.Poll = []
told_text g me p (ask.Seal position root tag) = seal_text position (chain g (front position p)) root.bytes ∷ []
told_text g me p (ask.Sync known) = []
told_text g me p (ask.Keep content) = []
told_text g me p (ask.Fetch hash) = []
told_text g me p ask.Bye = []

-- its tag is that text's
abbrev HasTag : Group → ℕ → List Entry → ToServer → Type 0
HasTag g me p (ask.Hello kind client) = Unit {0}
HasTag g me p (ask.Invoke known seq o tag) = tag.bytes ≡ tag_of g.key (invoke_text (record { client = me; seq = seq; op = o }))
HasTag g me p (ask.Commit position done tag) = tag.bytes ≡ tag_of g.key (commit_text position (chain g (front position p)) done)
HasTag g me p ask.Poll = Unit {0}
HasTag g me p (ask.Seal position root tag) = tag.bytes ≡ tag_of g.key (seal_text position (chain g (front position p)) root.bytes)
HasTag g me p (ask.Sync known) = Unit {0}
HasTag g me p (ask.Keep content) = Unit {0}
HasTag g me p (ask.Fetch hash) = Unit {0}
HasTag g me p ask.Bye = Unit {0}

whole : (p : List Entry) → p ≡ front (length p) p
whole p = sym (front_whole (length p) p (omega arith))

-- the request of a sending speaks of the text that goes with it
told_is : (g : Group) (me : ℕ) (s : Standing) (sending : Sending)
    → text_sent g me s (Some sending) ≡ told_text g me s.path (request_of g me s sending)
unfolding commit_text_on seal_text_on
told_is g me s (Invokes n o) = refl
told_is g me s (Commits done) = ap (λ (p : List Entry). commit_text (length s.path) (chain g p) done ∷ []) (whole s.path)
told_is g me s Polls = refl
told_is g me s Seals = refl
told_is g me s Syncs = refl
told_is g me s (Keeps content) = refl
told_is g me s (Fetches h) = refl

tag_is : (g : Group) (me : ℕ) (s : Standing) (sending : Sending) → HasTag g me s.path (request_of g me s sending)
unfolding commit_text_on seal_text_on
tag_is g me s (Invokes n o) = refl
tag_is g me s (Commits done) = ap (λ (p : List Entry). tag_of g.key (commit_text (length s.path) (chain g p) done)) (whole s.path)
tag_is g me s Polls = tt
tag_is g me s Seals = refl
tag_is g me s Syncs = tt
tag_is g me s (Keeps content) = tt
tag_is g me s (Fetches h) = tt

-- ---- at a step

abbrev texts_at : Group → List TraceStep → TraceStep → List (List ℕ)
texts_at g past x = text_sent g x.client (move_of g past x).next (move_of g past x).sends

module _ (g : Group) (past : List TraceStep) (x : TraceStep) (steps : AreSteps g (x ∷ past)) where
  -- where the client then stands, and its path as the history has it
  abbrev then : Standing
  then = (move_of g past x).next

  abbrev path_then : List Entry
  path_then = path g x.client (x ∷ past)

  path_is : then.path ≡ path_then
  path_is = ap (λ (s : Standing). s.path) (sym (standing_moved g x.client x past refl))

  -- the request of a sending
  abbrev asked : Sending → ToServer
  asked sending = request_of g x.client then sending

  abbrev Sends : Sending → Type 0
  Sends sending = (move_of g past x).sends ≡ Some sending

  sent_as : (o : Option Sending) → (move_of g past x).sends ≡ o → x.sent ≡ payload_of g x.client then o
  sent_as o e = steps.1.sent ∙ ap (payload_of g x.client then) e

  -- what the client sends is read as that request
  sent_request : (sending : Sending) → Sends sending → RequestSent x (asked sending)
  sent_request sending e = record {
    payload = request_text (asked sending);
    sent = sent_as (Some sending) e;
    is = request_again (asked sending) (step_spelled g past x steps sending e).0;
  }

  -- and as no other
  sending_at : (m : ToServer) → RequestSent x m → (sending : Sending) × Sends sending × (asked sending ≡ m)
  sending_at m r = now (move_of g past x).sends refl
    where
      now : (o : Option Sending) → (move_of g past x).sends ≡ o → (sending : Sending) × Sends sending × (asked sending ≡ m)
      now None e = absurd (none_is_some (sym (sent_as None e) ∙ r.sent))
      now (Some sending) e =
          let own = sent_request sending e in
          let same : own.payload ≡ r.payload = some_same (sym own.sent ∙ r.sent) in
          (sending, e, some_same (sym own.is ∙ (ap read_request same ∙ r.is)))

  -- the texts of the step are those of which the request speaks
  told_at : (sending : Sending) → Sends sending → texts_at g past x ≡ told_text g x.client path_then (asked sending)
  told_at sending e =
      ap (text_sent g x.client then) e
      ∙ (told_is g x.client then sending ∙ ap (λ (p : List Entry). told_text g x.client p (asked sending)) path_is)

  told_to : (t : List ℕ) (m : ToServer) → RequestSent x m → IsIn (told_text g x.client path_then m) t
      → (tag : Digest32) × SentText g past x tag t
  told_to t (ask.Hello kind client) r i = absurd i
  told_to t (ask.Invoke known seq o tag) r i = (tag, of_call known seq o r (only_one _ t i))
  told_to t (ask.Commit position done tag) r i = (tag, of_status position done r (only_one _ t i))
  told_to t ask.Poll r i = absurd i
  told_to t (ask.Seal position root tag) r i = (tag, of_seal position root r (only_one _ t i))
  told_to t (ask.Sync known) r i = absurd i
  told_to t (ask.Keep content) r i = absurd i
  told_to t (ask.Fetch hash) r i = absurd i
  told_to t ask.Bye r i = absurd i

  -- what is made at the step was sent
  made_to : (t : List ℕ) → IsIn (texts_at g past x) t → (tag : Digest32) × SentText g past x tag t
  made_to t i = now (move_of g past x).sends refl
    where
      now : (o : Option Sending) → (move_of g past x).sends ≡ o → (tag : Digest32) × SentText g past x tag t
      now None e = absurd (subst (λ o. IsIn (text_sent g x.client then o) t) e i)
      now (Some sending) e =
          told_to t (asked sending) (sent_request sending e) (subst (λ (ts : List (List ℕ)). IsIn ts t) (told_at sending e) i)

  -- what was sent is made
  told_from : (t : List ℕ) (m : ToServer) → RequestSent x m → IsIn (told_text g x.client path_then m) t → IsIn (texts_at g past x) t
  told_from t m r i =
      let s = sending_at m r in
      subst (λ (ts : List (List ℕ)). IsIn ts t) (sym (told_at s.0 s.1))
      (subst (λ (n : ToServer). IsIn (told_text g x.client path_then n) t) (sym s.2) i)

  made_from : (tag : Digest32) (t : List ℕ) → SentText g past x tag t → IsIn (texts_at g past x) t
  made_from tag t (of_call known seq o r same) = told_from t (ask.Invoke known seq o tag) r (inl (sym same))
  made_from tag t (of_status position done r same) = told_from t (ask.Commit position done tag) r (inl (sym same))
  made_from tag t (of_seal position root r same) = told_from t (ask.Seal position root tag) r (inl (sym same))

  has_tag : (m : ToServer) → RequestSent x m → HasTag g x.client path_then m
  has_tag m r =
      let s = sending_at m r in
      subst (HasTag g x.client path_then) s.2
      (subst (λ (p : List Entry). HasTag g x.client p (asked s.0)) path_is (tag_is g x.client then s.0))

  tag_from : (tag : Digest32) (t : List ℕ) → SentText g past x tag t → tag.bytes ≡ tag_of g.key t
  tag_from tag t (of_call known seq o r same) = has_tag (ask.Invoke known seq o tag) r ∙ ap (tag_of g.key) (sym same)
  tag_from tag t (of_status position done r same) = has_tag (ask.Commit position done tag) r ∙ ap (tag_of g.key) (sym same)
  tag_from tag t (of_seal position root r same) = has_tag (ask.Seal position root tag) r ∙ ap (tag_of g.key) (sym same)

  -- whatever is sent is bytes, and is read
  payload_read : (payload : List ℕ) → x.sent ≡ Some payload
      → AreBytes payload × ((m : ToServer) × HasRequestSpelling m × (read_request payload ≡ Some m))
  payload_read payload sent = now (move_of g past x).sends refl
    where
      now : (o : Option Sending) → (move_of g past x).sends ≡ o
          → AreBytes payload × ((m : ToServer) × HasRequestSpelling m × (read_request payload ≡ Some m))
      now None e = absurd (none_is_some (sym (sent_as None e) ∙ sent))
      now (Some sending) e =
          let m : ToServer = asked sending in
          let same : request_text m ≡ payload = some_same (sym (sent_as (Some sending) e) ∙ sent) in
          let spelled : IsSpelled m = step_spelled g past x steps sending e in
          (subst AreBytes same (request-bytes m spelled.0 spelled.1), (m, spelled.0, ap read_request (sym same) ∙ request_again m spelled.0))

-- ---- along a history

steps_at : (g : Group) (h later : List TraceStep) (x : TraceStep) (past : List TraceStep)
    → AreSteps g h → h ≡ later ++ x ∷ past → AreSteps g (x ∷ past)
steps_at g h later x past steps is = earlier_steps g later (x ∷ past) (subst (AreSteps g) is steps)

there : (g : Group) (h : List TraceStep) → AreSteps g h → (t : List ℕ) → IsIn (texts_made g h) t → SendingOf g h t
unfolding texts_made
there g [] steps t i = absurd i
there g (x ∷ past) steps t i = elim (in_either (texts_at g past x) (texts_made g past) t i) [
  | inl a ↦ (let s = made_to g past x steps t a in record { later = []; x = x; past = past; is = refl; tag = s.0; text = s.1 })
  | inr b ↦ (let r = there g past steps.0 t b in
      record { later = x ∷ r.later; x = r.x; past = r.past; is = ap (λ (w : List TraceStep). x ∷ w) r.is; tag = r.tag; text = r.text })
]

-- what is made in an earlier history is made in the whole
made_later : (g : Group) (later past : List TraceStep) (t : List ℕ) → IsIn (texts_made g past) t → IsIn (texts_made g (later ++ past)) t
unfolding texts_made
made_later g [] past t i = i
made_later g (x ∷ later) past t i = in_right (texts_at g (later ++ past) x) (texts_made g (later ++ past)) t (made_later g later past t i)

made_here : (g : Group) (past : List TraceStep) (x : TraceStep) (t : List ℕ)
    → IsIn (texts_at g past x) t → IsIn (texts_made g (x ∷ past)) t
unfolding texts_made
made_here g past x t i = in_left (texts_at g past x) (texts_made g past) t i

back : (g : Group) (h : List TraceStep) → AreSteps g h → (t : List ℕ) → SendingOf g h t → IsIn (texts_made g h) t
back g h steps t s =
    let made = made_from g s.past s.x (steps_at g h s.later s.x s.past steps s.is) s.tag t s.text in
    subst (λ (k : List TraceStep). IsIn (texts_made g k) t) (sym s.is)
    (made_later g s.later (s.x ∷ s.past) t (made_here g s.past s.x t made))

pub made_texts : MadeTexts
made_texts g h lawful t = (there g h lawful.steps t, back g h lawful.steps t)

pub made_tags : MadeTags
made_tags g h lawful t s = tag_from g s.past s.x (steps_at g h s.later s.x s.past lawful.steps s.is) s.tag t s.text

pub sent_requests : SentRequests
sent_requests g h lawful later x past is payload sent = payload_read g past x (steps_at g h later x past lawful.steps is) payload sent

-- ---- what is forged

forgery_to : (g : Group) (h : List TraceStep) → AreSteps g h → IsForged g h → Forgery g h
forgery_to g [] steps f = absurd f
forgery_to g (x ∷ past) steps (inl before) =
    let r = forgery_to g past steps.0 before in
    let is : x ∷ past ≡ x ∷ (r.later ++ r.x ∷ r.past) = ap (λ (w : List TraceStep). x ∷ w) r.is in
    record { later = x ∷ r.later; x = r.x; past = r.past; is = is; text = r.text; taken = r.taken; unsent = r.unsent }
forgery_to g (x ∷ past) steps (inr now) = record {
  later = [];
  x = x;
  past = past;
  is = refl;
  text = now.0;
  taken = (texts_taken_are g past x now.0).0 now.1;
  unsent = λ s. now.2 (back g past steps.0 now.0 s);
}

forgery_from : (g : Group) (h : List TraceStep) → AreSteps g h → Forgery g h → IsForged g h
forgery_from g h steps f =
    let here : AreSteps g (f.x ∷ f.past) = steps_at g h f.later f.x f.past steps f.is in
    let taken = (texts_taken_are g f.past f.x f.text).1 f.taken in
    subst (IsForged g) (sym f.is)
    (forged_earlier g f.later (f.x ∷ f.past) (inr (f.text, taken, λ i. f.unsent (there g f.past here.0 f.text i))))

pub forgeries : Forgeries
forgeries g h lawful = (forgery_to g h lawful.steps, forgery_from g h lawful.steps)
