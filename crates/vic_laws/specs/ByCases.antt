-- Words of the claim by cases and places: real-time order, the texts that were taken and made, and where a view ends.
use Rattle.std.specs.Prelude.{◌≡◌, ◌≢◌, ◌↔◌, ℕ, ◌≤◌, Bool, List, [], ◌∷◌, ◌++◌, length, Some, None}
use Rattle.vic_dict.specs.declared.op.Op.{Op}
use Rattle.vic_dict.specs.declared.op.Outcome.{Outcome}
use Rattle.vic_dict.specs.declared.op.Entry.{Entry}
use Rattle.vic_dict.specs.Lists.{IsIn, front}
use Rattle.vic_wire.specs.declared.message.Digest32.{Digest32}
use Rattle.vic_wire.specs.declared.message.Seal.{Seal}
use Rattle.vic_wire.specs.declared.message.Tagged.{Tagged}
use Rattle.vic_wire.specs.declared.message.ToServer.TheVariants as ask
use Rattle.vic_wire.specs.declared.message.ToClient.{ToClient}
use Rattle.vic_wire.specs.Texts.{invoke_text, commit_text, seal_text}
use Rattle.vic_wire.specs.Hashes.{Group, chain, tag_of}
use Rattle.vic_wire.specs.Messages.{request_text}
use Rattle.vic_wire.specs.Reading.{read_answer}
use Rattle.vic_rules.specs.declared.trace.Input.TheVariants as input
use Rattle.vic_rules.specs.declared.trace.TraceStep.{TraceStep}
use Rattle.vic_rules.specs.declared.trace.Shown.{Shown}
use Rattle.vic_rules.specs.Client.{entries_of, seal_of}
use Rattle.vic_rules.specs.History.{standing, path, IsLawful, completions}
use Rattle.vic_rules.specs.Views.{confirmed_calls, view_of, IsAnswered, IsCompleted, ReturnedBefore}
use Rattle.vic_rules.specs.Trust.{answer_taken, texts_taken, texts_made}

-- ---- real-time order

-- of two answered calls the first had returned before the second was made exactly where its answer stands among the steps before that call
abbrev pub RealTimeIsIn : Group → List TraceStep → Type 0
RealTimeIsIn g h = (a b : Shown) (p : IsAnswered g h a.entry a.outcome) (q : IsAnswered g h b.entry b.outcome)
    → ReturnedBefore g h a b ↔ (length (p.answer ∷ (p.between ++ p.call ∷ p.past)) ≤ length q.past)

abbrev pub RealTimeIs : Type 0
RealTimeIs = (g : Group) (h : List TraceStep) → IsLawful g h → RealTimeIsIn g h

-- ---- what was taken

-- a payload came that has a reading as this answer, and its client goes on after it
pub record TakesAnswer (g : Group) (past : List TraceStep) (x : TraceStep) (m : ToClient) : Type 0 where
  pub payload : List ℕ
  pub came : x.input ≡ input.Payload payload
  pub is : read_answer payload ≡ Some m
  pub goes_on : (standing g x.client (x ∷ past)).halted ≡ None

abbrev pub TookIs : Type 0
TookIs = (g : Group) (past : List TraceStep) (x : TraceStep) (m : ToClient) → (answer_taken g past x ≡ Some m) ↔ TakesAnswer g past x m

-- the text of an entry of such an answer, or of its seal above position 0 on the path that the client then has
pub data TakesText (g : Group) (past : List TraceStep) (x : TraceStep) (t : List ℕ) : Type 0 where
  of_entry : (m : ToClient) (e : Tagged) → TakesAnswer g past x m → IsIn (entries_of m) e → t ≡ invoke_text e.entry → TakesText g past x t
  of_seal : (m : ToClient) (s : Seal) → TakesAnswer g past x m → seal_of m ≡ Some s → s.position ≢ 0
      → t ≡ seal_text s.position (chain g (front s.position (path g x.client (x ∷ past)))) s.root.bytes → TakesText g past x t

abbrev pub TextsTakenAre : Type 0
TextsTakenAre = (g : Group) (past : List TraceStep) (x : TraceStep) (t : List ℕ) → IsIn (texts_taken g past x) t ↔ TakesText g past x t

-- ---- what was made

-- a client sent the tag of the text at a step: with a call, with its status, or with the seal of a position of the path that it then has
pub data MakesText (g : Group) (past : List TraceStep) (x : TraceStep) (t : List ℕ) : Type 0 where
  with_call : (known seq : ℕ) (o : Op) (tag : Digest32) → x.sent ≡ Some (request_text (ask.Invoke known seq o tag)) → tag.bytes ≡ tag_of g.key t
      → t ≡ invoke_text (record { client = x.client; seq = seq; op = o }) → MakesText g past x t
  with_status : (position : ℕ) (done : Bool) (tag : Digest32) → x.sent ≡ Some (request_text (ask.Commit position done tag)) → tag.bytes ≡ tag_of g.key t
      → t ≡ commit_text position (chain g (front position (path g x.client (x ∷ past)))) done → MakesText g past x t
  with_seal : (position : ℕ) (root tag : Digest32) → x.sent ≡ Some (request_text (ask.Seal position root tag)) → tag.bytes ≡ tag_of g.key t
      → t ≡ seal_text position (chain g (front position (path g x.client (x ∷ past)))) root.bytes → MakesText g past x t

pub record IsMadeIn (g : Group) (h : List TraceStep) (t : List ℕ) : Type 0 where
  pub later : List TraceStep
  pub x : TraceStep
  pub past : List TraceStep
  pub is : h ≡ later ++ x ∷ past
  pub makes : MakesText g past x t

-- no other text counts as made
abbrev pub TextsMadeAre : Type 0
TextsMadeAre = (g : Group) (h : List TraceStep) → IsLawful g h → (t : List ℕ) → IsIn (texts_made g h) t → IsMadeIn g h t

-- ---- where a view ends

-- a client completed a call at a step
abbrev pub CompletesAt : ℕ → TraceStep → Type 0
CompletesAt me x = (x.client ≡ me) × ((o : Outcome) × (x.returned ≡ Some o) × IsCompleted o)

abbrev pub CompletesNowhere : ℕ → List TraceStep → Type 0
CompletesNowhere me [] = Unit {0}
CompletesNowhere me (x ∷ h) = (CompletesAt me x → ⊥) × CompletesNowhere me h

-- the path that a client had when it last completed a call, or none
pub data EndsAt (g : Group) (h : List TraceStep) (me : ℕ) (p : List Entry) : Type 0 where
  at_call : (later : List TraceStep) (x : TraceStep) (past : List TraceStep) → h ≡ later ++ x ∷ past → CompletesNowhere me later → CompletesAt me x
      → p ≡ path g me (x ∷ past) → EndsAt g h me p
  at_start : CompletesNowhere me h → p ≡ [] → EndsAt g h me p

-- a client's view has the confirmed calls up to there, and no others
abbrev pub ViewsEnd : Type 0
ViewsEnd = (g : Group) (h : List TraceStep) (me : ℕ)
    → ((p : List Entry) × EndsAt g h me p) × ((p : List Entry) → EndsAt g h me p → view_of g me h ≡ confirmed_calls (completions g h) p)
