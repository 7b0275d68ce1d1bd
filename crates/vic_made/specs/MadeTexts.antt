-- The texts that clients tag, as a reader finds them in the bytes that were sent.
use Rattle.std.specs.Prelude.{◌≡◌, ◌↔◌, ℕ, Bool, List, ◌∷◌, ◌++◌, Some}
use Rattle.vic_dict.specs.declared.op.Op.{Op}
use Rattle.vic_dict.specs.Lists.{IsIn, AreBytes, front}
use Rattle.vic_wire.specs.declared.message.Digest32.{Digest32}
use Rattle.vic_wire.specs.declared.message.ToServer.{ToServer}
use Rattle.vic_wire.specs.declared.message.ToServer.TheVariants as ask
use Rattle.vic_wire.specs.Texts.{invoke_text, commit_text, seal_text}
use Rattle.vic_wire.specs.Hashes.{Group, chain, tag_of}
use Rattle.vic_wire.specs.Messages.{HasRequestSpelling}
use Rattle.vic_wire.specs.Reading.{read_request}
use Rattle.vic_rules.specs.declared.trace.TraceStep.{TraceStep}
use Rattle.vic_rules.specs.History.{path, IsLawful}
use Rattle.vic_rules.specs.Trust.{texts_made, IsForged}
use Rattle.vic_laws.specs.ByCases.{TakesText}

-- a payload that a client sent at a step is read as this request
pub record RequestSent (x : TraceStep) (m : ToServer) : Type 0 where
  pub payload : List ℕ
  pub sent : x.sent ≡ Some payload
  pub is : read_request payload ≡ Some m

-- the text that such a request speaks of, and the tag in it: of a call, its entry; of a status or a seal, its position with the
-- hash of the path's front there (the path that the client then has), and what is said of that position
pub data SentText (g : Group) (past : List TraceStep) (x : TraceStep) (tag : Digest32) (t : List ℕ) : Type 0 where
  of_call : (known seq : ℕ) (o : Op) → RequestSent x (ask.Invoke known seq o tag)
      → t ≡ invoke_text (record { client = x.client; seq = seq; op = o }) → SentText g past x tag t
  of_status : (position : ℕ) (done : Bool) → RequestSent x (ask.Commit position done tag)
      → t ≡ commit_text position (chain g (front position (path g x.client (x ∷ past)))) done → SentText g past x tag t
  of_seal : (position : ℕ) (root : Digest32) → RequestSent x (ask.Seal position root tag)
      → t ≡ seal_text position (chain g (front position (path g x.client (x ∷ past)))) root.bytes → SentText g past x tag t

-- a step of a history at which a text was sent, and the tag beside it
pub record SendingOf (g : Group) (h : List TraceStep) (t : List ℕ) : Type 0 where
  pub later : List TraceStep
  pub x : TraceStep
  pub past : List TraceStep
  pub is : h ≡ later ++ x ∷ past
  pub tag : Digest32
  pub text : SentText g past x tag t

-- a client took a text at a step, and no client had sent it before
pub record Forgery (g : Group) (h : List TraceStep) : Type 0 where
  pub later : List TraceStep
  pub x : TraceStep
  pub past : List TraceStep
  pub is : h ≡ later ++ x ∷ past
  pub text : List ℕ
  pub taken : TakesText g past x text
  pub unsent : SendingOf g past text → ⊥

-- ---- the laws, of every lawful history

-- each payload that is sent is bytes, and is read as a request that has a spelling
abbrev pub SentRequests : Type 0
SentRequests = (g : Group) (h : List TraceStep) → IsLawful g h → (later : List TraceStep) (x : TraceStep) (past : List TraceStep)
    → h ≡ later ++ x ∷ past → (payload : List ℕ) → x.sent ≡ Some payload
    → AreBytes payload × ((m : ToServer) × HasRequestSpelling m × (read_request payload ≡ Some m))

-- a text counts as made exactly where it was sent
abbrev pub MadeTexts : Type 0
MadeTexts = (g : Group) (h : List TraceStep) → IsLawful g h → (t : List ℕ) → IsIn (texts_made g h) t ↔ SendingOf g h t

-- the tag beside a text that was sent is the text's
abbrev pub MadeTags : Type 0
MadeTags = (g : Group) (h : List TraceStep) → IsLawful g h → (t : List ℕ) (s : SendingOf g h t) → s.tag.bytes ≡ tag_of g.key t

-- so the claim's exception of a forged tag is met exactly where there is a forgery
abbrev pub Forgeries : Type 0
Forgeries = (g : Group) (h : List TraceStep) → IsLawful g h → IsForged g h ↔ Forgery g h
