-- What calls on objects return, what they fetch and keep, and which contents are known, by steps.
use Rattle.std.specs.Prelude.{◌≡◌, ◌⊎◌, ◌↔◌, ℕ, List, ◌∷◌, ◌++◌, length, Some, None}
use Rattle.vic_dict.specs.declared.op.Answer.TheVariants as answer
use Rattle.vic_dict.specs.declared.op.Mode.TheVariants as mode
use Rattle.vic_dict.specs.declared.op.Outcome.TheVariants as outcome
use Rattle.vic_dict.specs.Lists.{IsIn}
use Rattle.vic_wire.specs.declared.message.Digest32.{Digest32}
use Rattle.vic_wire.specs.declared.message.ToServer.TheVariants as ask
use Rattle.vic_wire.specs.declared.message.ToClient.TheVariants as say
use Rattle.vic_wire.specs.Hashes.{Group}
use Rattle.vic_wire.specs.Messages.{request_text}
use Rattle.vic_rules.specs.declared.object.ObjectOutcome.TheVariants as ended
use Rattle.vic_rules.specs.declared.object.ObjectCall.TheVariants as object
use Rattle.vic_rules.specs.declared.trace.Input.TheVariants as input
use Rattle.vic_rules.specs.declared.trace.TraceStep.{TraceStep}
use Rattle.vic_rules.specs.Objects.{hash_in}
use Rattle.vic_rules.specs.History.{IsLawful}
use Rattle.vic_rules.specs.Trust.{answer_taken, contents_known}
use Rattle.vic_laws.specs.ByCases.{TakesAnswer}
use Rattle.vic_laws.specs.ContentClaims.{NoAskOf}

-- ---- what a call on objects returns

-- what a step returns of a call on objects, by what it returns of the operation that was called, and by what it took
pub record EndsObject (g : Group) (past : List TraceStep) (x : TraceStep) : Type 0 where
  pub stored : (x.object ≡ Some ended.Stored) ↔ (x.returned ≡ Some (outcome.Done answer.Stored))
  pub missing : (x.object ≡ Some ended.Missing) ↔ (x.returned ≡ Some (outcome.Done answer.NotFound))
  pub removed : (x.object ≡ Some ended.Removed) ↔ (x.returned ≡ Some (outcome.Done answer.Removed))
  pub absent : (x.object ≡ Some ended.Absent) ↔ (x.returned ≡ Some (outcome.Done answer.Absent))
  pub names : (l : List (List ℕ)) → (x.object ≡ Some (ended.Names l)) ↔ (x.returned ≡ Some (outcome.Done (answer.Names l)))
  pub aborted : (u : ℕ) → (x.object ≡ Some (ended.Aborted u)) ↔ (x.returned ≡ Some (outcome.Aborted u))
  -- the operation was refused, or the content of a store, before the operation was called
  pub refused : (r : ℕ) → (x.object ≡ Some (ended.Refused r)) ↔ ((x.returned ≡ Some (outcome.Refused r)) ⊎ ((x.returned ≡ None) × (answer_taken g past x ≡ Some (say.Refused r))))
  pub content : (c : List ℕ) → (x.object ≡ Some (ended.Content c)) ↔ (answer_taken g past x ≡ Some (say.Content c))
  -- what was found is a reference, and the load isn't over
  pub found : (v : List ℕ) → x.returned ≡ Some (outcome.Done (answer.Found v)) → (x.object ≡ None) × (length v ≡ 36)
  pub halted : (k : ℕ) → x.returned ≡ Some (outcome.Halted k) → x.object ≡ None

-- in a group without objects nothing is returned of one; in a group with objects it is so
pub record EndsByMode (g : Group) (past : List TraceStep) (x : TraceStep) : Type 0 where
  pub plain : g.mode ≡ mode.Plain → x.object ≡ None
  pub objects : g.mode ≡ mode.Objects → EndsObject g past x

abbrev pub ObjectsEndSo : Type 0
ObjectsEndSo = (g : Group) (h : List TraceStep) → IsLawful g h → (later : List TraceStep) (x : TraceStep) (past : List TraceStep) → h ≡ later ++ x ∷ past → EndsByMode g past x

-- ---- what is fetched

-- a get of this client found a reference with this hash, and the client was asked for nothing since
pub record FoundSince (past : List TraceStep) (client : ℕ) (hash : List ℕ) : Type 0 where
  pub between : List TraceStep
  pub reply : TraceStep
  pub before : List TraceStep
  pub since : past ≡ between ++ reply ∷ before
  pub alone : NoAskOf client between
  pub owner : reply.client ≡ client
  pub value : List ℕ
  pub found : reply.returned ≡ Some (outcome.Done (answer.Found value))
  pub is : hash ≡ hash_in value

-- a client asks for a content exactly where it took a Wait and a reference with this hash was found for what it was asked for last; in a
-- group without objects it asks for none
pub record FetchesByMode (g : Group) (past : List TraceStep) (x : TraceStep) (d : Digest32) : Type 0 where
  pub plain : g.mode ≡ mode.Plain → x.sent ≡ Some (request_text (ask.Fetch d)) → ⊥
  pub objects : g.mode ≡ mode.Objects → (x.sent ≡ Some (request_text (ask.Fetch d))) ↔ ((answer_taken g past x ≡ Some say.Wait) × FoundSince past x.client d.bytes)

abbrev pub FetchesSo : Type 0
FetchesSo = (g : Group) (h : List TraceStep) → IsLawful g h → (later : List TraceStep) (x : TraceStep) (past : List TraceStep) → h ≡ later ++ x ∷ past → (d : Digest32) → FetchesByMode g past x d

-- ---- what is kept

-- a client sends a content to be kept exactly where it is asked to store it
abbrev pub KeepsSo : Type 0
KeepsSo = (g : Group) (h : List TraceStep) → IsLawful g h → (later : List TraceStep) (x : TraceStep) (past : List TraceStep) → h ≡ later ++ x ∷ past
    → (c : List ℕ) → (x.sent ≡ Some (request_text (ask.Keep c))) ↔ ((name : List ℕ) × (x.input ≡ input.Object (object.Store name c)))

-- ---- which contents are known

-- a client sent the content to be kept at a step, or took it there
pub data KnowsContent (g : Group) (past : List TraceStep) (x : TraceStep) (c : List ℕ) : Type 0 where
  of_keep : x.sent ≡ Some (request_text (ask.Keep c)) → KnowsContent g past x c
  of_answer : TakesAnswer g past x (say.Content c) → KnowsContent g past x c

pub record IsKnownIn (g : Group) (h : List TraceStep) (c : List ℕ) : Type 0 where
  pub later : List TraceStep
  pub x : TraceStep
  pub past : List TraceStep
  pub is : h ≡ later ++ x ∷ past
  pub knows : KnowsContent g past x c

-- the contents that count as known are those
abbrev pub ContentsAre : Type 0
ContentsAre = (g : Group) (h : List TraceStep) → IsLawful g h → (c : List ℕ) → IsIn (contents_known g h) c ↔ IsKnownIn g h c
