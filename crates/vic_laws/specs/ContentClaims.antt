-- The law on contents: what a load returns is what was stored last.
use Rattle.std.specs.Prelude.{◌≡◌, ℕ, List, [], ◌∷◌, ◌++◌, Option, Some, None}
use Rattle.std.specs.Str.{bytes_eq}
use Rattle.std.specs.Prelude.{Bool, false, ◌&&◌, if◌then◌else◌}
use Rattle.vic_dict.specs.declared.op.Op.{Op}
use Rattle.vic_dict.specs.declared.op.Op.TheVariants as op
use Rattle.vic_dict.specs.declared.op.Entry.{Entry}
use Rattle.vic_dict.specs.declared.op.Answer.TheVariants as answer
use Rattle.vic_dict.specs.declared.op.Outcome.TheVariants as outcome
use Rattle.vic_dict.specs.declared.op.Mode.TheVariants as mode
use Rattle.vic_wire.specs.Hashes.{Group}
use Rattle.vic_rules.specs.declared.object.ObjectCall.TheVariants as object
use Rattle.vic_rules.specs.declared.object.ObjectOutcome.TheVariants as ended
use Rattle.vic_rules.specs.declared.trace.Input.{Input}
use Rattle.vic_rules.specs.declared.trace.Input.TheVariants as input
use Rattle.vic_rules.specs.declared.trace.TraceStep.{TraceStep}
use Rattle.vic_rules.specs.declared.trace.Shown.{Shown}
use Rattle.vic_rules.specs.Client.{Invokes, is_done}
use Rattle.vic_rules.specs.Objects.{reference_of}
use Rattle.vic_rules.specs.History.{IsLawful, move_of}
use Rattle.vic_rules.specs.Views.{NoStepOf, view_of}
use Rattle.vic_rules.specs.Trust.{IsForged, Collides}

-- whether an operation puts this key
abbrev pub is_put_of : List ℕ → Op → Bool
is_put_of k (op.Put q v) = bytes_eq k q
is_put_of k (op.Get q) = false
is_put_of k (op.Del q) = false
is_put_of k (op.List p) = false

-- the last done store of a name in a view: the newest done put of this key, whatever dels are newer. (In LoadsLast the get found what it put,
-- by `found`, so it is the last change of the key)
abbrev pub last_put : List ℕ → List Shown → Option Shown
last_put k [] = None
last_put k (x ∷ v) = if is_done x.outcome && is_put_of k x.entry.op then Some x else last_put k v

-- the call of an entry is the put of a store: its client was asked to store this content under this name, and at its next step it called
-- the put of the content's reference
pub record IsStore (g : Group) (h : List TraceStep) (e : Entry) (name content : List ℕ) : Type 0 where
  pub later : List TraceStep
  pub call : TraceStep
  pub between : List TraceStep
  pub asked : TraceStep
  pub past : List TraceStep
  pub is : h ≡ later ++ call ∷ (between ++ asked ∷ past)
  pub owner : asked.client ≡ e.client
  pub caller : call.client ≡ e.client
  pub stores : asked.input ≡ input.Object (object.Store name content)
  pub quiet : NoStepOf e.client between
  pub sends : (move_of g (between ++ asked ∷ past) call).sends ≡ Some (Invokes e.seq e.op)
  pub puts_it : e.op ≡ op.Put name (reference_of content)

-- a step in which a client took a payload
abbrev pub IsTaken : Input → Type 0
IsTaken (input.Call o) = ⊥
IsTaken (input.Object c) = ⊥
IsTaken input.Poll = ⊥
IsTaken input.Sync = ⊥
IsTaken (input.Payload payload) = Unit {0}

-- a client was asked for nothing
abbrev pub NoAskOf : ℕ → List TraceStep → Type 0
NoAskOf me [] = Unit {0}
NoAskOf me (x ∷ h) = (x.client ≡ me → IsTaken x.input) × NoAskOf me h

-- a step after this past that returned a content to a load: the load is the last thing that its client was asked for, its get stands in
-- the client's view, and the last done store of that name before it stored this content
pub record LoadsLast (g : Group) (h past : List TraceStep) (client : ℕ) (content : List ℕ) : Type 0 where
  pub name : List ℕ
  pub between : List TraceStep
  pub asked : TraceStep
  pub before : List TraceStep
  pub since : past ≡ between ++ asked ∷ before
  pub loader : asked.client ≡ client
  pub loads : asked.input ≡ input.Object (object.Load name)
  pub alone : NoAskOf client between
  pub newer : List Shown
  pub get : Shown
  pub older : List Shown
  pub view : view_of g client h ≡ newer ++ get ∷ older
  pub own : get.entry.client ≡ client
  pub called : (move_of g before asked).sends ≡ Some (Invokes get.entry.seq (op.Get name))
  pub gets : get.entry.op ≡ op.Get name
  pub found : get.outcome ≡ outcome.Done (answer.Found (reference_of content))
  pub stored : Shown
  pub last : last_put name older ≡ Some stored
  pub by_store : IsStore g h stored.entry name content

-- unless a tag was forged or two texts collide, each content that a load returned is that of the last done store of its name before the
-- load's get, in its client's view
abbrev pub LoadsGetTheLastIn : Group → List TraceStep → Type 0
LoadsGetTheLastIn g h = g.mode ≡ mode.Objects → (IsForged g h → ⊥) → (Collides g h → ⊥)
    → (later : List TraceStep) (x : TraceStep) (past : List TraceStep) → h ≡ later ++ x ∷ past → (content : List ℕ) → x.object ≡ Some (ended.Content content)
    → LoadsLast g h past x.client content

abbrev pub LoadsGetTheLast : Type 0
LoadsGetTheLast = (g : Group) (h : List TraceStep) → IsLawful g h → LoadsGetTheLastIn g h
