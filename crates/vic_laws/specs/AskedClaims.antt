-- What a client calls is what it was asked for, and it calls what it is asked for.
use Rattle.std.specs.Prelude.{◌≡◌, ℕ, suc, ◌+◌, List, [], ◌∷◌, ◌++◌, Option, Some, None, ◌⊎◌, nat_eq, if◌then◌else◌}
use Rattle.vic_dict.specs.declared.op.Op.{Op}
use Rattle.vic_dict.specs.declared.op.Op.TheVariants as op
use Rattle.vic_wire.specs.declared.message.ToClient.TheVariants as say
use Rattle.vic_wire.specs.Hashes.{Group}
use Rattle.vic_rules.specs.declared.object.ObjectCall.TheVariants as object
use Rattle.vic_rules.specs.declared.trace.Input.TheVariants as input
use Rattle.vic_rules.specs.declared.trace.TraceStep.{TraceStep}
use Rattle.vic_rules.specs.Client.{Sending, Invokes, Commits, Polls, Seals, Syncs, Keeps, Fetches}
use Rattle.vic_rules.specs.Objects.{reference_of}
use Rattle.vic_rules.specs.History.{IsLawful, move_of}
use Rattle.vic_rules.specs.Views.{NoStepOf, AsksFor}
use Rattle.vic_rules.specs.Trust.{answer_taken}

-- a client's last step was to be asked for a store, whose put this operation is
pub record StoresBefore (past : List TraceStep) (client : ℕ) (o : Op) : Type 0 where
  pub between : List TraceStep
  pub asked : TraceStep
  pub before : List TraceStep
  pub since : past ≡ between ++ asked ∷ before
  pub quiet : NoStepOf client between
  pub owner : asked.client ≡ client
  pub name : List ℕ
  pub content : List ℕ
  pub stores : asked.input ≡ input.Object (object.Store name content)
  pub is : o ≡ op.Put name (reference_of content)

-- how many of a client's steps called an operation
abbrev pub one_call : Option Sending → ℕ
one_call None = 0
one_call (Some (Invokes seq o)) = 1
one_call (Some (Commits done)) = 0
one_call (Some Polls) = 0
one_call (Some Seals) = 0
one_call (Some Syncs) = 0
one_call (Some (Keeps content)) = 0
one_call (Some (Fetches h)) = 0

unfoldable pub calls_made : Group → ℕ → List TraceStep → ℕ
calls_made g me [] = 0
calls_made g me (x ∷ past) = if nat_eq x.client me then one_call (move_of g past x).sends + calls_made g me past else calls_made g me past

-- a call of an operation at a step: its number is one more than the count of its client's calls before, and the client is asked for the
-- operation at this step, or it was asked at its step before for the store whose put it is
pub record IsAskedCall (g : Group) (past : List TraceStep) (x : TraceStep) (seq : ℕ) (o : Op) : Type 0 where
  pub number : seq ≡ suc (calls_made g x.client past)
  pub asked : AsksFor x.input o ⊎ StoresBefore past x.client o

-- a client calls an operation at the step at which it is asked for it, or it calls the put of a store that it was asked for at the step
-- before; and it numbers its calls one after the other, from 1
abbrev pub CallsAreAskedIn : Group → List TraceStep → Type 0
CallsAreAskedIn g h = (later : List TraceStep) (x : TraceStep) (past : List TraceStep) → h ≡ later ++ x ∷ past
    → (seq : ℕ) (o : Op) → (move_of g past x).sends ≡ Some (Invokes seq o) → IsAskedCall g past x seq o

abbrev pub CallsAreAsked : Type 0
CallsAreAsked = (g : Group) (h : List TraceStep) → IsLawful g h → CallsAreAskedIn g h

-- what a step sends at which its client is asked for a call: the call of this operation, with the next number; for a store, its content.
-- And once the content is kept, the call of the store's put
pub record CallsWhatItIsAsked (g : Group) (past : List TraceStep) (x : TraceStep) : Type 0 where
  pub call : (o : Op) → x.input ≡ input.Call o → (move_of g past x).sends ≡ Some (Invokes (suc (calls_made g x.client past)) o)
  pub load : (name : List ℕ) → x.input ≡ input.Object (object.Load name) → (move_of g past x).sends ≡ Some (Invokes (suc (calls_made g x.client past)) (op.Get name))
  pub erase : (name : List ℕ) → x.input ≡ input.Object (object.Erase name) → (move_of g past x).sends ≡ Some (Invokes (suc (calls_made g x.client past)) (op.Del name))
  pub names : (prefix : List ℕ) → x.input ≡ input.Object (object.Names prefix) → (move_of g past x).sends ≡ Some (Invokes (suc (calls_made g x.client past)) (op.List prefix))
  pub store : (name content : List ℕ) → x.input ≡ input.Object (object.Store name content) → (move_of g past x).sends ≡ Some (Keeps content)
  pub put : answer_taken g past x ≡ Some say.Kept → (o : Op) × ((move_of g past x).sends ≡ Some (Invokes (suc (calls_made g x.client past)) o)) × StoresBefore past x.client o

-- a client that is asked for a call makes it at that step, and the put of a store at the step at which it took that the content is kept
abbrev pub AskedAreCalled : Type 0
AskedAreCalled = (g : Group) (h : List TraceStep) → IsLawful g h → (later : List TraceStep) (x : TraceStep) (past : List TraceStep) → h ≡ later ++ x ∷ past
    → CallsWhatItIsAsked g past x
