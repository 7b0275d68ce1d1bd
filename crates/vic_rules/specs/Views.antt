-- What a client's view is, and what is said of views. A view has the newest call first.
use Rattle.std.specs.Prelude.{◌≡◌, ℕ, Bool, ◌&&◌, List, [], ◌∷◌, ◌++◌, Option, Some, None, nat_eq, if◌then◌else◌, count_by}
use Rattle.vic_dict.specs.Lists.{IsIn}
use Rattle.std.specs.Cmp.Lexicographic.{pointwise}
use Rattle.vic_dict.specs.declared.op.Outcome.{Outcome}
use Rattle.vic_dict.specs.declared.op.Outcome.TheVariants as outcome
use Rattle.vic_dict.specs.declared.op.Entry.{Entry}
use Rattle.vic_dict.specs.Dictionary.{Dictionary, nothing, reply, after}
use Rattle.vic_wire.specs.Hashes.{Group}
use Rattle.vic_rules.specs.declared.trace.Input.{Input}
use Rattle.vic_rules.specs.declared.trace.Input.TheVariants as input
use Rattle.vic_rules.specs.declared.trace.TraceStep.{TraceStep}
use Rattle.vic_rules.specs.declared.trace.Shown.{Shown}
use Rattle.vic_rules.specs.Client.{same_entry, Invokes}
use Rattle.vic_rules.specs.Objects.{op_of_object}
use Rattle.vic_dict.specs.declared.op.Op.{Op}
use Rattle.vic_rules.specs.History.{move_of, Completion, completions}

abbrev pub or_else : Option Completion → Option Completion → Option Completion
or_else (Some c) other = Some c
or_else None other = other

-- how the owner of a path's last entry completed that call on this very path, if it did: the oldest such completion
unfoldable pub confirmation : List Completion → List Entry → Option Completion
confirmation [] p = None
confirmation (c ∷ cs) p = or_else (confirmation cs p) (if pointwise same_entry c.prefix p then Some c else None)

abbrev pub shown_as : Entry → Option Completion → List Shown
shown_as e None = []
shown_as e (Some c) = record { entry = e; outcome = c.outcome } ∷ []

-- the confirmed positions of a path
unfoldable pub confirmed_calls : List Completion → List Entry → List Shown
confirmed_calls cs [] = []
confirmed_calls cs (e ∷ p) = shown_as e (confirmation cs (e ∷ p)) ++ confirmed_calls cs p

-- the path up to the client's last completed call
unfoldable pub last_prefix : ℕ → List Completion → List Entry
last_prefix me [] = []
last_prefix me (c ∷ cs) = if nat_eq c.client me then c.prefix else last_prefix me cs

-- a client's view after a history
unfoldable pub view_of : Group → ℕ → List TraceStep → List Shown
view_of g me h = confirmed_calls (completions g h) (last_prefix me (completions g h))

abbrev pub outcome_leaves : Dictionary → Shown → Outcome → Dictionary
outcome_leaves d x (outcome.Done a) = after d x.entry.op
outcome_leaves d x _ = d

-- the dictionary that a view leaves, from the empty one
unfoldable pub left_by : List Shown → Dictionary
left_by [] = nothing
left_by (x ∷ v) = outcome_leaves (left_by v) x x.outcome

abbrev pub Explains : Dictionary → Shown → Outcome → Type 0
Explains d x (outcome.Done a) = a ≡ reply d x.entry.op
Explains d x (outcome.Aborted u) = Unit {0}
Explains d x (outcome.Refused r) = ⊥
Explains d x (outcome.Halted k) = ⊥

-- each answer is that of a dictionary after the calls before it, aborted ones without effect
abbrev pub IsLegal : List Shown → Type 0
IsLegal [] = Unit {0}
IsLegal (x ∷ v) = IsLegal v × Explains (left_by v) x x.outcome

-- ---- calls and their answers, as a history has them

-- two entries of one call
abbrev pub IsSameCall : Entry → Entry → Type 0
IsSameCall a b = (a.client ≡ b.client) × (a.seq ≡ b.seq)

-- the call of this entry's client and number was sent at a step, with some operation
pub record MakesCall (g : Group) (past : List TraceStep) (x : TraceStep) (e : Entry) : Type 0 where
  pub client : x.client ≡ e.client
  pub op : Op
  pub sends : (move_of g past x).sends ≡ Some (Invokes e.seq op)

-- what a client is asked for comes to the call of an operation: it is that call, or a call on objects with this operation
abbrev pub AsksFor : Input → Op → Type 0
AsksFor (input.Call o) q = o ≡ q
AsksFor (input.Object c) q = op_of_object c ≡ q
AsksFor input.Poll q = ⊥
AsksFor input.Sync q = ⊥
AsksFor (input.Payload payload) q = ⊥

-- no step of this client
abbrev pub NoStepOf : ℕ → List TraceStep → Type 0
NoStepOf me [] = Unit {0}
NoStepOf me (x ∷ h) = (x.client ≡ me → ⊥) × NoStepOf me h

-- the call of an entry was made at a step with its operation, and at its client's next step it returned this outcome
pub record IsAnswered (g : Group) (h : List TraceStep) (e : Entry) (o : Outcome) : Type 0 where
  pub later : List TraceStep
  pub answer : TraceStep
  pub between : List TraceStep
  pub call : TraceStep
  pub past : List TraceStep
  pub is : h ≡ later ++ answer ∷ (between ++ call ∷ past)
  pub makes : MakesCall g past call e
  pub asked : (move_of g past call).sends ≡ Some (Invokes e.seq e.op)
  pub quiet : NoStepOf e.client between
  pub owner : answer.client ≡ e.client
  pub returned : answer.returned ≡ Some o

abbrev pub IsCompleted : Outcome → Type 0
IsCompleted (outcome.Done a) = Unit {0}
IsCompleted (outcome.Aborted u) = Unit {0}
IsCompleted (outcome.Refused r) = ⊥
IsCompleted (outcome.Halted k) = ⊥

-- ---- what is said of views

abbrev pub is_call : Entry → Shown → Bool
is_call e x = nat_eq x.entry.client e.client && nat_eq x.entry.seq e.seq

-- each call that the client made and completed stands once, as it was answered
abbrev pub HasAll : Group → ℕ → List TraceStep → List Shown → Type 0
HasAll g me h v = (e : Entry) (o : Outcome) → e.client ≡ me → IsCompleted o → IsAnswered g h e o
    → IsIn v (record { entry = e; outcome = o }) × (count_by (is_call e) v ≡ 1)

-- it shows nothing that its owner didn't call and didn't return
abbrev pub ShowsOnlyCalls : Group → List TraceStep → List Shown → Type 0
ShowsOnlyCalls g h v = (x : Shown) → IsIn v x → IsAnswered g h x.entry x.outcome

-- the one call had returned before the other was made
pub record ReturnedBefore (g : Group) (h : List TraceStep) (a b : Shown) : Type 0 where
  pub later : List TraceStep
  pub x : TraceStep
  pub past : List TraceStep
  pub is : h ≡ later ++ x ∷ past
  pub makes : MakesCall g past x b.entry
  pub returned : IsAnswered g past a.entry a.outcome

-- the one stands earlier in the view
pub record Earlier (v : List Shown) (a b : Shown) : Type 0 where
  pub newer : List Shown
  pub between : List Shown
  pub older : List Shown
  pub is : v ≡ newer ++ b ∷ (between ++ a ∷ older)

abbrev pub IsInRealTime : Group → List TraceStep → List Shown → Type 0
IsInRealTime g h v = (a b : Shown) → IsIn v a → IsIn v b → ReturnedBefore g h a b → Earlier v a b

-- up to each call that stands in both, the two are the same. (This comes of what a view is; the strength of the claim lies
-- in legality together with completeness)
abbrev pub Agree : List Shown → List Shown → Type 0
Agree v w = (x y : Shown) (newer1 older1 newer2 older2 : List Shown) → v ≡ newer1 ++ x ∷ older1 → w ≡ newer2 ++ y ∷ older2
    → IsSameCall x.entry y.entry → ◌≡◌ {A = List Shown} (x ∷ older1) (y ∷ older2)
