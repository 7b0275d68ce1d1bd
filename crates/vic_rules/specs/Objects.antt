-- What a call on objects does, step by step.
use Rattle.std.specs.Prelude.{ℕ, ◌≤◌, Bool, true, false, ◌&&◌, List, ◌++◌, length, take, drop, Option, Some, None, nat_eq, if◌then◌else◌}
use Rattle.std.specs.Int.{w32, to_be_bytes, from_be_bytes}
use Rattle.std.specs.Str.{bytes_eq}
use Rattle.vic_dict.specs.declared.limits.TheConstants.{LONGEST_CONTENT, LONGEST_KEY}
use Rattle.vic_dict.specs.Lists.{AreBytes}
use Rattle.vic_dict.specs.Dictionary.{IsKey}
use Rattle.vic_dict.specs.declared.op.Op.{Op}
use Rattle.vic_dict.specs.declared.op.Op.TheVariants as op
use Rattle.vic_dict.specs.declared.op.Answer.{Answer}
use Rattle.vic_dict.specs.declared.op.Answer.TheVariants as answer
use Rattle.vic_dict.specs.declared.op.Outcome.{Outcome}
use Rattle.vic_dict.specs.declared.op.Outcome.TheVariants as outcome
use Rattle.vic_wire.specs.Texts.{content_text}
use Rattle.vic_wire.specs.Hashes.{hash}
use Rattle.vic_rules.specs.declared.object.ObjectCall.{ObjectCall}
use Rattle.vic_rules.specs.declared.object.ObjectCall.TheVariants as object
use Rattle.vic_rules.specs.declared.object.ObjectOutcome.{ObjectOutcome}
use Rattle.vic_rules.specs.declared.object.ObjectOutcome.TheVariants as ended
use Rattle.vic_rules.specs.declared.object.Phase.{Phase}
use Rattle.vic_rules.specs.declared.object.Phase.TheVariants as phase
use Rattle.vic_rules.specs.declared.object.Next.{Next}
use Rattle.vic_rules.specs.declared.object.Next.TheVariants as next

-- the texts of a call on objects are within the limits, and their numbers are bytes
abbrev pub FitsObject : ObjectCall → Type 0
FitsObject (object.Store k c) = IsKey k × (length c ≤ LONGEST_CONTENT)
FitsObject (object.Load k) = IsKey k
FitsObject (object.Erase k) = IsKey k
FitsObject (object.Names p) = length p ≤ LONGEST_KEY

abbrev pub AreBytesInObject : ObjectCall → Type 0
AreBytesInObject (object.Store k c) = AreBytes k × AreBytes c
AreBytesInObject (object.Load k) = AreBytes k
AreBytesInObject (object.Erase k) = AreBytes k
AreBytesInObject (object.Names p) = AreBytes p

-- ---- references

-- the hash of a content
abbrev pub content_hash : List ℕ → List ℕ
content_hash c = hash (content_text c)

-- a reference: the hash of a content, and its length in four bytes
abbrev pub reference_text : List ℕ → ℕ → List ℕ
reference_text h len = h ++ to_be_bytes w32 len

abbrev pub reference_of : List ℕ → List ℕ
reference_of c = reference_text (content_hash c) (length c)

-- every value of 36 bytes is read as a reference, and no other value is one
abbrev pub is_reference : List ℕ → Bool
is_reference v = nat_eq (length v) 36

abbrev pub hash_in : List ℕ → List ℕ
hash_in v = take 32 v

abbrev pub length_in : List ℕ → ℕ
length_in v = from_be_bytes w32 (drop 32 v)

-- a content has this hash and this length
abbrev pub is_content_of : List ℕ → ℕ → List ℕ → Bool
is_content_of h len c = nat_eq (length c) len && bytes_eq (content_hash c) h

-- ---- the steps

-- the operation of a call on objects
abbrev pub op_of_object : ObjectCall → Op
op_of_object (object.Store k c) = op.Put k (reference_of c)
op_of_object (object.Load k) = op.Get k
op_of_object (object.Erase k) = op.Del k
op_of_object (object.Names p) = op.List p

-- where a call stands, and what it does next
abbrev pub ObjectStep : Type 0
ObjectStep = Phase × Next

-- a store sends its content first; the others call at once
abbrev pub first_step : ObjectCall → ObjectStep
first_step (object.Store k c) = (phase.Keeping k (record { bytes = content_hash c }) (length c), next.Keep c)
first_step (object.Load k) = (phase.Calling, next.Call (op.Get k))
first_step (object.Erase k) = (phase.Calling, next.Call (op.Del k))
first_step (object.Names p) = (phase.Calling, next.Call (op.List p))

-- the content of a store is kept: its reference is put under its name
abbrev pub step_on_kept : Phase → ObjectStep
step_on_kept (phase.Keeping k h len) = (phase.Calling, next.Call (op.Put k (reference_text h.bytes len)))
step_on_kept p = (p, next.Bad)

-- its operation was answered: a load that found a reference fetches the content; else the call is over
abbrev pub step_on_answer : Answer → ObjectStep
step_on_answer answer.Stored = (phase.Closed, next.Return ended.Stored)
step_on_answer (answer.Found v) =
    if is_reference v then (phase.Fetching (record { bytes = hash_in v }) (length_in v), next.Fetch (record { bytes = hash_in v }) (length_in v))
    else (phase.Closed, next.Bad)
step_on_answer answer.NotFound = (phase.Closed, next.Return ended.Missing)
step_on_answer answer.Removed = (phase.Closed, next.Return ended.Removed)
step_on_answer answer.Absent = (phase.Closed, next.Return ended.Absent)
step_on_answer (answer.Names names) = (phase.Closed, next.Return (ended.Names names))

abbrev pub step_on_outcome : Outcome → ObjectStep
step_on_outcome (outcome.Done a) = step_on_answer a
step_on_outcome (outcome.Aborted u) = (phase.Closed, next.Return (ended.Aborted u))
step_on_outcome (outcome.Refused r) = (phase.Closed, next.Return (ended.Refused r))
step_on_outcome (outcome.Halted k) = (phase.Closed, next.Bad)

-- the operation that was called is decided; out of turn that is bad, and the call stands where it stood
abbrev pub step_on_decision : Phase → Outcome → ObjectStep
step_on_decision phase.Closed o = (phase.Closed, next.Bad)
step_on_decision (phase.Keeping k h len) o = (phase.Keeping k h len, next.Bad)
step_on_decision phase.Calling o = step_on_outcome o
step_on_decision (phase.Fetching h len) o = (phase.Fetching h len, next.Bad)

-- a content that was to be kept, or an operation that was called, is refused
abbrev pub step_on_refusal : Phase → ℕ → ObjectStep
step_on_refusal phase.Closed r = (phase.Closed, next.Bad)
step_on_refusal (phase.Keeping k h len) r = step_on_outcome (outcome.Refused r)
step_on_refusal phase.Calling r = step_on_outcome (outcome.Refused r)
step_on_refusal (phase.Fetching h len) r = (phase.Fetching h len, next.Bad)

-- the answer to a Fetch: the content with the hash and the length of the reference, or it is bad
abbrev pub step_on_content : Phase → Option (List ℕ) → ObjectStep
step_on_content phase.Closed c = (phase.Closed, next.Bad)
step_on_content (phase.Keeping k h len) c = (phase.Keeping k h len, next.Bad)
step_on_content phase.Calling c = (phase.Calling, next.Bad)
step_on_content (phase.Fetching h len) None = (phase.Closed, next.Bad)
step_on_content (phase.Fetching h len) (Some c) = if is_content_of h.bytes len c then (phase.Closed, next.Return (ended.Content c)) else (phase.Closed, next.Bad)

-- the outcome with which a call is over, if it is
abbrev pub final_outcome : Next → Option ObjectOutcome
final_outcome (next.Return o) = Some o
final_outcome (next.Keep c) = None
final_outcome (next.Call o) = None
final_outcome (next.Fetch h len) = None
final_outcome next.Bad = None

-- whether the call of an operation belongs to a call on objects
abbrev pub is_calling : Phase → Bool
is_calling phase.Calling = true
is_calling phase.Closed = false
is_calling (phase.Keeping k h len) = false
is_calling (phase.Fetching h len) = false

-- where a decided call leaves the call on objects that it belongs to, and what that returns
abbrev pub after_decision : Phase → Outcome → Phase
after_decision p o = if is_calling p then (step_on_outcome o).0 else p

abbrev pub outcome_after_decision : Phase → Outcome → Option ObjectOutcome
outcome_after_decision p o = if is_calling p then final_outcome (step_on_outcome o).1 else None
