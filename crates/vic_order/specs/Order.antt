-- The order machine: what the server answers to a request, and what it is after it. The log has the newest entry first.
use Rattle.std.specs.Prelude.{ℕ, ◌+◌, ◌-◌, Bool, true, false, not, ◌&&◌, ◌||◌, List, [], ◌∷◌, ◌++◌, length, replicate, Option, Some, None, nat_eq, nat_lt, nat_le, if◌then◌else◌, slice_get, slice_set, min}
use Rattle.std.specs.List.{sum_by, find, list_any}
use Rattle.std.specs.Str.{bytes_eq}
use Rattle.std.specs.FinMap as map
use Rattle.vic_dict.specs.declared.limits.TheConstants.{MOST_CONTENTS, MOST_CONTENT_BYTES, MOST_ENTRIES, MOST_TOLD, MOST_UNSEALED, MOST_WEIGHT}
use Rattle.vic_dict.specs.declared.op.Op.{Op}
use Rattle.vic_dict.specs.declared.op.Op.TheVariants as op
use Rattle.vic_dict.specs.declared.op.Entry.{Entry}
use Rattle.vic_dict.specs.declared.op.Mode.{Mode}
use Rattle.vic_dict.specs.declared.op.Mode.TheVariants as mode
use Rattle.vic_dict.specs.Lists.{front, newest}
use Rattle.vic_dict.specs.Dictionary.{Dictionary, nothing, after}
use Rattle.vic_wire.specs.declared.refusal.TheConstants.{BEHIND, PENDING_FULL, WEIGHT_FULL, HISTORY_FULL, OUT_OF_ORDER, NOT_MEMBER, CONTENT_FULL}
use Rattle.vic_wire.specs.declared.message.Digest32.{Digest32}
use Rattle.vic_wire.specs.declared.message.Seal.{Seal}
use Rattle.vic_wire.specs.declared.message.Tagged.{Tagged}
use Rattle.vic_wire.specs.declared.message.ToServer.{ToServer}
use Rattle.vic_wire.specs.declared.message.ToServer.TheVariants as ask
use Rattle.vic_wire.specs.declared.message.ToClient.{ToClient}
use Rattle.vic_wire.specs.declared.message.ToClient.TheVariants as say
use Rattle.vic_wire.specs.Texts.{content_text}
use Rattle.vic_wire.specs.Hashes.{hash, empty_root}
use Rattle.vic_wire.specs.Reading.{read_request}
use Rattle.vic_wire.specs.Parts.{part_for, bare_part}
use Rattle.vic_rules.specs.Client.{first_failing, is_write}
use Rattle.vic_order.specs.declared.Stage.{Stage}
use Rattle.vic_order.specs.declared.Stage.TheVariants as stage

-- an entry that was ordered: its tag, and the sealed count when it was ordered. It never changes
pub record Ordered : Type 0 where
  -- the call
  pub entry : Entry
  -- the tag of its Invoke, untested
  pub tag : Digest32
  -- the position of the last seal when it was ordered
  pub sealed_then : ℕ

-- how the entry of a position was committed
pub record Committed : Type 0 where
  -- counted from 1
  pub position : ℕ
  -- done, or else aborted
  pub done : Bool
  -- the tag of its Commit, untested
  pub tag : Digest32

-- a client's last number and its stage
pub record Member : Type 0 where
  -- the number of its last call; 0 before the first
  pub last : ℕ
  -- whether it is in, and whether a call of it is open
  pub stage : Stage

pub record Server : Type 0 where
  -- plain, or with objects
  pub mode : Mode
  -- what was ordered, the newest first
  pub log : List Ordered
  -- how entries were committed, the newest first
  pub commits : List Committed
  -- one for each sealed position, the newest first
  pub seals : List Seal
  -- what the done calls up to the last seal leave
  pub dictionary : Dictionary
  -- contents that are kept, each once, the newest first
  pub contents : List (List ℕ)
  -- what it keeps of clients 1, 2 and so on
  pub members : List Member

abbrev pub away_member : Member
away_member = record { last = 0; stage = stage.Away }

abbrev pub ready_member : Member
ready_member = record { last = 0; stage = stage.Ready }

-- a server of so many clients, all in one stage
abbrev pub fresh_server : Mode → ℕ → Member → Server
fresh_server kind count m = record { mode = kind; log = []; commits = []; seals = []; dictionary = nothing; contents = []; members = replicate count m }

abbrev pub or_away : Option Member → Member
or_away (Some m) = m
or_away None = away_member

abbrev pub member : Server → ℕ → Member
member s i = or_away (slice_get s.members (i - 1))

abbrev pub set_member : Server → ℕ → Member → Server
set_member s i m = record s { members = slice_set s.members (i - 1) m }

abbrev pub set_stage : Server → ℕ → Stage → Server
set_stage s i k = set_member s i (record (member s i) { stage = k })

abbrev pub size : Server → ℕ
size s = length s.log

abbrev pub sealed_count : Server → ℕ
sealed_count s = length s.seals

-- the seal of a position
abbrev pub no_seal : Seal
no_seal = record { position = 0; root = record { bytes = empty_root }; tag = record { bytes = replicate 32 0 } }

abbrev pub or_no_seal : Option Seal → Seal
or_no_seal (Some x) = x
or_no_seal None = no_seal

abbrev pub seal_at_position : Server → ℕ → Seal
seal_at_position s n = or_no_seal (newest (front n s.seals))

abbrev pub top_seal : Server → Seal
top_seal s = seal_at_position s (sealed_count s)

-- the entry at a position
abbrev pub ordered_at : Server → ℕ → Option Ordered
ordered_at s n = if nat_lt (size s) n then None else newest (front n s.log)

-- how it was committed, if it was
abbrev pub commit_in : List Committed → ℕ → Option Bool
commit_in [] n = None
commit_in (c ∷ commits) n = if nat_eq c.position n then Some c.done else commit_in commits n

abbrev pub commit_at : Server → ℕ → Option Bool
commit_at s n = commit_in s.commits n

abbrev pub tagged_entry : Ordered → Tagged
tagged_entry o = record { entry = o.entry; tag = o.tag }

-- the entries above a position, the oldest first
unfoldable pub entries_above : ℕ → List Ordered → List Tagged
entries_above known [] = []
entries_above known (o ∷ log) = if nat_lt known (length (o ∷ log)) then entries_above known log ++ tagged_entry o ∷ [] else []

-- ---- weight

abbrev pub op_weight : Op → ℕ
op_weight (op.Put k v) = length k + length v + 16
op_weight (op.Get k) = 0
op_weight (op.Del k) = 0
op_weight (op.List p) = 0

-- the puts that aren't sealed
unfoldable pub unsealed_weight : ℕ → List Ordered → ℕ
unsealed_weight sealed [] = 0
unsealed_weight sealed (o ∷ log) = if nat_lt sealed (length (o ∷ log)) then op_weight o.entry.op + unsealed_weight sealed log else 0

abbrev pub weight : Server → ℕ
weight s = sum_by (λ p. length p.0 + length p.1 + 16) (map.entries s.dictionary) + unsealed_weight (sealed_count s) s.log

-- ---- answers

-- what the server is next, what it answers, and whether the request made a change
pub record Answered : Type 0 where
  -- the server afterwards
  pub next : Server
  -- what it answers
  pub answer : ToClient
  -- whether the request belongs to the changes of its history
  pub change : Bool

-- it answers, and stays as it is
abbrev pub answer_alone : Server → ToClient → Answered
answer_alone s a = record { next = s; answer = a; change = false }

-- it becomes another, and answers
abbrev pub answer_with_change : Server → ToClient → Answered
answer_with_change next a = record { next = next; answer = a; change = true }

-- the first test that fails gives the refusal's number; a refusal changes nothing
abbrev pub answer_unless_refused : Server → Option ℕ → Answered → Answered
answer_unless_refused s (Some r) a = answer_alone s (say.Refused r)
answer_unless_refused s None a = a

abbrev pub answer_by_tests : Server → List (ℕ × Bool) → Answered → Answered
answer_by_tests s tests a = answer_unless_refused s (first_failing tests) a

abbrev pub is_ready : Stage → Bool
is_ready stage.Ready = true
is_ready _ = false

abbrev pub is_away : Stage → Bool
is_away stage.Away = true
is_away _ = false

abbrev pub is_open_at : ℕ → Stage → Bool
is_open_at t (stage.Open u) = nat_eq u t
is_open_at t _ = false

abbrev pub is_inside : Stage → Bool
is_inside stage.Away = false
is_inside stage.Ready = true
is_inside (stage.Open t) = true
is_inside stage.Left = false

abbrev pub same_mode : Mode → Mode → Bool
same_mode mode.Plain mode.Plain = true
same_mode mode.Objects mode.Objects = true
same_mode _ _ = false

abbrev pub is_put : Op → Bool
is_put (op.Put k v) = true
is_put _ = false

-- the turn: the owner of the first entry that isn't sealed is told to seal it, once it has committed
abbrev pub update_part : Dictionary → Op → Bool → List ℕ
update_part d o done = if done && is_write o then part_for d o else bare_part d

abbrev pub turn_on : Server → ℕ → Option Ordered → Option Bool → ToClient
turn_on s who (Some o) (Some done) = if nat_eq o.entry.client who then say.Update (top_seal s) (update_part s.dictionary o.entry.op done) else say.Wait
turn_on s who o status = say.Wait

abbrev pub turn : Server → ℕ → ToClient
turn s who = turn_on s who (ordered_at s (sealed_count s + 1)) (commit_at s (sealed_count s + 1))

abbrev pub with_commit : Server → ℕ → Bool → Digest32 → Server
with_commit s t done tag = record s { commits = record { position = t; done = done; tag = tag } ∷ s.commits }

abbrev pub owns_committed : ℕ → Option Ordered → Option Bool → Bool
owns_committed who (Some o) (Some done) = nat_eq o.entry.client who
owns_committed who o status = false

abbrev pub applied_to : Dictionary → Option Ordered → Option Bool → Dictionary
applied_to d (Some o) (Some done) = if done then after d o.entry.op else d
applied_to d o status = d

abbrev pub with_seal : Server → Seal → Server
with_seal s x = record s { seals = x ∷ s.seals; dictionary = applied_to s.dictionary (ordered_at s x.position) (commit_at s x.position) }

abbrev pub is_kept : List (List ℕ) → List ℕ → Bool
is_kept contents h = list_any (λ c. bytes_eq (hash (content_text c)) h) contents

abbrev pub content_with : List (List ℕ) → List ℕ → ToClient
content_with contents h = elim (find (λ c. bytes_eq (hash (content_text c)) h) contents) [ Some c ↦ say.Content c | None ↦ say.Absent ]

abbrev pub ordered_next : Server → ℕ → ℕ → Op → Digest32 → Server
ordered_next s who seq o tag =
    set_member (record s { log = record { entry = record { client = who; seq = seq; op = o }; tag = tag; sealed_then = sealed_count s } ∷ s.log })
    who (record { last = seq; stage = stage.Open (size s + 1) })

-- what a call has to pass where it comes in its order: entries in all, entries that aren't sealed, weight, and entries that its
-- client hasn't seen
abbrev pub limit_tests : Server → ℕ → Op → List (ℕ × Bool)
limit_tests s known o =
    (HISTORY_FULL, not (nat_eq (size s) MOST_ENTRIES))
    ∷ (PENDING_FULL, not (nat_eq (size s - sealed_count s) MOST_UNSEALED))
    ∷ (WEIGHT_FULL, not (is_put o) || nat_le (weight s + op_weight o) MOST_WEIGHT)
    ∷ (BEHIND, nat_le (size s + 1 - known) MOST_TOLD) ∷ []

-- what an Invoke has to pass: its order, and then the limits
abbrev pub invoke_tests : Server → ℕ → ℕ → ℕ → Op → List (ℕ × Bool)
invoke_tests s who known seq o =
    (OUT_OF_ORDER, is_ready (member s who).stage && (nat_lt (member s who).last seq && nat_le known (size s)))
    ∷ limit_tests s known o

-- a request of a client that has come in
abbrev pub on_request : Server → ℕ → ToServer → Answered
on_request s who (ask.Hello kind client) = answer_alone s (say.Refused OUT_OF_ORDER)
on_request s who (ask.Invoke known seq o tag) =
    answer_by_tests s (invoke_tests s who known seq o)
    (let next = ordered_next s who seq o tag in answer_with_change next (say.Reply (top_seal s) (entries_above known next.log) (part_for s.dictionary o)))
on_request s who (ask.Commit position done tag) =
    answer_by_tests s ((OUT_OF_ORDER, is_open_at position (member s who).stage) ∷ [])
    (let next = set_stage (with_commit s position done tag) who stage.Ready in answer_with_change next (turn next who))
on_request s who ask.Poll = answer_by_tests s ((OUT_OF_ORDER, is_ready (member s who).stage) ∷ []) (answer_alone s (turn s who))
on_request s who (ask.Seal position root tag) =
    answer_by_tests s ((OUT_OF_ORDER, is_ready (member s who).stage && (nat_eq position (sealed_count s + 1) && owns_committed who (ordered_at s position) (commit_at s position))) ∷ [])
    (let next = with_seal s (record { position = position; root = root; tag = tag }) in answer_with_change next (turn next who))
on_request s who (ask.Sync known) =
    let e = min (size s) (known + MOST_TOLD) in
    answer_by_tests s ((OUT_OF_ORDER, is_ready (member s who).stage && nat_le known (size s)) ∷ [])
    (answer_alone s (say.Entries (seal_at_position s (min (sealed_count s) e)) (entries_above known (front e s.log))))
on_request s who (ask.Keep content) =
    answer_by_tests s ((OUT_OF_ORDER, is_ready (member s who).stage && same_mode s.mode mode.Objects) ∷ [])
    (if is_kept s.contents (hash (content_text content)) then answer_alone s say.Kept
    else answer_by_tests s ((CONTENT_FULL, not (nat_le MOST_CONTENTS (length s.contents)) && nat_le (sum_by length s.contents + length content) MOST_CONTENT_BYTES) ∷ [])
    (answer_with_change (record s { contents = content ∷ s.contents }) say.Kept))
on_request s who (ask.Fetch h) =
    answer_by_tests s ((OUT_OF_ORDER, is_ready (member s who).stage && same_mode s.mode mode.Objects) ∷ []) (answer_alone s (content_with s.contents h.bytes))
on_request s who ask.Bye = answer_by_tests s ((OUT_OF_ORDER, is_ready (member s who).stage) ∷ []) (answer_with_change (set_stage s who stage.Left) say.Gone)

abbrev pub on_hello : Server → ℕ → Mode → ℕ → Answered
on_hello s who kind client =
    answer_by_tests s ((OUT_OF_ORDER, nat_eq who 0) ∷ (NOT_MEMBER, nat_lt 0 client && (nat_le client (length s.members) && (same_mode kind s.mode && is_away (member s client).stage))) ∷ [])
    (answer_with_change (set_stage s client stage.Ready) say.Hi)

abbrev pub is_member : Server → ℕ → Bool
is_member s who = nat_lt 0 who && (nat_le who (length s.members) && is_inside (member s who).stage)

abbrev pub serve_read : Server → ℕ → Option ToServer → Answered
serve_read s who None = answer_alone s (say.Refused OUT_OF_ORDER)
serve_read s who (Some (ask.Hello kind client)) = on_hello s who kind client
serve_read s who (Some r) = answer_by_tests s ((NOT_MEMBER, is_member s who) ∷ []) (on_request s who r)

-- one request served
unfoldable pub serve : Server → ℕ → List ℕ → Answered
serve s who payload = serve_read s who (read_request payload)
