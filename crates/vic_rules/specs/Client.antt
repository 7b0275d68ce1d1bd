-- What a client does with a call and with a payload. Paths and lists of steps have the newest first.
use Rattle.std.specs.Prelude.{◌≡◌, ℕ, ◌+◌, ◌-◌, ◌<◌, ◌^◌, Bool, true, false, not, ◌&&◌, ◌||◌, List, [], ◌∷◌, ◌++◌, length, Option, Some, None, is_some, is_none, nat_eq, nat_lt, nat_le, if◌then◌else◌, IsTrue}
use Rattle.std.specs.List.{list_all, filter, fold}
use Rattle.std.specs.Str.{bytes_eq}
use Rattle.vic_dict.specs.declared.limits.TheConstants.{MOST_ENTRIES, MOST_UNSEALED}
use Rattle.vic_dict.specs.declared.op.Op.{Op}
use Rattle.vic_dict.specs.declared.op.Op.TheVariants as op
use Rattle.vic_dict.specs.declared.op.Outcome.{Outcome}
use Rattle.vic_dict.specs.declared.op.Outcome.TheVariants as outcome
use Rattle.vic_dict.specs.declared.op.Entry.{Entry}
use Rattle.vic_dict.specs.declared.op.Mode.TheVariants as mode
use Rattle.vic_dict.specs.Lists.{AreBytes, front}
use Rattle.vic_dict.specs.Dictionary.{Dictionary, Fits, AreBytesIn, reply, after}
use Rattle.vic_wire.specs.declared.message.Digest32.{Digest32}
use Rattle.vic_wire.specs.declared.message.Seal.{Seal}
use Rattle.vic_wire.specs.declared.message.Tagged.{Tagged}
use Rattle.vic_wire.specs.declared.message.ToServer.{ToServer}
use Rattle.vic_wire.specs.declared.message.ToServer.TheVariants as ask
use Rattle.vic_wire.specs.declared.message.ToClient.{ToClient}
use Rattle.vic_wire.specs.declared.message.ToClient.TheVariants as say
use Rattle.vic_wire.specs.Texts.{invoke_text, commit_text, seal_text}
use Rattle.vic_wire.specs.Hashes.{Group, chain, tag_of, empty_root}
use Rattle.vic_wire.specs.Conflict.{conflicts}
use Rattle.vic_wire.specs.Messages.{request_text}
use Rattle.vic_wire.specs.Reading.{read_answer}
use Rattle.vic_dict.specs.declared.op.Answer.TheVariants as answer
use Rattle.vic_rules.specs.declared.check.TheConstants.{FORM, MEMBERS, INVOKE_TAG, BASE_BACK, SEAL_TAG, OWN_UNSETTLED, PROOF, TURN, CONTENT}
use Rattle.vic_rules.specs.declared.object.ObjectCall.{ObjectCall}
use Rattle.vic_rules.specs.declared.object.ObjectCall.TheVariants as object
use Rattle.vic_rules.specs.declared.object.ObjectOutcome.{ObjectOutcome}
use Rattle.vic_rules.specs.declared.object.ObjectOutcome.TheVariants as ended
use Rattle.vic_rules.specs.declared.object.Phase.{Phase}
use Rattle.vic_rules.specs.declared.object.Phase.TheVariants as phase
use Rattle.vic_rules.specs.declared.object.Next.TheVariants as next
use Rattle.vic_rules.specs.Objects.{FitsObject, AreBytesInObject, is_reference, is_content_of, first_step, step_on_kept, ObjectStep, after_decision, outcome_after_decision}
use Rattle.vic_rules.specs.declared.state.Own.{Own}
use Rattle.vic_rules.specs.declared.state.Awaiting.{Awaiting}
use Rattle.vic_rules.specs.declared.state.Awaiting.TheVariants as awaits
use Rattle.vic_rules.specs.declared.trace.Input.{Input}
use Rattle.vic_rules.specs.declared.trace.Input.TheVariants as input
use Rattle.vic_wire.specs.Parts.{Part, read_part, part_root, reaches, walked, root_after}

-- ---- the state

-- where a client stands: its path (the newest entry first), its highest seal (position and root), its own calls that
-- aren't sealed (the oldest first), what it awaits, how often it has invoked, how far its call on objects has come, and the check
-- at which it halted
pub record Standing : Type 0 where
  -- all entries that it took, the newest first
  pub path : List Entry
  -- the position of the highest seal; 0 before the first
  pub sealed : ℕ
  -- the root of that seal
  pub root : List ℕ
  -- its own calls that it has decided and not sealed, the oldest first
  pub own : List Own
  -- the answer that it awaits, if one
  pub awaiting : Awaiting
  -- how many calls it has made
  pub calls : ℕ
  -- how far its call on objects has come
  pub phase : Phase
  -- the check at which it halted, if it did
  pub halted : Option ℕ

abbrev pub at_start : Standing
at_start = record { path = []; sealed = 0; root = empty_root; own = []; awaiting = awaits.Nothing; calls = 0; phase = phase.Closed; halted = None }

-- the path with the entries of an answer put onto it, one after the other
abbrev pub onto : List Tagged → List Entry → List Entry
onto [] p = p
onto (t ∷ ts) p = onto ts (t.entry ∷ p)

abbrev pub newest_first : List Tagged → List Entry
newest_first ts = onto ts []

abbrev pub path_with_entries : Standing → List Tagged → List Entry
path_with_entries s ts = onto ts s.path

-- ---- the decision

abbrev pub is_write : Op → Bool
is_write (op.Put k v) = true
is_write (op.Get k) = false
is_write (op.Del k) = true
is_write (op.List p) = false

abbrev pub or_this : Option ℕ → Option ℕ → Option ℕ
or_this (Some u) other = Some u
or_this None other = other

-- the least position above base at which the test finds the entry
unfoldable pub least_above : ℕ → (ℕ → Entry → Bool) → List Entry → Option ℕ
least_above base test [] = None
least_above base test (e ∷ path) =
    or_this (least_above base test path) (if nat_lt base (length (e ∷ path)) && test (length (e ∷ path)) e then Some (length (e ∷ path)) else None)

-- another client's entry that conflicts with the operation
abbrev pub is_in_the_way : ℕ → Op → ℕ → Entry → Bool
is_in_the_way me o position e = not (nat_eq e.client me) && conflicts e.op o

-- the least position above base whose entry is another client's and conflicts
abbrev pub in_the_way : ℕ → Op → ℕ → List Entry → Option ℕ
in_the_way me o base path = least_above base (is_in_the_way me o) path

abbrev pub done_op : Dictionary → Own → Dictionary
done_op d o = if o.done then after d o.op else d

-- the part's dictionary with the own done calls above base laid over it, in order
abbrev pub own_calls_over : List Own → ℕ → Dictionary → Dictionary
own_calls_over own base d = fold done_op d (filter (λ o. nat_lt base o.position) own)

abbrev pub decided_outcome : Option ℕ → Dictionary → Op → Outcome
decided_outcome None d o = outcome.Done (reply d o)
decided_outcome (Some u) d o = outcome.Aborted u

-- what a client decides of its operation, given the path below it
unfoldable pub decision : ℕ → Standing → List Entry → ℕ → Part → Op → Outcome
decision me s below base part o = decided_outcome (in_the_way me o base below) (own_calls_over s.own base (walked part o)) o

-- ---- the checks, each true where it passes

abbrev pub same_op : Op → Op → Bool
same_op (op.Put k v) (op.Put q w) = bytes_eq k q && bytes_eq v w
same_op (op.Get k) (op.Get q) = bytes_eq k q
same_op (op.Del k) (op.Del q) = bytes_eq k q
same_op (op.List k) (op.List q) = bytes_eq k q
same_op _ _ = false

abbrev pub same_entry : Entry → Entry → Bool
same_entry a b = nat_eq a.client b.client && (nat_eq a.seq b.seq && same_op a.op b.op)

abbrev pub is_awaited : Awaiting → ToClient → Bool
is_awaited (awaits.Reply n o load) (say.Reply seal entries part) = true
is_awaited (awaits.Reply n o load) (say.Refused r) = true
is_awaited awaits.Turn say.Wait = true
is_awaited awaits.Turn (say.Update seal part) = true
is_awaited awaits.Entries (say.Entries seal entries) = true
is_awaited awaits.Kept say.Kept = true
is_awaited awaits.Kept (say.Refused r) = true
is_awaited (awaits.Content hash len) (say.Content c) = true
is_awaited (awaits.Content hash len) say.Absent = true
is_awaited _ _ = false

-- FORM: the kind is awaited, the part is one, and the lengths are within the limits
abbrev pub has_form : Standing → ToClient → Bool
has_form s (say.Reply seal entries part) =
    let n = length s.path + length entries in
    is_awaited s.awaiting (say.Reply seal entries part) && (is_some (read_part part) && (nat_le n MOST_ENTRIES && (nat_lt seal.position n && nat_le (n - seal.position) MOST_UNSEALED)))
has_form s (say.Update seal part) =
    is_awaited s.awaiting (say.Update seal part) && (is_some (read_part part) && (nat_le (length s.path) MOST_ENTRIES && nat_le seal.position (length s.path)))
has_form s (say.Entries seal entries) =
    let n = length s.path + length entries in
    is_awaited s.awaiting (say.Entries seal entries) && (nat_le n MOST_ENTRIES && (nat_le seal.position n && nat_le (n - seal.position) MOST_UNSEALED))
has_form s m = is_awaited s.awaiting m

-- the entry that the client awaits a Reply to
abbrev pub is_open : ℕ → Awaiting → Entry → Bool
is_open me (awaits.Reply n o load) e = same_entry e (record { client = me; seq = n; op = o })
is_open me _ e = false

abbrev pub is_other : ℕ → ℕ → Entry → Bool
is_other count me e = nat_le e.client count && not (nat_eq e.client me)

abbrev pub is_reply_to : ℕ → ℕ → Awaiting → List Entry → Bool
is_reply_to count me a [] = false
is_reply_to count me a (e ∷ others) = nat_le e.client count && (is_open me a e && list_all (is_other count me) others)

-- MEMBERS: the last entry of a Reply is the open call, and every other entry is another member's
abbrev pub has_members : Group → ℕ → Standing → ToClient → Bool
has_members g me s (say.Reply seal entries part) = is_reply_to g.count me s.awaiting (newest_first entries)
has_members g me s (say.Entries seal entries) = list_all (is_other g.count me) (newest_first entries)
has_members g me s m = true

abbrev pub is_tagged : List ℕ → Tagged → Bool
is_tagged key t = bytes_eq t.tag.bytes (tag_of key (invoke_text t.entry))

abbrev pub entries_of : ToClient → List Tagged
entries_of (say.Reply seal entries part) = entries
entries_of (say.Entries seal entries) = entries
entries_of m = []

abbrev pub seal_of : ToClient → Option Seal
seal_of (say.Reply seal entries part) = Some seal
seal_of (say.Update seal part) = Some seal
seal_of (say.Entries seal entries) = Some seal
seal_of m = None

-- INVOKE_TAG: the tag of each entry holds
abbrev pub has_tags : Group → ToClient → Bool
has_tags g m = list_all (is_tagged g.key) (entries_of m)

-- BASE_BACK: the seal isn't older than the highest one
abbrev pub is_not_older : Standing → Option Seal → Bool
is_not_older s None = true
is_not_older s (Some seal) = nat_le s.sealed seal.position

-- the text of a seal of a position of a path, with its root
unfoldable pub seal_text_on : Group → List Entry → ℕ → List ℕ → List ℕ
seal_text_on g path position root = seal_text position (chain g (front position path)) root

-- SEAL_TAG: the tag of the seal holds on this client's path
abbrev pub is_sealed : Group → List Entry → Option Seal → Bool
is_sealed g path None = true
is_sealed g path (Some seal) = nat_eq seal.position 0 || bytes_eq seal.tag.bytes (tag_of g.key (seal_text_on g path seal.position seal.root.bytes))

-- OWN_UNSETTLED: no own unsealed call stands at or below the seal
abbrev pub keeps_own : Standing → Option Seal → Bool
keeps_own s None = true
keeps_own s (Some seal) = list_all (λ o. nat_lt seal.position o.position) s.own

abbrev pub has_root : Option Part → List ℕ → Bool
has_root None root = false
has_root (Some part) root = bytes_eq (part_root part) root

abbrev pub has_walk : Option Part → Op → Bool
has_walk None o = false
has_walk (Some part) o = reaches part o

abbrev pub has_open_op : Option Part → Awaiting → Bool
has_open_op part (awaits.Reply n o load) = has_walk part o
has_open_op part _ = true

abbrev pub has_own_op : Option Part → List Own → Bool
has_own_op part [] = true
has_own_op part (o ∷ others) = not (o.done && is_write o.op) || has_walk part o.op

-- PROOF: the part has the seal's root, and shows what the operation walks over
abbrev pub is_proved : Standing → ToClient → Bool
is_proved s (say.Reply seal entries part) = has_root (read_part part) seal.root.bytes && has_open_op (read_part part) s.awaiting
is_proved s (say.Update seal part) = has_root (read_part part) seal.root.bytes && has_own_op (read_part part) s.own
is_proved s m = true

abbrev pub is_next : ℕ → List Own → Bool
is_next position [] = false
is_next position (o ∷ others) = nat_eq o.position position

-- TURN: in an Update the first own unsealed call stands just above the seal
abbrev pub has_turn : Standing → ToClient → Bool
has_turn s (say.Update seal part) = is_next (seal.position + 1) s.own
has_turn s m = true

abbrev pub finds_reference : Outcome → Bool
finds_reference (outcome.Done (answer.Found v)) = is_reference v
finds_reference _ = true

-- what a load's call found is a reference
abbrev pub loads_reference : ℕ → Standing → Seal → List Entry → Option Part → Awaiting → Bool
loads_reference me s seal (e ∷ below) (Some part) (awaits.Reply n o true) = finds_reference (decision me s below seal.position part o)
loads_reference me s seal path part a = true

abbrev pub is_wanted : Awaiting → List ℕ → Bool
is_wanted (awaits.Content h len) c = is_content_of h.bytes len c
is_wanted _ c = false

-- CONTENT: what a load found is a reference, and the content is the one that it names
abbrev pub has_content : ℕ → Standing → ToClient → Bool
has_content me s (say.Reply seal entries part) = loads_reference me s seal (path_with_entries s entries) (read_part part) s.awaiting
has_content me s (say.Content c) = is_wanted s.awaiting c
has_content me s say.Absent = false
has_content me s m = true

-- the number of the first check that fails
abbrev pub first_failing : List (ℕ × Bool) → Option ℕ
first_failing [] = None
first_failing (c ∷ cs) = if c.1 then first_failing cs else Some c.0

abbrev pub verdict_on : Group → ℕ → Standing → Option ToClient → Option ℕ
verdict_on g me s None = Some FORM
verdict_on g me s (Some m) = first_failing (
    (FORM, has_form s m) ∷ (MEMBERS, has_members g me s m) ∷ (INVOKE_TAG, has_tags g m) ∷ (BASE_BACK, is_not_older s (seal_of m))
    ∷ (SEAL_TAG, is_sealed g (path_with_entries s (entries_of m)) (seal_of m)) ∷ (OWN_UNSETTLED, keeps_own s (seal_of m))
    ∷ (PROOF, is_proved s m) ∷ (TURN, has_turn s m) ∷ (CONTENT, has_content me s m) ∷ [])

-- the check at which the client halts on a payload, if it doesn't pass
unfoldable pub verdict : Group → ℕ → Standing → List ℕ → Option ℕ
verdict g me s payload = verdict_on g me s (read_answer payload)

-- ---- the step

-- what a client sends. The numbers and hashes are those of where it then stands
pub data Sending : Type 0 where
  Invokes : (seq : ℕ) (o : Op) → Sending
  Commits : (done : Bool) → Sending
  Polls : Sending
  Seals : Sending
  Syncs : Sending
  Keeps : (content : List ℕ) → Sending
  Fetches : (h : List ℕ) → Sending

-- where a client stands next, what it sends, and what it returns to its caller: of a call, and of a call on objects
pub record Move : Type 0 where
  -- where it then stands
  pub next : Standing
  -- what it sends, if anything
  pub sends : Option Sending
  -- the outcome of its call, where the step ends one
  pub returns : Option Outcome
  -- the outcome of its call on objects, where the step ends one
  pub object : Option ObjectOutcome

abbrev pub move_without_object : Standing → Option Sending → Option Outcome → Move
move_without_object s sends returns = record { next = s; sends = sends; returns = returns; object = None }

abbrev pub move_with_object : Standing → Option Sending → Option Outcome → Option ObjectOutcome → Move
move_with_object s sends returns object = record { next = s; sends = sends; returns = returns; object = object }

-- the text of a commit of the last entry of a path
unfoldable pub commit_text_on : Group → List Entry → Bool → List ℕ
commit_text_on g path done = commit_text (length path) (chain g path) done

-- the text whose tag goes with it
abbrev pub made_text : Group → ℕ → Standing → Sending → Option (List ℕ)
made_text g me s (Invokes n o) = Some (invoke_text (record { client = me; seq = n; op = o }))
made_text g me s (Commits done) = Some (commit_text_on g s.path done)
made_text g me s Polls = None
made_text g me s Seals = Some (seal_text_on g s.path s.sealed s.root)
made_text g me s Syncs = None
made_text g me s (Keeps content) = None
made_text g me s (Fetches h) = None

abbrev pub digest : List ℕ → Digest32
digest bytes = record { bytes = bytes }

abbrev pub tag_for : Group → List ℕ → Digest32
tag_for g text = digest (tag_of g.key text)

-- the request that is sent
abbrev pub request_of : Group → ℕ → Standing → Sending → ToServer
request_of g me s (Invokes n o) = ask.Invoke (length s.path) n o (tag_for g (invoke_text (record { client = me; seq = n; op = o })))
request_of g me s (Commits done) = ask.Commit (length s.path) done (tag_for g (commit_text_on g s.path done))
request_of g me s Polls = ask.Poll
request_of g me s Seals = ask.Seal s.sealed (digest s.root) (tag_for g (seal_text_on g s.path s.sealed s.root))
request_of g me s Syncs = ask.Sync (length s.path)
request_of g me s (Keeps content) = ask.Keep content
request_of g me s (Fetches h) = ask.Fetch (digest h)

-- the payload that carries it
abbrev pub payload_of : Group → ℕ → Standing → Option Sending → Option (List ℕ)
payload_of g me s None = None
payload_of g me s (Some sending) = Some (request_text (request_of g me s sending))

abbrev pub is_done : Outcome → Bool
is_done (outcome.Done a) = true
is_done (outcome.Aborted u) = false
is_done (outcome.Refused r) = false
is_done (outcome.Halted k) = false

abbrev pub move_to_halt : Standing → ℕ → Move
move_to_halt s k = move_without_object (record s { halted = Some k }) None (Some (outcome.Halted k))

-- the call is decided: its path, the seal of the Reply, and the call as own and unsealed
abbrev pub move_on_outcome : Standing → List Entry → ℕ → List ℕ → List Own → Outcome → Move
move_on_outcome s p base root own ends =
    move_with_object (record s { path = p; sealed = base; root = root; awaiting = awaits.Turn; own = own; phase = after_decision s.phase ends })
    (Some (Commits (is_done ends))) (Some ends) (outcome_after_decision s.phase ends)

-- after a Reply whose last entry is the open call
abbrev pub move_on_reply : ℕ → Standing → Seal → List Entry → Option Part → Awaiting → Move
move_on_reply me s seal (e ∷ below) (Some part) (awaits.Reply n o load) =
    let ends = decision me s below seal.position part o in
    move_on_outcome s (e ∷ below) seal.position seal.root.bytes (s.own ++ record { position = length (e ∷ below); op = o; done = is_done ends } ∷ []) ends
move_on_reply me s seal path part a = move_to_halt s 1

-- the root after an own call is sealed
abbrev pub new_root : Own → Part → List ℕ → List ℕ
new_root o part root = if o.done && is_write o.op then root_after part o.op else root

-- a position is sealed, with its root; the own calls above it are left
abbrev pub move_to_seal : Standing → ℕ → List ℕ → List Own → Move
move_to_seal s position root own = move_without_object (record s { sealed = position; root = root; own = own; awaiting = awaits.Turn }) (Some Seals) None

-- after an Update: the first own unsealed call is sealed
abbrev pub move_on_update : Standing → Seal → Option Part → List Own → Move
move_on_update s seal (Some part) (o ∷ others) = move_to_seal s (seal.position + 1) (new_root o part seal.root.bytes) others
move_on_update s seal part own = move_to_halt s 1

-- after Entries: the path grows, and the seal is theirs
abbrev pub move_on_entries : Standing → List Entry → ℕ → List ℕ → Move
move_on_entries s p base root = move_without_object (record s { path = p; sealed = base; root = root; awaiting = awaits.Nothing }) None None

-- an operation is called
abbrev pub move_to_call : Standing → Phase → Op → Bool → Move
move_to_call s p o load = move_without_object (record s { calls = s.calls + 1; awaiting = awaits.Reply (s.calls + 1) o load; phase = p }) (Some (Invokes (s.calls + 1) o)) None

-- after Wait: a load whose reference was found fetches its content
abbrev pub move_on_wait : Standing → Phase → Move
move_on_wait s (phase.Fetching h len) = move_without_object (record s { awaiting = awaits.Content h len }) (Some (Fetches h.bytes)) None
move_on_wait s phase.Closed = move_without_object (record s { awaiting = awaits.Nothing }) None None
move_on_wait s (phase.Keeping k h len) = move_without_object (record s { awaiting = awaits.Nothing }) None None
move_on_wait s phase.Calling = move_without_object (record s { awaiting = awaits.Nothing }) None None

-- what a call on objects does next that isn't over
abbrev pub move_by_object_step : Standing → Bool → ObjectStep → Move
move_by_object_step s load (p, next.Keep content) = move_without_object (record s { awaiting = awaits.Kept; phase = p }) (Some (Keeps content)) None
move_by_object_step s load (p, next.Call o) = move_to_call s p o load
move_by_object_step s load (p, x) = move_to_halt s 1

-- after Refused, of a call or of a content that was to be kept: the call is over
abbrev pub move_on_refusal : Standing → ℕ → Awaiting → Move
move_on_refusal s r awaits.Kept = move_with_object (record s { awaiting = awaits.Nothing; phase = phase.Closed }) None None (Some (ended.Refused r))
move_on_refusal s r a = move_with_object (record s { awaiting = awaits.Nothing; phase = after_decision s.phase (outcome.Refused r) }) None (Some (outcome.Refused r)) (outcome_after_decision s.phase (outcome.Refused r))

-- the effect of an answer that passed the checks; no other kind passes
abbrev pub move_on_answer : ℕ → Standing → ToClient → Move
move_on_answer me s (say.Reply seal entries part) = move_on_reply me s seal (path_with_entries s entries) (read_part part) s.awaiting
move_on_answer me s say.Wait = move_on_wait s s.phase
move_on_answer me s (say.Update seal part) = move_on_update s seal (read_part part) s.own
move_on_answer me s (say.Entries seal entries) = move_on_entries s (path_with_entries s entries) seal.position seal.root.bytes
move_on_answer me s (say.Refused r) = move_on_refusal s r s.awaiting
move_on_answer me s say.Kept = move_by_object_step s false (step_on_kept s.phase)
move_on_answer me s (say.Content c) = move_with_object (record s { awaiting = awaits.Nothing; phase = phase.Closed }) None None (Some (ended.Content c))
move_on_answer me s m = move_to_halt s 1

abbrev pub move_on_verdict : ℕ → Standing → Option ToClient → Option ℕ → Move
move_on_verdict me s m (Some k) = move_to_halt s k
move_on_verdict me s (Some m) None = move_on_answer me s m
move_on_verdict me s None None = move_to_halt s 1

-- a halted client returns the same number again
abbrev pub move_on_payload : Group → ℕ → Standing → Option ℕ → List ℕ → Move
move_on_payload g me s (Some k) payload = move_to_halt s k
move_on_payload g me s None payload = move_on_verdict me s (read_answer payload) (verdict g me s payload)

abbrev pub is_load : ObjectCall → Bool
is_load (object.Load k) = true
is_load (object.Store k c) = false
is_load (object.Erase k) = false
is_load (object.Names p) = false

-- one step of a client
unfoldable pub step : Group → ℕ → Standing → Input → Move
step g me s (input.Call o) = move_to_call s phase.Closed o false
step g me s (input.Object c) = move_by_object_step s (is_load c) (first_step c)
step g me s input.Poll = move_without_object (record s { awaiting = awaits.Turn }) (Some Polls) None
step g me s input.Sync = move_without_object (record s { awaiting = awaits.Entries }) (Some Syncs) None
step g me s (input.Payload payload) = move_on_payload g me s s.halted payload

-- ---- when a step may be made

abbrev pub awaits_nothing : Awaiting → Bool
awaits_nothing awaits.Nothing = true
awaits_nothing _ = false

abbrev pub IsIdle : Standing → Type 0
IsIdle s = IsTrue (awaits_nothing s.awaiting && is_none s.halted)

-- what a client may be asked to do where it stands. A number in a text is a byte, as the type of the program says
abbrev pub MayStep : Group → Standing → Input → Type 0
MayStep g s (input.Call o) = IsIdle s × ((g.mode ≡ mode.Plain) × (Fits o × (AreBytesIn o × (s.calls + 1 < 2 ^ 32))))
MayStep g s (input.Object c) = IsIdle s × ((g.mode ≡ mode.Objects) × (FitsObject c × (AreBytesInObject c × (s.calls + 1 < 2 ^ 32))))
MayStep g s input.Poll = IsIdle s
MayStep g s input.Sync = IsIdle s
MayStep g s (input.Payload payload) = AreBytes payload
