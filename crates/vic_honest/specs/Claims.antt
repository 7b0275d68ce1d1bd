-- The laws of honest runs, one by one.
use Rattle.std.specs.Prelude.{◌≡◌, ◌≢◌, ◌↔◌, ℕ, ◌+◌, ◌<◌, ◌≤◌, ◌⊎◌, Bool, true, false, not, ◌&&◌, List, [], ◌∷◌, ◌++◌, length, Option, Some, None, nat_le, min}
use Rattle.std.specs.List.{sum_by}
use Rattle.vic_dict.specs.declared.limits.TheConstants.{MOST_CONTENTS, MOST_CONTENT_BYTES, MOST_TOLD}
use Rattle.vic_dict.specs.declared.op.Op.{Op}
use Rattle.vic_dict.specs.declared.op.Op.TheVariants as op
use Rattle.vic_dict.specs.declared.op.Answer.TheVariants as answer
use Rattle.vic_dict.specs.declared.op.Entry.{Entry}
use Rattle.vic_dict.specs.declared.op.Outcome.TheVariants as outcome
use Rattle.vic_dict.specs.declared.op.Mode.TheVariants as mode
use Rattle.vic_dict.specs.Lists.{IsIn, front, newest}
use Rattle.vic_wire.specs.declared.message.Digest32.{Digest32}
use Rattle.vic_wire.specs.declared.message.Seal.{Seal}
use Rattle.vic_wire.specs.declared.message.Tagged.{Tagged}
use Rattle.vic_wire.specs.declared.message.ToServer.{ToServer}
use Rattle.vic_wire.specs.declared.message.ToServer.TheVariants as ask
use Rattle.vic_wire.specs.declared.message.ToClient.{ToClient}
use Rattle.vic_wire.specs.declared.message.ToClient.TheVariants as say
use Rattle.vic_wire.specs.Hashes.{Group}
use Rattle.vic_wire.specs.Conflict.{conflicts}
use Rattle.vic_wire.specs.Reading.{read_request, read_answer}
use Rattle.vic_wire.specs.Trees.{dictionary_root}
use Rattle.vic_rules.specs.declared.object.ObjectCall.TheVariants as object
use Rattle.vic_rules.specs.declared.object.ObjectOutcome.TheVariants as ended
use Rattle.vic_rules.specs.declared.object.Phase.TheVariants as phase
use Rattle.vic_rules.specs.declared.state.Awaiting.TheVariants as awaits
use Rattle.vic_rules.specs.declared.trace.Input.TheVariants as input
use Rattle.vic_rules.specs.declared.trace.TraceStep.{TraceStep}
use Rattle.vic_rules.specs.declared.trace.Shown.{Shown}
use Rattle.vic_rules.specs.Objects.{content_hash, reference_of, outcome_after_decision}
use Rattle.vic_rules.specs.Client.{Standing, Invokes, first_failing, is_done, onto}
use Rattle.vic_rules.specs.History.{IsLawful, standing, move_of, Completion, completions}
use Rattle.vic_rules.specs.Views.{confirmed_calls, view_of, IsLegal, left_by, IsInRealTime, HasAll, ShowsOnlyCalls}
use Rattle.vic_rules.specs.Trust.{IsForged}
use Rattle.vic_laws.specs.ContentClaims.{IsStore, NoAskOf, last_put}
use Rattle.vic_order.specs.Order.{Ordered, Server, Answered, size, sealed_count, top_seal, ordered_at, commit_at, is_kept, limit_tests, serve}
use Rattle.vic_order.specs.Fates.{entries, fate, dictionary_by}
use Rattle.vic_order.specs.Scenes.{Queue, Scene, SceneOf, queue_of, server_at, Event, Serves}
use Rattle.vic_order.specs.Honest.{IsHonestRun, scene_after}
use Rattle.vic_honest.specs.SafeRuns.{IsSafeRun}

-- the path of a client is what the server's log was at some time
pub record IsFrontOf (s : Scene) (server : Server) (me : ℕ) : Type 0 where
  pub newer : List Ordered
  pub seen : List Ordered
  pub log : server.log ≡ newer ++ seen
  pub path : (standing s.group me s.history).path ≡ entries seen

-- no client halts
pub record GoesOn (s : Scene) (me : ℕ) : Type 0 where
  pub standing_so : (standing s.group me s.history).halted ≡ None
  pub returns_so : (x : TraceStep) → IsIn s.history x → (check : ℕ) → x.returned ≡ Some (outcome.Halted check) → ⊥

-- the completed call is an entry of the log, its path is the log up to there, and its outcome is what becomes of that entry
pub record StandsAsFated (log : List Ordered) (c : Completion) : Type 0 where
  pub newer : List Ordered
  pub o : Ordered
  pub below : List Ordered
  pub is : log ≡ newer ++ o ∷ below
  pub client : c.client ≡ o.entry.client
  pub prefix : c.prefix ≡ entries (o ∷ below)
  pub outcome : c.outcome ≡ fate o below

-- the call whose Reply the client awaited is an entry of the log, its path now is the log up to there, and it returned what becomes
-- of that entry
pub record ReturnsItsFate (g : Group) (log : List Ordered) (past : List TraceStep) (x : TraceStep) : Type 0 where
  pub newer : List Ordered
  pub o : Ordered
  pub below : List Ordered
  pub is : log ≡ newer ++ o ∷ below
  pub client : o.entry.client ≡ x.client
  pub load : Bool
  pub awaited : (standing g x.client past).awaiting ≡ awaits.Reply o.entry.seq o.entry.op load
  pub path : (standing g x.client (x ∷ past)).path ≡ entries (o ∷ below)
  pub returned : x.returned ≡ Some (fate o below)

-- the number of the limit that a call would pass: entries in all, entries that aren't sealed, weight, entries that its client hasn't seen
abbrev pub passed_limit : Server → ℕ → Op → Option ℕ
passed_limit s known o = first_failing (limit_tests s known o)

-- a request that is refused was a call, and would have passed that limit
pub record RefusedAtLimit (s : Server) (payload : List ℕ) (r : ℕ) : Type 0 where
  pub known : ℕ
  pub seq : ℕ
  pub op : Op
  pub tag : Digest32
  pub is : read_request payload ≡ Some (ask.Invoke known seq op tag)
  pub limit_is : passed_limit s known op ≡ Some r

-- there is room for one content more: contents in all, and bytes in all
abbrev pub has_room_for : Server → List ℕ → Bool
has_room_for s content = not (nat_le MOST_CONTENTS (length s.contents)) && nat_le (sum_by length s.contents + length content) MOST_CONTENT_BYTES

-- a request that is refused was a content to be kept, in a group with objects: it is new, and there is no room for it
pub record ContentRefused (g : Group) (s : Server) (payload : List ℕ) (r : ℕ) : Type 0 where
  pub objects : g.mode ≡ mode.Objects
  pub content : List ℕ
  pub is : read_request payload ≡ Some (ask.Keep content)
  pub new : is_kept s.contents (content_hash content) ≡ false
  pub full : has_room_for s content ≡ false
  pub number : r ≡ 7

-- a content that is to be kept is refused exactly where it is new and there is no room for it; else it is kept, once
pub record IsKeptSo (s : Server) (content : List ℕ) (a : Answered) : Type 0 where
  pub there : is_kept s.contents (content_hash content) ≡ true → (a.answer ≡ say.Kept) × (a.next.contents ≡ s.contents)
  pub added : is_kept s.contents (content_hash content) ≡ false → has_room_for s content ≡ true → (a.answer ≡ say.Kept) × (a.next.contents ≡ content ∷ s.contents)
  pub full : is_kept s.contents (content_hash content) ≡ false → has_room_for s content ≡ false → (a.answer ≡ say.Refused 7) × (a.next.contents ≡ s.contents)

-- a content that is asked for is given: the one that is kept under this hash
pub record IsFetchedSo (s : Server) (hash : Digest32) (answer : ToClient) : Type 0 where
  pub content : List ℕ
  pub kept : IsIn s.contents content
  pub has : content_hash content ≡ hash.bytes
  pub is : answer ≡ say.Content content

-- the call is the newest entry of the log, with its tag, and a Reply answers it
pub record IsOrderedBy (s : Server) (me seq : ℕ) (o : Op) (tag : Digest32) (a : Answered) : Type 0 where
  pub newest : Ordered
  pub log : a.next.log ≡ newest ∷ s.log
  pub entry : newest.entry ≡ record { client = me; seq = seq; op = o }
  pub tagged : newest.tag ≡ tag
  pub sealed_then : newest.sealed_then ≡ sealed_count s
  pub seal : Seal
  pub told : List Tagged
  pub part : List ℕ
  pub answer : a.answer ≡ say.Reply seal told part

-- the server refused a client's call when it served it, at that limit, and the client awaits the answer to this call
pub record WasRefused (g : Group) (events : List Event) (me : ℕ) (t : Standing) (r : ℕ) : Type 0 where
  pub later : List Event
  pub before : List Event
  pub payload : List ℕ
  pub rest : Queue
  pub server : Server
  pub is : events ≡ later ++ Serves me ∷ before
  pub waited : queue_of (scene_after g before).up me ≡ payload ∷ rest
  pub one : server_at (scene_after g before).servers 1 ≡ Some server
  pub answer : (serve server me payload).answer ≡ say.Refused r
  pub refused : RefusedAtLimit server payload r
  pub load : Bool
  pub awaited : t.awaiting ≡ awaits.Reply refused.seq refused.op load

-- the server refused a client's content when it served it, and the client awaits that this content of its store is kept
pub record StoreWasRefused (g : Group) (events : List Event) (me : ℕ) (t : Standing) (r : ℕ) : Type 0 where
  pub later : List Event
  pub before : List Event
  pub payload : List ℕ
  pub rest : Queue
  pub server : Server
  pub is : events ≡ later ++ Serves me ∷ before
  pub waited : queue_of (scene_after g before).up me ≡ payload ∷ rest
  pub one : server_at (scene_after g before).servers 1 ≡ Some server
  pub answer : (serve server me payload).answer ≡ say.Refused r
  pub refused : ContentRefused g server payload r
  pub awaited : t.awaiting ≡ awaits.Kept
  pub key : List ℕ
  pub keeping : t.phase ≡ phase.Keeping key (record { bytes = content_hash refused.content }) (length refused.content)

-- the sealed dictionary is what the done entries up to the sealed count leave, and the highest seal has its root
pub record SealedSo (s : Server) : Type 0 where
  pub unsealed : List Ordered
  pub sealed : List Ordered
  pub is : s.log ≡ unsealed ++ sealed
  pub count : sealed_count s ≡ length sealed
  pub dictionary : s.dictionary ≡ dictionary_by sealed
  pub root : (top_seal s).root.bytes ≡ dictionary_root s.dictionary

-- an aborted call leaves nothing
abbrev pub AbortsLeaveNothing : Type 0
AbortsLeaveNothing = (o : Ordered) (below : List Ordered) → is_done (fate o below) ≡ false → dictionary_by (o ∷ below) ≡ dictionary_by below

-- the entry at a position below a call stands in its way: another client's, not sealed when the call was ordered, and in conflict with it
pub record StandsInTheWay (o : Ordered) (below : List Ordered) (u : ℕ) : Type 0 where
  pub unsealed : o.sealed_then < u
  pub within : u ≤ length below
  pub entry : Entry
  pub there : newest (front u (entries below)) ≡ Some entry
  pub other : entry.client ≢ o.entry.client
  pub conflict : conflicts entry.op o.entry.op ≡ true

-- a call is aborted exactly by the least position that stands in its way
abbrev pub AbortsAreConflicts : Type 0
AbortsAreConflicts = (o : Ordered) (below : List Ordered) (u : ℕ)
    → (fate o below ≡ outcome.Aborted u) ↔ (StandsInTheWay o below u × ((v : ℕ) → v < u → StandsInTheWay o below v → ⊥))

-- ---- one legal history

-- the entries of a log with what becomes of them
abbrev pub shown_log : List Ordered → List Shown
shown_log [] = []
shown_log (o ∷ below) = record { entry = o.entry; outcome = fate o below } ∷ shown_log below

-- each answer is that of the dictionary after the done entries below it
abbrev pub LogsAreLegal : Type 0
LogsAreLegal = (log : List Ordered) → IsLegal (shown_log log) × (left_by (shown_log log) ≡ dictionary_by log)

-- the completed calls of all clients, in the order of the log
abbrev pub completed_in : Group → List TraceStep → List Ordered → List Shown
completed_in g h log = confirmed_calls (completions g h) (entries log)

-- they explain each answer, keep real-time order, have each completed call once, and show nothing else
pub record IsOneHistory (g : Group) (h : List TraceStep) (v : List Shown) : Type 0 where
  pub legal : IsLegal v
  pub in_order : IsInRealTime g h v
  pub all : (me : ℕ) → HasAll g me h v
  pub only : ShowsOnlyCalls g h v

-- ---- contents

-- a step after this past that returned a content to a load: the load is the last thing that its client was asked for, its get stands in
-- the log as done with a reference, and the last done put of that name below it is the put of a store of this content
pub record LoadIsFated (g : Group) (h past : List TraceStep) (log : List Ordered) (client : ℕ) (content : List ℕ) : Type 0 where
  pub between : List TraceStep
  pub asked : TraceStep
  pub before : List TraceStep
  pub since : past ≡ between ++ asked ∷ before
  pub loader : asked.client ≡ client
  pub alone : NoAskOf client between
  pub newer : List Ordered
  pub o : Ordered
  pub below : List Ordered
  pub is : log ≡ newer ++ o ∷ below
  pub own : o.entry.client ≡ client
  pub name : List ℕ
  pub loads : asked.input ≡ input.Object (object.Load name)
  pub called : (move_of g before asked).sends ≡ Some (Invokes o.entry.seq (op.Get name))
  pub gets : o.entry.op ≡ op.Get name
  pub found : fate o below ≡ outcome.Done (answer.Found (reference_of content))
  pub stored : Shown
  pub last : last_put name (shown_log below) ≡ Some stored
  pub by_store : IsStore g h stored.entry name content

-- ---- all of it

-- no client has halted, and no step returned that a check failed; a call that is refused names one of four limits, and a call on objects
-- one of these or, where its content was refused, 7
pub record NoneHalts (g : Group) (h : List TraceStep) : Type 0 where
  pub stands_so : (i : ℕ) → 0 < i → i ≤ g.count → (standing g i h).halted ≡ None
  pub returns_so : (x : TraceStep) → IsIn h x → (check : ℕ) → x.returned ≡ Some (outcome.Halted check) → ⊥
  pub refuses_so : (x : TraceStep) → IsIn h x → (number : ℕ) → x.returned ≡ Some (outcome.Refused number) → (0 < number) × (number ≤ 4)
  pub ends_so : (x : TraceStep) → IsIn h x → (number : ℕ) → x.object ≡ Some (ended.Refused number) → ((0 < number) × (number ≤ 4)) ⊎ (number ≡ 7)

-- a position aborts an entry exactly where it is the least that stands in the entry's way
abbrev pub IsAbortedSo : Ordered → List Ordered → Type 0
IsAbortedSo o below = (u : ℕ) → (fate o below ≡ outcome.Aborted u) ↔ (StandsInTheWay o below u × ((v : ℕ) → v < u → StandsInTheWay o below v → ⊥))

-- the refusal of a call is returned as what the call ended with, and where it belongs to a call on objects that ends so too
pub record CallRefused (t : Standing) (x : TraceStep) (r : ℕ) : Type 0 where
  pub other : t.awaiting ≡ awaits.Kept → ⊥
  pub returned : x.returned ≡ Some (outcome.Refused r)
  pub object : x.object ≡ outcome_after_decision t.phase (outcome.Refused r)

-- the refusal of a content, in a group with objects, is returned as what the call on objects ended with, and no call returns
pub record StoreRefused (g : Group) (t : Standing) (x : TraceStep) (r : ℕ) : Type 0 where
  pub objects : g.mode ≡ mode.Objects
  pub awaited : t.awaiting ≡ awaits.Kept
  pub returned : x.returned ≡ None
  pub object : x.object ≡ Some (ended.Refused r)

abbrev pub RefusalIsReturned : Group → Standing → TraceStep → ℕ → Type 0
RefusalIsReturned g t x r = CallRefused t x r ⊎ StoreRefused g t x r

-- what a step returned that took a payload
pub record ReturnsSo (g : Group) (log : List Ordered) (past : List TraceStep) (x : TraceStep) (payload : List ℕ) : Type 0 where
  -- of a Reply: what becomes of the entry of the call
  pub reply : (seal : Seal) (told : List Tagged) (part : List ℕ) → read_answer payload ≡ Some (say.Reply seal told part) → ReturnsItsFate g log past x
  -- of a refusal: refused, with its number
  pub refusal : (number : ℕ) → read_answer payload ≡ Some (say.Refused number) → RefusalIsReturned g (standing g x.client past) x number

-- a sync's answer has the entries that the client lacks: put onto as many of the log's oldest entries as it knows, they give the oldest entries of
-- the log, up to 8,192 more
pub record IsSyncedSo (server : Server) (known : ℕ) (answer : ToClient) : Type 0 where
  pub seal : Seal
  pub told : List Tagged
  pub is : answer ≡ say.Entries seal told
  pub gives : onto told (front known (entries server.log)) ≡ entries (front (min (size server) (known + MOST_TOLD)) server.log)

-- requests by which a client asks for its turn
abbrev pub AsksTurn : ToServer → Type 0
AsksTurn (ask.Hello kind client) = ⊥
AsksTurn (ask.Invoke known seq o tag) = ⊥
AsksTurn (ask.Commit position done tag) = Unit {0}
AsksTurn ask.Poll = Unit {0}
AsksTurn (ask.Seal position root tag) = Unit {0}
AsksTurn (ask.Sync known) = ⊥
AsksTurn (ask.Keep content) = ⊥
AsksTurn (ask.Fetch hash) = ⊥
AsksTurn ask.Bye = ⊥

-- the first entry that isn't sealed is the client's, and is committed
pub record HasTurn (server : Server) (me : ℕ) : Type 0 where
  pub first : Ordered
  pub there : ordered_at server (sealed_count server + 1) ≡ Some first
  pub own : first.entry.client ≡ me
  pub done : Bool
  pub committed : commit_at server (sealed_count server + 1) ≡ Some done

-- a client with the turn is told to seal over the highest seal, and no other one is
pub record IsTurnedSo (server : Server) (me : ℕ) (answer : ToClient) : Type 0 where
  pub comes : HasTurn server me → (part : List ℕ) × (answer ≡ say.Update (top_seal server) part)
  pub waits : (HasTurn server me → ⊥) → answer ≡ say.Wait

-- how a server answers a client's request
pub record IsServedSo (g : Group) (server : Server) (me : ℕ) (payload : List ℕ) : Type 0 where
  -- it refuses nothing but calls that would pass one of its limits, with the number of that limit, and in a group with objects new
  -- contents for which there is no room
  pub refused : (number : ℕ) → (serve server me payload).answer ≡ say.Refused number → RefusedAtLimit server payload number ⊎ ContentRefused g server payload number
  -- a call that would pass a limit is refused, with the number of that limit
  pub limited : (known seq : ℕ) (o : Op) (tag : Digest32) → read_request payload ≡ Some (ask.Invoke known seq o tag)
      → (number : ℕ) → passed_limit server known o ≡ Some number → (serve server me payload).answer ≡ say.Refused number
  -- a call that would pass no limit is ordered as the newest entry of the log, and a Reply answers it
  pub ordered : (known seq : ℕ) (o : Op) (tag : Digest32) → read_request payload ≡ Some (ask.Invoke known seq o tag)
      → passed_limit server known o ≡ None → IsOrderedBy server me seq o tag (serve server me payload)
  -- a sync is answered with what the client lacks
  pub synced : (known : ℕ) → read_request payload ≡ Some (ask.Sync known) → IsSyncedSo server known (serve server me payload).answer
  -- a content is refused exactly where it is new and there is no room for it, and else kept
  pub kept : (content : List ℕ) → read_request payload ≡ Some (ask.Keep content) → IsKeptSo server content (serve server me payload)
  -- a fetch is answered with the content
  pub fetched : (hash : Digest32) → read_request payload ≡ Some (ask.Fetch hash) → IsFetchedSo server hash (serve server me payload).answer
  -- a commit, a poll and a seal are answered by the turn, as the server then stands
  pub turned : (r : ToServer) → read_request payload ≡ Some r → AsksTurn r → IsTurnedSo (serve server me payload).next me (serve server me payload).answer

-- what holds of the history and the requests that wait, where these honest events leave them with this server
pub record HoldsHonestly (g : Group) (h : List TraceStep) (up : List Queue) (events : List Event) (server : Server) : Type 0 where
  -- the clients stepped by the rules
  pub lawful : IsLawful g h
  -- every tag that a client took was made by a client before
  pub unforged : IsForged g h → ⊥
  -- each completed call is an entry of the server's log, and returned what becomes of that entry
  pub fated : (c : Completion) → IsIn (completions g h) c → StandsAsFated server.log c
  -- no client has halted, no step returned that a check failed, and a call that is refused names one of the limits
  pub goes_on : NoneHalts g h
  -- each client's path is the oldest entries of the server's log, up to some position
  pub paths : (i : ℕ) → 0 < i → i ≤ g.count → (n : ℕ) × ((standing g i h).path ≡ entries (front n server.log))
  -- an entry of the log is aborted exactly by the least position of a conflicting entry of another client, unsealed when it was ordered
  pub aborted : (newer : List Ordered) (o : Ordered) (below : List Ordered) → server.log ≡ newer ++ o ∷ below → IsAbortedSo o below
  -- an aborted entry leaves the dictionary as it was
  pub left_alone : (newer : List Ordered) (o : Ordered) (below : List Ordered) → server.log ≡ newer ++ o ∷ below
      → is_done (fate o below) ≡ false → dictionary_by (o ∷ below) ≡ dictionary_by below
  -- the sealed dictionary is what the done entries up to the sealed count leave, and the highest seal has its root
  pub sealed : SealedSo server
  -- the completed calls of all clients, in the order of the log, are one legal history in real-time order
  pub one_history : IsOneHistory g h (completed_in g h server.log)
  -- each client's view is what that history was at some time
  pub views : (i : ℕ) → (newer : List Shown) × (completed_in g h server.log ≡ newer ++ view_of g i h)
  -- a step that took a Reply returned what becomes of the call, and one that took a refusal returned refused, with its number
  pub returned : (newer : List TraceStep) (x : TraceStep) (past : List TraceStep) → h ≡ newer ++ x ∷ past
      → (payload : List ℕ) → x.input ≡ input.Payload payload → ReturnsSo g server.log past x payload
  -- a call that returned refused was refused when the run's server served it, at the limit whose number it returned
  pub refused : (newer : List TraceStep) (x : TraceStep) (past : List TraceStep) → h ≡ newer ++ x ∷ past
      → (number : ℕ) → x.returned ≡ Some (outcome.Refused number) → WasRefused g events x.client (standing g x.client past) number
  -- a call on objects that ended refused did so with its call, or its content was refused when the run's server served it
  pub stores_refused : (newer : List TraceStep) (x : TraceStep) (past : List TraceStep) → h ≡ newer ++ x ∷ past → (number : ℕ) → x.object ≡ Some (ended.Refused number)
      → (x.returned ≡ Some (outcome.Refused number)) ⊎ StoreWasRefused g events x.client (standing g x.client past) number
  -- a client's next request is refused exactly where it is a call that would pass a limit, or a new content without room; every other
  -- call is ordered, and every other content kept
  pub served_so : (i : ℕ) → 0 < i → i ≤ g.count → (payload : List ℕ) (rest : Queue) → queue_of up i ≡ payload ∷ rest → IsServedSo g server i payload
  -- a content that a load returned is that of the last done store of its name below the load's get, in the order of the log
  pub loads : (newer : List TraceStep) (x : TraceStep) (past : List TraceStep) → h ≡ newer ++ x ∷ past
      → (content : List ℕ) → x.object ≡ Some (ended.Content content) → LoadIsFated g h past server.log x.client content

abbrev pub IsHonestScene : {V : Type 0} → SceneOf V → List Event → Server → Type 0
IsHonestScene s events server = HoldsHonestly s.group s.history s.up events server

abbrev pub HonestRunsHold : Type 0
HonestRunsHold = (s : Scene) (server : Server) (events : List Event) → IsSafeRun s server events → IsHonestScene s events server

-- what holds also where two different contents that clients sent have one hash
pub record HoldsAnyway (g : Group) (h : List TraceStep) (server : Server) : Type 0 where
  pub lawful : IsLawful g h
  pub unforged : IsForged g h → ⊥
  pub paths : (i : ℕ) → 0 < i → i ≤ g.count → (n : ℕ) × ((standing g i h).path ≡ entries (front n server.log))

abbrev pub HonestRunsAreLawful : Type 0
HonestRunsAreLawful = (s : Scene) (server : Server) (events : List Event) → IsHonestRun s server events → HoldsAnyway s.group s.history server
