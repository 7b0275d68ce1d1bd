-- Scenes of clients and servers, and the events by which one leads to another.
use Rattle.std.specs.Prelude.{◌≡◌, ℕ, ◌-◌, ◌<◌, ◌≤◌, Bool, true, ◌&&◌, List, [], ◌∷◌, ◌++◌, length, replicate, Option, Some, None, is_some, nat_eq, nat_lt, nat_le, if◌then◌else◌, slice_get, slice_set, unwrap_or}
use Rattle.std.specs.Int.Bits.{bit_xor}
use Rattle.vic_dict.specs.Lists.{AreBytes}
use Rattle.vic_wire.specs.Hashes.{Group}
use Rattle.vic_rules.specs.declared.trace.Input.{Input}
use Rattle.vic_rules.specs.declared.trace.Input.TheVariants as input
use Rattle.vic_rules.specs.declared.trace.TraceStep.{TraceStep}
use Rattle.vic_rules.specs.Client.{Standing, step, payload_of, MayStep}
use Rattle.vic_rules.specs.History.{standing}
use Rattle.vic_order.specs.Order.{Server, fresh_server, ready_member}
use Rattle.vic_order.specs.Serving.{Serving}

-- payloads that wait, the oldest first
abbrev pub Queue : Type 0
Queue = List (List ℕ)

-- a group, its history (the newest step first), each client's queue of requests and its queue of answers, the number of the
-- server that each client is served by, and servers 1 to 4, as far as they exist. V is what a server is
pub record SceneOf (V : Type 0) : Type 0 where
  -- the group, which no event changes
  pub group : Group
  -- the steps of all clients, the newest first
  pub history : List TraceStep
  -- of each client, its requests that no server has served
  pub up : List Queue
  -- of each client, the answers that it hasn't taken
  pub down : List Queue
  -- of each client, the number of its server
  pub served_by : List ℕ
  -- servers 1 to 4, as far as they exist
  pub servers : List (Option V)

-- with servers that follow the rule
abbrev pub Scene : Type 0
Scene = SceneOf Server

-- nothing has happened, all clients have come in, and this server, the only one, serves them
abbrev pub opening_with : {V : Type 0} → Group → V → SceneOf V
opening_with g server = record {
  group = g;
  history = [];
  up = replicate g.count [];
  down = replicate g.count [];
  served_by = replicate g.count 1;
  servers = Some server ∷ None ∷ None ∷ None ∷ [];
}

-- the same with a server that follows the rule
abbrev pub opening : Group → Scene
opening g = opening_with g (fresh_server g.mode g.count ready_member)

-- a client's queue
abbrev pub queue_of : List Queue → ℕ → Queue
queue_of queues i = unwrap_or (slice_get queues (i - 1)) []

abbrev pub set_queue : List Queue → ℕ → Queue → List Queue
set_queue queues i queue = slice_set queues (i - 1) queue

-- a payload joins a queue, if there is one
abbrev pub queue_with : Queue → Option (List ℕ) → Queue
queue_with queue None = queue
queue_with queue (Some payload) = queue ++ payload ∷ []

abbrev pub or_none : {V : Type 0} → Option (Option V) → Option V
or_none None = None
or_none (Some o) = o

-- the server of a number, if it exists
abbrev pub server_at : {V : Type 0} → List (Option V) → ℕ → Option V
server_at servers n = if nat_eq n 0 then None else or_none (slice_get servers (n - 1))

abbrev pub set_server : {V : Type 0} → List (Option V) → ℕ → Option V → List (Option V)
set_server servers n server = slice_set servers (n - 1) server

-- the number of the server that serves a client
abbrev pub server_of : List ℕ → ℕ → ℕ
server_of served_by i = unwrap_or (slice_get served_by (i - 1)) 0

-- where a client stands
abbrev pub standing_in : {V : Type 0} → SceneOf V → ℕ → Standing
standing_in s i = standing s.group i s.history

-- ---- what happens

-- a client makes a step: it joins the history, and what was sent joins the queue of requests
unfoldable pub after_step : {V : Type 0} → SceneOf V → ℕ → Input → SceneOf V
after_step s i given =
    let v = step s.group i (standing_in s i) given in
    let sent = payload_of s.group i v.next v.sends in
    record s {
      history = record { client = i; input = given; sent = sent; returned = v.returns; object = v.object } ∷ s.history;
      up = set_queue s.up i (queue_with (queue_of s.up i) sent);
    }

-- the server of a client serves its request, and the answer joins the queue of answers. There is always such a server
abbrev pub after_serving_with : {V : Type 0} → SceneOf V → ℕ → Queue → List ℕ × V → SceneOf V
after_serving_with s i rest a = record s {
  up = set_queue s.up i rest;
  down = set_queue s.down i (queue_of s.down i ++ a.0 ∷ []);
  servers = set_server s.servers (server_of s.served_by i) (Some a.1);
}

abbrev pub after_serving_from : {V : Type 0} → Serving V → SceneOf V → ℕ → Queue → Option V → SceneOf V
after_serving_from rule s i [] server = s
after_serving_from rule s i (payload ∷ rest) None = s
after_serving_from rule s i (payload ∷ rest) (Some server) = after_serving_with s i rest (rule server i i payload)

unfoldable pub after_serving : {V : Type 0} → Serving V → SceneOf V → ℕ → SceneOf V
after_serving rule s i = after_serving_from rule s i (queue_of s.up i) (server_at s.servers (server_of s.served_by i))

-- a client takes its oldest answer, as it comes through a change
abbrev pub after_taking_from : {V : Type 0} → (List ℕ → List ℕ) → SceneOf V → ℕ → Queue → SceneOf V
after_taking_from change s i [] = s
after_taking_from change s i (payload ∷ rest) = after_step (record s { down = set_queue s.down i rest }) i (input.Payload (change payload))

unfoldable pub after_taking : {V : Type 0} → (List ℕ → List ℕ) → SceneOf V → ℕ → SceneOf V
after_taking change s i = after_taking_from change s i (queue_of s.down i)

abbrev pub payload_as_is : List ℕ → List ℕ
payload_as_is payload = payload

-- the lowest bit of one byte changes; bytes are counted from 0
abbrev pub payload_with_flip : ℕ → List ℕ → List ℕ
payload_with_flip n payload = slice_set payload n (bit_xor (unwrap_or (slice_get payload n) 0) 1)

-- ---- what a client took and sent last

abbrev pub or_before : Option (List ℕ) → Option (List ℕ) → Option (List ℕ)
or_before (Some payload) before = Some payload
or_before None before = before

abbrev pub payload_in : Input → Option (List ℕ)
payload_in (input.Call o) = None
payload_in (input.Object c) = None
payload_in input.Poll = None
payload_in input.Sync = None
payload_in (input.Payload payload) = Some payload

-- the payload that a client took last, if it took one
unfoldable pub last_taken : ℕ → List TraceStep → Option (List ℕ)
last_taken i [] = None
last_taken i (x ∷ past) = if nat_eq x.client i then or_before (payload_in x.input) (last_taken i past) else last_taken i past

-- the payload that a client sent last, if it sent one
unfoldable pub last_sent : ℕ → List TraceStep → Option (List ℕ)
last_sent i [] = None
last_sent i (x ∷ past) = if nat_eq x.client i then or_before x.sent (last_sent i past) else last_sent i past

-- it joins the client's requests again
abbrev pub after_resending : {V : Type 0} → SceneOf V → ℕ → SceneOf V
after_resending s i = record s { up = set_queue s.up i (queue_with (queue_of s.up i) (last_sent i s.history)) }

-- ---- servers

-- a server becomes a copy of another
abbrev pub after_copying : {V : Type 0} → SceneOf V → ℕ → ℕ → SceneOf V
after_copying s n t = record s { servers = set_server s.servers t (server_at s.servers n) }

-- a client is served by another server from now on
abbrev pub after_joining : {V : Type 0} → SceneOf V → ℕ → ℕ → SceneOf V
after_joining s i n = record s { served_by = slice_set s.served_by (i - 1) n }

-- ---- tests

abbrev pub is_client : {V : Type 0} → SceneOf V → ℕ → Bool
is_client s i = nat_lt 0 i && nat_le i s.group.count

abbrev pub is_server : {V : Type 0} → SceneOf V → ℕ → Bool
is_server s n = is_some (server_at s.servers n)

abbrev pub waits_in : List Queue → ℕ → Bool
waits_in queues i = nat_lt 0 (length (queue_of queues i))

-- the oldest payload of a queue; of no bytes where none waits
abbrev pub oldest_payload : Queue → List ℕ
oldest_payload [] = []
oldest_payload (payload ∷ rest) = payload

-- the oldest payload has a byte of this number
abbrev pub has_byte : List Queue → ℕ → ℕ → Bool
has_byte queues i n = nat_lt n (length (oldest_payload (queue_of queues i)))

-- ---- events

-- what may happen in a scene
pub data Event : Type 0 where
  -- a client is asked for something
  Asks : (client : ℕ) (given : Input) → Event
  -- a client's server serves the oldest of its requests
  Serves : (client : ℕ) → Event
  -- a client takes the oldest of its answers
  Takes : (client : ℕ) → Event
  -- it takes it with the lowest bit of one byte changed
  Flips : (client byte : ℕ) → Event
  -- a client takes a payload from elsewhere
  Hears : (client : ℕ) (payload : List ℕ) → Event
  -- what a client sent last joins its requests again
  Resends : (client : ℕ) → Event
  -- a server becomes a copy of another
  Copies : (server copy : ℕ) → Event
  -- a client is served by another server from now on
  Joins : (client server : ℕ) → Event

abbrev pub after_event : {V : Type 0} → Serving V → SceneOf V → Event → SceneOf V
after_event rule s (Asks i given) = after_step s i given
after_event rule s (Serves i) = after_serving rule s i
after_event rule s (Takes i) = after_taking payload_as_is s i
after_event rule s (Flips i n) = after_taking (payload_with_flip n) s i
after_event rule s (Hears i payload) = after_step s i (input.Payload payload)
after_event rule s (Resends i) = after_resending s i
after_event rule s (Copies n t) = after_copying s n t
after_event rule s (Joins i n) = after_joining s i n

-- a scene after events, the newest first
abbrev pub after_events : {V : Type 0} → Serving V → SceneOf V → List Event → SceneOf V
after_events rule s [] = s
after_events rule s (m ∷ before) = after_event rule (after_events rule s before) m

-- what a client may be asked for; a payload is none of it
abbrev pub MayAsk : {V : Type 0} → SceneOf V → ℕ → Input → Type 0
MayAsk s i (input.Payload payload) = ⊥
MayAsk s i given = MayStep s.group (standing_in s i) given

-- an event may happen: the client is one of the group, and it may be asked for this, or a payload waits, or what it takes is bytes; and a
-- server that is copied or joined exists
abbrev pub MayHappen : {V : Type 0} → SceneOf V → Event → Type 0
MayHappen s (Asks i given) = (0 < i) × (i ≤ s.group.count) × MayAsk s i given
MayHappen s (Serves i) = (0 < i) × (i ≤ s.group.count) × (queue_of s.up i ≡ [] → ⊥)
MayHappen s (Takes i) = (0 < i) × (i ≤ s.group.count) × (queue_of s.down i ≡ [] → ⊥)
MayHappen s (Flips i n) = (0 < i) × (i ≤ s.group.count) × (queue_of s.down i ≡ [] → ⊥)
MayHappen s (Hears i payload) = (0 < i) × (i ≤ s.group.count) × AreBytes payload
MayHappen s (Resends i) = (0 < i) × (i ≤ s.group.count)
MayHappen s (Copies n t) = is_server s n ≡ true
MayHappen s (Joins i n) = (0 < i) × (i ≤ s.group.count) × (is_server s n ≡ true)

-- each event is one that may happen after those before it
abbrev pub MayAllHappen : {V : Type 0} → Serving V → SceneOf V → List Event → Type 0
MayAllHappen rule s [] = Unit {0}
MayAllHappen rule s (m ∷ before) = MayAllHappen rule s before × MayHappen (after_events rule s before) m
