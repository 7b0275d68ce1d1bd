-- Runs of clients with one honest server.
use Rattle.std.specs.Prelude.{◌≡◌, List, [], ◌∷◌, Some, None}
use Rattle.vic_wire.specs.Hashes.{Group, IsGroup}
use Rattle.vic_order.specs.Order.{Server}
use Rattle.vic_order.specs.Serving.{by_rule}
use Rattle.vic_order.specs.Scenes.{Scene, SceneOf, opening, server_at, Event, Asks, Serves, Takes, Flips, Hears, Resends, Copies, Joins, after_events, MayHappen}

-- an event that leaves requests and answers as they are, in their order, and clients with their server
abbrev pub IsHonestEvent : Event → Type 0
IsHonestEvent (Asks i given) = Unit {0}
IsHonestEvent (Serves i) = Unit {0}
IsHonestEvent (Takes i) = Unit {0}
IsHonestEvent (Flips i n) = ⊥
IsHonestEvent (Hears i payload) = ⊥
IsHonestEvent (Resends i) = ⊥
IsHonestEvent (Copies n t) = ⊥
IsHonestEvent (Joins i n) = ⊥

abbrev pub MayHonestly : Scene → Event → Type 0
MayHonestly s m = IsHonestEvent m × MayHappen s m

-- where events lead from the opening, the newest first
abbrev pub scene_after : Group → List Event → Scene
scene_after g events = after_events by_rule (opening g) events

abbrev pub AreHonest : Group → List Event → Type 0
AreHonest g [] = Unit {0}
AreHonest g (m ∷ before) = AreHonest g before × MayHonestly (scene_after g before) m

-- honest events, in whatever order they come, lead to a scene, and this is its one server
pub record IsHonestRun (s : Scene) (server : Server) (events : List Event) : Type 0 where
  pub group : IsGroup s.group
  pub may : AreHonest s.group events
  pub is : s ≡ scene_after s.group events
  pub one : server_at s.servers 1 ≡ Some server

-- the scene with a server that follows the rule in place of its own
abbrev pub scene_by_rule : {V : Type 0} → SceneOf V → Server → Scene
scene_by_rule s server = record { group = s.group; history = s.history; up = s.up; down = s.down; served_by = s.served_by; servers = Some server ∷ None ∷ None ∷ None ∷ [] }

-- honest events lead to a scene of servers of any kind, but that its one server is, as far as R says, the one that follows the rule
pub record ComesHonestly {V : Type 0} (R : V → Server → Type 0) (s : SceneOf V) : Type 0 where
  pub events : List Event
  pub server : Server
  pub run : IsHonestRun (scene_by_rule s server) server events
  pub own : V
  pub only : s.servers ≡ Some own ∷ None ∷ None ∷ None ∷ []
  pub same : R own server

-- it is that server. (Of servers of any kind R says `AnswersAs`.)
abbrev pub IsSameServer : Server → Server → Type 0
IsSameServer own server = own ≡ server
