-- The invariant of an honest run.
use Rattle.std.specs.Prelude.{◌≡◌, ℕ, ◌<◌, ◌≤◌, ◌^◌, false, List, [], ◌∷◌, ◌++◌, length, map, replicate, Option, Some, None}
use Rattle.std.specs.List.{AllByRecursion}
use Rattle.vic_dict.specs.Lists.{IsIn, AreBytes}
use Rattle.vic_dict.specs.Dictionary.{IsProper}
use Rattle.vic_wire.specs.declared.message.Seal.{Seal}
use Rattle.vic_wire.specs.declared.message.ToClient.{ToClient}
use Rattle.vic_wire.specs.Texts.{invoke_text}
use Rattle.vic_wire.specs.Hashes.{Group, IsGroup}
use Rattle.vic_wire.specs.Messages.{IsEntry, IsSeal, HasSpelling, HasRequestSpelling, request_text, answer_text}
use Rattle.vic_rules.specs.declared.state.Own.{Own}
use Rattle.vic_rules.specs.declared.trace.TraceStep.{TraceStep}
use Rattle.vic_rules.specs.declared.object.Phase.{Phase}
use Rattle.vic_rules.specs.declared.object.Phase.TheVariants as phase
use Rattle.vic_laws.proofs.Steps.{PhaseFits}
use Rattle.vic_rules.specs.Client.{Standing, Sending, Invokes, Commits, Polls, Seals, Syncs, Keeps, Fetches, request_of, awaits_nothing, seal_of, entries_of, seal_text_on}
use Rattle.vic_rules.specs.History.{AreSteps, standing}
use Rattle.vic_rules.specs.Trust.{IsForged, texts_made, text_sent}
use Rattle.vic_order.specs.Order.{Ordered, Server, size}
use Rattle.vic_order.specs.Fates.{entries}
use Rattle.vic_order.specs.Scenes.{Queue, Scene, queue_of}
use Rattle.vic_honest.proofs.Words.{AreMade, told}

-- ---- the server

-- an entry of the log has a spelling, and its invoke text was made
pub record EntryFits (made : List (List ℕ)) (o : Ordered) : Type 0 where
  pub spelled : IsEntry o.entry
  pub tag : length o.tag.bytes ≡ 32
  pub tag_bytes : AreBytes o.tag.bytes
  pub text : IsIn made (invoke_text o.entry)

-- a seal has a spelling, and its text on the log was made
pub record SealFits (g : Group) (made : List (List ℕ)) (log : List Ordered) (x : Seal) : Type 0 where
  pub spelled : IsSeal x
  pub root_bytes : AreBytes x.root.bytes
  pub tag_bytes : AreBytes x.tag.bytes
  pub within : x.position ≤ length log
  pub text : 0 < x.position → IsIn made (seal_text_on g (entries log) x.position x.root.bytes)

-- a content has a spelling
abbrev pub IsContent : List ℕ → Type 0
IsContent c = (length c ≤ 8388608) × AreBytes c

pub record ServerFits (g : Group) (made : List (List ℕ)) (s : Server) : Type 0 where
  pub log : AllByRecursion (EntryFits made) s.log
  pub seals : AllByRecursion (SealFits g made s.log) s.seals
  pub dictionary : IsProper s.dictionary
  pub room : size s ≤ 1048576
  pub contents : AllByRecursion IsContent s.contents

-- ---- a client

-- what is under way for a client: nothing, a request or an answer
pub data Doing : Type 0 where
  Rests : Doing
  Sends : (sending : Sending) → Doing
  Gets : (answer : ToClient) → Doing

abbrev pub up_by : Group → ℕ → Standing → Doing → List (List ℕ)
up_by g me t Rests = []
up_by g me t (Sends sending) = request_text (request_of g me t sending) ∷ []
up_by g me t (Gets answer) = []

abbrev pub down_by : Doing → List (List ℕ)
down_by Rests = []
down_by (Sends sending) = []
down_by (Gets answer) = answer_text answer ∷ []

abbrev pub IsWithin : ℕ → Own → Type 0
IsWithin n o = o.position ≤ n

-- a store whose content was sent can call its put, and a content that is to be fetched has a hash
abbrev pub PhaseHolds : ℕ → Phase → Type 0
PhaseHolds calls (phase.Keeping k h len) = PhaseFits calls (phase.Keeping k h len)
PhaseHolds calls (phase.Fetching h len) = length h.bytes ≡ 32
PhaseHolds calls phase.Closed = Unit {0}
PhaseHolds calls phase.Calling = Unit {0}

-- what a client keeps is within its path
pub record StandingFits (t : Standing) : Type 0 where
  pub sealed : t.sealed ≤ length t.path
  pub own : AllByRecursion (IsWithin (length t.path)) t.own
  pub root : length t.root ≡ 32
  pub root_bytes : AreBytes t.root
  pub calls : t.calls < 2 ^ 32
  pub phase : PhaseHolds t.calls t.phase

-- a content that is sent is bytes
abbrev pub SendsBytes : Sending → Type 0
SendsBytes (Keeps c) = AreBytes c
SendsBytes (Invokes n o) = Unit {0}
SendsBytes (Commits done) = Unit {0}
SendsBytes Polls = Unit {0}
SendsBytes Seals = Unit {0}
SendsBytes Syncs = Unit {0}
SendsBytes (Fetches h) = Unit {0}

-- a request has a spelling, and what it tags was made
pub record RequestGoes (g : Group) (made : List (List ℕ)) (me : ℕ) (t : Standing) (sending : Sending) : Type 0 where
  pub spelled : HasRequestSpelling (request_of g me t sending)
  pub texts : AreMade made (text_sent g me t (Some sending))
  pub content : SendsBytes sending

abbrev pub OfSeal : (Seal → Type 0) → Option Seal → Type 0
OfSeal P None = Unit {0}
OfSeal P (Some x) = P x

-- an answer has a spelling, its texts were made, and its entries are those that follow the client's path
pub record AnswerComes (g : Group) (made : List (List ℕ)) (log seen newer : List Ordered) (m : ToClient) : Type 0 where
  pub later : List Ordered
  pub between : List Ordered
  pub split : newer ≡ later ++ between
  pub listed : entries_of m ≡ told between
  pub spelled : HasSpelling m
  pub bytes : AreBytes (answer_text m)
  pub texts : AreMade made (map (λ t. invoke_text t.entry) (entries_of m))
  pub seal : OfSeal (SealFits g made log) (seal_of m)

abbrev pub Does : Group → List (List ℕ) → ℕ → List Ordered → Standing → List Ordered → List Ordered → Doing → Type 0
Does g made me log t seen newer Rests = Unit {0}
Does g made me log t seen newer (Sends sending) = RequestGoes g made me t sending
Does g made me log t seen newer (Gets m) = AnswerComes g made log seen newer m

abbrev pub IsBusy : Standing → Doing → Type 0
IsBusy t Rests = Unit {0}
IsBusy t (Sends sending) = awaits_nothing t.awaiting ≡ false
IsBusy t (Gets m) = awaits_nothing t.awaiting ≡ false

pub record ClientFits (g : Group) (made : List (List ℕ)) (me : ℕ) (log : List Ordered) (t : Standing) (up down : List (List ℕ)) : Type 0 where
  pub seen : List Ordered
  pub newer : List Ordered
  pub is : log ≡ newer ++ seen
  pub path : t.path ≡ entries seen
  pub fits : StandingFits t
  pub doing : Doing
  pub up_is : up ≡ up_by g me t doing
  pub down_is : down ≡ down_by doing
  pub busy : IsBusy t doing
  pub does : Does g made me log t seen newer doing

-- ---- the world

-- what the invariant speaks of: a history, each client's queues, and one server
pub record World : Type 0 where
  pub history : List TraceStep
  pub up : ℕ → Queue
  pub down : ℕ → Queue
  pub server : Server

pub record WorldFits (g : Group) (w : World) : Type 0 where
  pub steps : AreSteps g w.history
  pub honest : IsForged g w.history → ⊥
  pub server : ServerFits g (texts_made g w.history) w.server
  pub clients : (me : ℕ) → 0 < me → me ≤ g.count → ClientFits g (texts_made g w.history) me w.server.log (standing g me w.history) (w.up me) (w.down me)

-- of a scene with one server
abbrev pub world_of : Scene → Server → World
world_of s server = record { history = s.history; up = queue_of s.up; down = queue_of s.down; server = server }

-- each client has its queues, and this server, the only one, serves them all
pub record HasOne (s : Scene) (v : Server) : Type 0 where
  pub group : IsGroup s.group
  pub up_count : length s.up ≡ s.group.count
  pub down_count : length s.down ≡ s.group.count
  pub by : s.served_by ≡ replicate s.group.count 1
  pub only : s.servers ≡ Some v ∷ None ∷ None ∷ None ∷ []

pub record SceneFits (s : Scene) (v : Server) : Type 0 where
  pub one : HasOne s v
  pub fits : WorldFits s.group (world_of s v)
