-- Scenes that lines of a script reach, and what holds of each of them.
use Rattle.std.specs.Prelude.{◌≡◌, ℕ, ◌+◌, ◌≤◌, true, length, Option, Some, None}
use Rattle.std.specs.List.{AllByRecursion}
use Rattle.vic_dict.specs.Lists.{AreBytes}
use Rattle.vic_dict.specs.Dictionary.{IsProper}
use Rattle.vic_wire.specs.declared.message.Seal.{Seal}
use Rattle.vic_wire.specs.Messages.{IsEntry}
use Rattle.vic_rules.specs.declared.object.Phase.{Phase}
use Rattle.vic_rules.specs.declared.object.Phase.TheVariants as phase
use Rattle.vic_rules.specs.Client.{Standing}
use Rattle.vic_rules.specs.History.{IsLawful}
use Rattle.vic_order.specs.Order.{Ordered, Server}
use Rattle.vic_order.specs.Honest.{ComesHonestly}
use Rattle.vic_order.specs.Scenes.{Queue, SceneOf, is_server, standing_in}
use Rattle.vic_attacks.specs.declared.HostileKind.TheVariants as kind
use Rattle.vic_attacks.specs.Hostile.{Hostile}

-- ---- scenes that any lines reach

-- what a server keeps is bytes: entries with a spelling and their tags, seals, proper dictionaries, contents
pub record OrderedHolds (o : Ordered) : Type 0 where
  pub entry : IsEntry o.entry
  pub tag : AreBytes o.tag.bytes

pub record SealHolds (x : Seal) : Type 0 where
  pub root : AreBytes x.root.bytes
  pub tag : AreBytes x.tag.bytes

pub record ServerHolds (s : Server) : Type 0 where
  pub log : AllByRecursion OrderedHolds s.log
  pub seals : AllByRecursion SealHolds s.seals
  pub dictionary : IsProper s.dictionary
  pub contents : AllByRecursion AreBytes s.contents

abbrev pub IfThere : {V : Type 0} → (V → Type 0) → Option V → Type 0
IfThere P None = Unit {0}
IfThere P (Some v) = P v

-- what a hostile server keeps is bytes
pub record HostileHolds (h : Hostile) : Type 0 where
  pub going : ServerHolds h.going
  pub kept : IfThere ServerHolds h.kept
  pub past : IfThere IsProper h.past
  pub told : AllByRecursion (IfThere AreBytes) h.told

-- the payloads that wait are bytes
abbrev pub HoldsBytes : Queue → Type 0
HoldsBytes queue = AllByRecursion AreBytes queue

-- a store that waits for its content to be kept calls once more
abbrev pub to_call : Phase → ℕ
to_call (phase.Keeping k h len) = 1
to_call phase.Closed = 0
to_call phase.Calling = 0
to_call (phase.Fetching h len) = 0

-- how many calls a client was asked for: those that it called, and that of its store
abbrev pub calls_in : Standing → ℕ
calls_in t = t.calls + to_call t.phase

-- the clients have stepped by the rules, none was asked for more than n calls, each has its queues and a server that exists, and all that
-- waits or is kept is bytes
pub record IsReached (s : SceneOf Hostile) (n : ℕ) : Type 0 where
  pub lawful : IsLawful s.group s.history
  pub calls : (i : ℕ) → calls_in (standing_in s i) ≤ n
  pub up_count : length s.up ≡ s.group.count
  pub down_count : length s.down ≡ s.group.count
  pub up_bytes : AllByRecursion HoldsBytes s.up
  pub down_bytes : AllByRecursion HoldsBytes s.down
  pub by_count : length s.served_by ≡ s.group.count
  pub placed : AllByRecursion (λ n. is_server s n ≡ true) s.served_by
  pub servers_count : length s.servers ≡ 4
  pub servers : AllByRecursion (IfThere HostileHolds) s.servers

-- ---- scenes of clients with one honest server

-- a hostile server of the kind that doesn't misbehave, in which this server goes on
abbrev pub GoesAs : Hostile → Server → Type 0
GoesAs h server = (h.kind ≡ kind.Honest) × (h.going ≡ server)

-- so it is, no client was asked for more than n calls, and the requests that wait are bytes
pub record IsHonestlyReached {V : Type 0} (R : V → Server → Type 0) (s : SceneOf V) (n : ℕ) : Type 0 where
  pub comes : ComesHonestly R s
  pub calls : (i : ℕ) → calls_in (standing_in s i) ≤ n
  pub up_bytes : AllByRecursion HoldsBytes s.up
