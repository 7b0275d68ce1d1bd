-- What holds of a server in memory: lists have the oldest first, and an index and a counter stand beside them.
use Rattle.std.specs.Prelude.{◌≡◌, ℕ, suc, ◌<◌, ◌≤◌, ◌+◌, Bool, List, length, reverse, Option, Some, None, nat_eq, slice_get, if◌then◌else◌}
use Rattle.std.specs.List.{sum_by, AllByRecursion}
use Rattle.std.specs.FinMap as map
use Rattle.vic_dict.specs.declared.limits.TheConstants.{MOST_CLIENTS, MOST_ENTRIES, MOST_TOLD, MOST_WEIGHT}
use Rattle.vic_dict.specs.declared.op.Op.{Op}
use Rattle.vic_dict.specs.declared.op.Op.TheVariants as op
use Rattle.std.specs.Coded.{Coded}
use Rattle.vic_dict.specs.Dictionary.{Dictionary, bytes_code}
use Rattle.vic_wire.specs.declared.message.Seal.{Seal}
use Rattle.vic_wire.specs.declared.message.ToClient.{ToClient}
use Rattle.vic_wire.specs.declared.message.ToClient.TheVariants as say
use Rattle.vic_order.specs.declared.Stage.{Stage}
use Rattle.vic_order.specs.declared.Stage.TheVariants as stage
use Rattle.vic_order.specs.Order.{Ordered, Committed, Member, Server, commit_in, op_weight, unsealed_weight, update_part, size, weight}

-- what an index says of a place; nothing past its end
abbrev pub or_nothing : Option (Option Bool) → Option Bool
or_nothing (Some s) = s
or_nothing None = None

abbrev pub status_in : List (Option Bool) → ℕ → Option Bool
status_in statuses place = or_nothing (slice_get statuses place)

-- an open call stands in the log
abbrev pub IsWithin : ℕ → Stage → Type 0
IsWithin size stage.Away = Unit {0}
IsWithin size stage.Ready = Unit {0}
IsWithin size (stage.Open t) = t ≤ size
IsWithin size stage.Left = Unit {0}

abbrev pub AreWithin : ℕ → List Member → Type 0
AreWithin size members = AllByRecursion (λ m. IsWithin size m.stage) members

-- the weight of the pairs of a dictionary
abbrev pub pairs_weight : Dictionary → ℕ
pairs_weight d = sum_by (λ p. length p.0 + length p.1 + 16) (map.entries d)

-- what a key weighs with the value that it has, if it has one
abbrev pub pair_weight : List ℕ → List ℕ → ℕ
pair_weight k v = length k + length v + 16

abbrev pub held_weight : List ℕ → Option (List ℕ) → ℕ
held_weight k None = 0
held_weight k (Some v) = pair_weight k v

-- what the weight loses when a done entry is sealed: the pair that a put or del takes away
abbrev pub weight_freed : Dictionary → Op → ℕ
weight_freed d (op.Put k v) = held_weight k (map.get d k)
weight_freed d (op.Get k) = 0
weight_freed d (op.Del k) = held_weight k (map.get d k)
weight_freed d (op.List p) = 0

-- what a server in memory keeps true
pub record IsSound (rows : List Ordered) (commits : List Committed) (index : List (Option Bool)) (seals : List Seal) (d : Dictionary) (members : List Member) (counted : ℕ) : Type 0 where
  pub room : length rows ≤ MOST_ENTRIES
  pub sealed : length seals ≤ length rows
  pub indexed : length rows ≤ length index
  pub statuses : (place : ℕ) → commit_in (reverse commits) (suc place) ≡ status_in index place
  pub count : (0 < length members) × (length members ≤ MOST_CLIENTS)
  pub stages : AreWithin (length rows) members
  pub weight : counted ≡ pairs_weight d + unsealed_weight (length seals) (reverse rows)
  pub light : counted ≤ MOST_WEIGHT

-- the turn, from the seal below it, the sealed dictionary, and the first entry that isn't sealed with its commit
abbrev pub turn_from : Seal → Dictionary → ℕ → Option Ordered → Option Bool → ToClient
turn_from seal d who (Some o) (Some done) = if nat_eq o.entry.client who then say.Update seal (update_part d o.entry.op done) else say.Wait
turn_from seal d who o status = say.Wait

-- an Invoke that passes its tests
pub record IsAllowed (s : Server) (from : ℕ) (o : Op) : Type 0 where
  pub known : from ≤ size s
  pub room : size s < MOST_ENTRIES
  pub light : weight s + op_weight o ≤ MOST_WEIGHT
  pub near : size s + 1 ≤ from + MOST_TOLD

-- dictionaries as data
abbrev pub dictionary_code : Coded Dictionary
dictionary_code = map.code bytes_code bytes_code
