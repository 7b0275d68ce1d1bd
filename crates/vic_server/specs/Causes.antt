-- The causes of the server's answers, each by a condition of its own on the request that a payload spells, if it spells one.
use Rattle.std.specs.Prelude.{◌≡◌, ℕ, ◌+◌, ◌-◌, ◌<◌, ◌≤◌, ◌↔◌, Bool, List, length, Option, Some, None}
use Rattle.vic_dict.specs.declared.limits.TheConstants.{MOST_ENTRIES, MOST_TOLD, MOST_UNSEALED, MOST_WEIGHT}
use Rattle.vic_dict.specs.declared.op.Op.{Op}
use Rattle.vic_dict.specs.declared.op.Op.TheVariants as op
use Rattle.vic_dict.specs.declared.op.Mode.{Mode}
use Rattle.vic_dict.specs.declared.op.Mode.TheVariants as mode
use Rattle.vic_wire.specs.declared.refusal.TheConstants.{BEHIND, PENDING_FULL, WEIGHT_FULL, HISTORY_FULL, OUT_OF_ORDER, NOT_MEMBER, CONTENT_FULL}
use Rattle.vic_wire.specs.declared.message.ToServer.{ToServer}
use Rattle.vic_wire.specs.declared.message.ToServer.TheVariants as ask
use Rattle.vic_wire.specs.declared.message.ToClient.{ToClient}
use Rattle.vic_wire.specs.declared.message.ToClient.TheVariants as say
use Rattle.vic_rules.specs.Objects.{content_hash}
use Rattle.vic_blob.specs.Keeping.{kept_under, IsRoom}
use Rattle.vic_order.specs.declared.Stage.{Stage}
use Rattle.vic_order.specs.declared.Stage.TheVariants as stage
use Rattle.vic_order.specs.Order.{Ordered, Server, member, size, sealed_count, weight, op_weight, ordered_at, commit_at, with_commit, with_seal}

-- ---- who may ask

-- the client has come in and not left
abbrev pub IsInside : Stage → Type 0
IsInside stage.Away = ⊥
IsInside stage.Ready = Unit {0}
IsInside (stage.Open t) = Unit {0}
IsInside stage.Left = ⊥

-- the connection's client is one of the group, and inside
pub record HasComeIn (s : Server) (who : ℕ) : Type 0 where
  pub some : 0 < who
  pub within : who ≤ length s.members
  pub inside : IsInside (member s who).stage

-- a client of the group that hasn't come in yet, in the group's mode
pub record IsExpected (s : Server) (kind : Mode) (client : ℕ) : Type 0 where
  pub some : 0 < client
  pub within : client ≤ length s.members
  pub mode : kind ≡ s.mode
  pub away : (member s client).stage ≡ stage.Away

-- ---- the order of requests

abbrev pub IsReady : Server → ℕ → Type 0
IsReady s who = (member s who).stage ≡ stage.Ready

-- the entry of a position is the client's, and committed
abbrev pub IsOwnCommitted : ℕ → Option Ordered → Option Bool → Type 0
IsOwnCommitted who (Some o) (Some done) = o.entry.client ≡ who
IsOwnCommitted who _ _ = ⊥

-- a Hello comes before any other; a call has a new number and a path no longer than the log; a Commit is of the open call; a
-- Seal is of the position above the last seal
abbrev pub IsInOrder : Server → ℕ → ToServer → Type 0
IsInOrder s who (ask.Hello kind client) = who ≡ 0
IsInOrder s who (ask.Invoke known seq o tag) = IsReady s who × (((member s who).last < seq) × (known ≤ size s))
IsInOrder s who (ask.Commit position done tag) = (member s who).stage ≡ stage.Open position
IsInOrder s who ask.Poll = IsReady s who
IsInOrder s who (ask.Seal position root tag) = IsReady s who × ((position ≡ sealed_count s + 1) × IsOwnCommitted who (ordered_at s position) (commit_at s position))
IsInOrder s who (ask.Sync known) = IsReady s who × (known ≤ size s)
IsInOrder s who (ask.Keep content) = IsReady s who × (s.mode ≡ mode.Objects)
IsInOrder s who (ask.Fetch h) = IsReady s who × (s.mode ≡ mode.Objects)
IsInOrder s who ask.Bye = IsReady s who

-- what is no request is out of order; a Hello is asked for its order first, and any other request for who sent it
abbrev pub IsOutOfOrder : Server → ℕ → Option ToServer → Type 0
IsOutOfOrder s who None = Unit {0}
IsOutOfOrder s who (Some (ask.Hello kind client)) = IsInOrder s who (ask.Hello kind client) → ⊥
IsOutOfOrder s who (Some m) = HasComeIn s who × (IsInOrder s who m → ⊥)

abbrev pub IsNoMember : Server → ℕ → Option ToServer → Type 0
IsNoMember s who None = ⊥
IsNoMember s who (Some (ask.Hello kind client)) = IsInOrder s who (ask.Hello kind client) × (IsExpected s kind client → ⊥)
IsNoMember s who (Some m) = HasComeIn s who → ⊥

-- ---- the limits of calls

-- the log is full; as many entries aren't sealed as may be
abbrev pub IsLogFull : Server → Type 0
IsLogFull s = size s ≡ MOST_ENTRIES

abbrev pub IsPendingFull : Server → Type 0
IsPendingFull s = size s - sealed_count s ≡ MOST_UNSEALED

-- with this put the weight would be too large
abbrev pub IsPut : Op → Type 0
IsPut (op.Put k v) = Unit {0}
IsPut _ = ⊥

abbrev pub IsTooHeavy : Server → Op → Type 0
IsTooHeavy s o = IsPut o × (MOST_WEIGHT < weight s + op_weight o)

-- a client that knows so many entries would be told too many
abbrev pub IsTooFar : Server → ℕ → Type 0
IsTooFar s known = MOST_TOLD < size s + 1 - known

-- the request is a call of a client that has come in, in its order, and of what it knows and its operation this holds
abbrev pub OfCall : Server → ℕ → Option ToServer → (ℕ → Op → Type 0) → Type 0
OfCall s who (Some (ask.Invoke known seq o tag)) P = HasComeIn s who × (IsInOrder s who (ask.Invoke known seq o tag) × P known o)
OfCall s who _ P = ⊥

-- ---- contents

-- no content is kept under this hash
abbrev pub IsUnknown : Server → List ℕ → Type 0
IsUnknown s h = kept_under s.contents h ≡ None

-- the request is a Keep of a client that has come in, in its order, and of its content this holds
abbrev pub OfKeep : Server → ℕ → Option ToServer → (List ℕ → Type 0) → Type 0
OfKeep s who (Some (ask.Keep content)) P = HasComeIn s who × (IsInOrder s who (ask.Keep content) × P content)
OfKeep s who _ P = ⊥

-- the same of a Fetch and its hash
abbrev pub OfFetch : Server → ℕ → Option ToServer → (List ℕ → Type 0) → Type 0
OfFetch s who (Some (ask.Fetch h)) P = HasComeIn s who × (IsInOrder s who (ask.Fetch h) × P h.bytes)
OfFetch s who _ P = ⊥

-- ---- waiting

-- the first entry that isn't sealed is missing, isn't committed, or is another client's
abbrev pub IsNotDue : ℕ → Option Ordered → Option Bool → Type 0
IsNotDue who None status = Unit {0}
IsNotDue who (Some o) None = Unit {0}
IsNotDue who (Some o) (Some done) = o.entry.client ≡ who → ⊥

abbrev pub HasNoTurn : Server → ℕ → Type 0
HasNoTurn s who = IsNotDue who (ordered_at s (sealed_count s + 1)) (commit_at s (sealed_count s + 1))

-- a Commit, a Poll or a Seal of a client that has come in, in its order, after which it isn't the client's turn
abbrev pub IsToWait : Server → ℕ → Option ToServer → Type 0
IsToWait s who (Some (ask.Commit position done tag)) = HasComeIn s who × (IsInOrder s who (ask.Commit position done tag) × HasNoTurn (with_commit s position done tag) who)
IsToWait s who (Some ask.Poll) = HasComeIn s who × (IsInOrder s who ask.Poll × HasNoTurn s who)
IsToWait s who (Some (ask.Seal position root tag)) =
    HasComeIn s who × (IsInOrder s who (ask.Seal position root tag) × HasNoTurn (with_seal s (record { position = position; root = root; tag = tag })) who)
IsToWait s who _ = ⊥

-- ---- the causes

-- each answer comes exactly where its cause holds. Of a call's limits the full log is asked first, then the entries that aren't
-- sealed, the weight, and how far the client is behind. Contents are too many where one of a new hash has no room; one is absent where
-- none has its hash
pub record Causes (s : Server) (who : ℕ) (request : Option ToServer) (a : ToClient) : Type 0 where
  pub out_of_order : (a ≡ say.Refused OUT_OF_ORDER) ↔ IsOutOfOrder s who request
  pub no_member : (a ≡ say.Refused NOT_MEMBER) ↔ IsNoMember s who request
  pub log_full : (a ≡ say.Refused HISTORY_FULL) ↔ OfCall s who request (λ known o. IsLogFull s)
  pub pending_full : (a ≡ say.Refused PENDING_FULL) ↔ OfCall s who request (λ known o. (IsLogFull s → ⊥) × IsPendingFull s)
  pub too_heavy : (a ≡ say.Refused WEIGHT_FULL) ↔ OfCall s who request (λ known o. (IsLogFull s → ⊥) × ((IsPendingFull s → ⊥) × IsTooHeavy s o))
  pub too_far : (a ≡ say.Refused BEHIND) ↔ OfCall s who request (λ known o. (IsLogFull s → ⊥) × ((IsPendingFull s → ⊥) × ((IsTooHeavy s o → ⊥) × IsTooFar s known)))
  pub waits : (a ≡ say.Wait) ↔ IsToWait s who request
  pub full : (a ≡ say.Refused CONTENT_FULL) ↔ OfKeep s who request (λ content. IsUnknown s (content_hash content) × (IsRoom s.contents content → ⊥))
  pub absent : (a ≡ say.Absent) ↔ OfFetch s who request (IsUnknown s)
