-- What a request changes, once it was accepted.
use Rattle.std.specs.Prelude.{◌≡◌, ℕ, ◌+◌, ◌<◌, ◌≤◌, ◌∷◌, length, Some, None, Bool, true, false}
use Rattle.vic_dict.specs.declared.limits.TheConstants.{LONGEST_CONTENT, MOST_ENTRIES, MOST_WEIGHT}
use Rattle.vic_wire.specs.declared.message.ToClient.TheVariants as say
use Rattle.vic_wire.specs.Messages.{HasSpelling, IsSeal}
use Rattle.vic_bounds.specs.Bounds.{HasShortPart}
use Rattle.vic_order.specs.declared.Stage.TheVariants as stage
use Rattle.vic_order.specs.Order.{Server, Answered, set_member, set_stage, size, sealed_count, weight, op_weight, commit_at, with_commit, with_seal}
use Rattle.vic_rules.specs.Objects.{content_hash}
use Rattle.vic_blob.specs.Keeping.{kept_under, IsRoom}
use Rattle.vic_server.specs.declared.change.Change.{Change}
use Rattle.vic_server.specs.declared.change.Change.TheVariants as change
use Rattle.vic_server.specs.declared.change.Plan.{Plan}

-- the server that a change leaves
abbrev pub server_after : Server → Change → Server
server_after s change.Nothing = s
server_after s (change.Enters client) = set_stage s client stage.Ready
server_after s (change.Orders who row) = set_member (record s { log = row ∷ s.log }) who (record { last = row.entry.seq; stage = stage.Open (size s + 1) })
server_after s (change.Commits who position done tag) = set_stage (with_commit s position done tag) who stage.Ready
server_after s (change.Seals seal done) = with_seal s seal
server_after s (change.Keeps hash content) = record s { contents = content ∷ s.contents }
server_after s (change.Leaves who) = set_stage s who stage.Left

-- whether anything changes
abbrev pub makes_change : Change → Bool
makes_change change.Nothing = false
makes_change (change.Enters client) = true
makes_change (change.Orders who row) = true
makes_change (change.Commits who position done tag) = true
makes_change (change.Seals seal done) = true
makes_change (change.Keeps hash content) = true
makes_change (change.Leaves who) = true

abbrev pub IsSeat : Server → ℕ → Type 0
IsSeat s who = (0 < who) × (who ≤ length s.members)

-- what a change needs
abbrev pub IsPossible : Server → Change → Type 0
IsPossible s change.Nothing = Unit {0}
IsPossible s (change.Enters client) = IsSeat s client
IsPossible s (change.Orders who row) = IsSeat s who × ((size s < MOST_ENTRIES) × (weight s + op_weight row.entry.op ≤ MOST_WEIGHT))
IsPossible s (change.Commits who position done tag) = IsSeat s who × ((0 < position) × (position ≤ size s))
IsPossible s (change.Seals seal done) = (seal.position ≡ sealed_count s + 1) × ((seal.position ≤ size s) × ((commit_at s seal.position ≡ Some done) × IsSeal seal))
IsPossible s (change.Keeps hash content) = (hash.bytes ≡ content_hash content) × ((kept_under s.contents hash.bytes ≡ None) × (IsRoom s.contents content × (length content ≤ LONGEST_CONTENT)))
IsPossible s (change.Leaves who) = IsSeat s who

-- a plan is what the rule says: the server that it leaves, and the answer, which has a spelling
abbrev pub Follows : Answered → Server → Plan → Type 0
Follows a s p = (server_after s p.change ≡ a.next) × ((p.answer ≡ a.answer) × (HasSpelling p.answer × (IsPossible s p.change × ((makes_change p.change ≡ a.change) × HasShortPart p.answer))))

-- nothing changes, and the client is to wait
abbrev pub to_wait : Plan
to_wait = record { answer = say.Wait; change = change.Nothing }
