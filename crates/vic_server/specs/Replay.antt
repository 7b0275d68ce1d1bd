-- The history of a server: the changes that requests made, the oldest first, and the server that they lead to.
use Rattle.std.specs.Prelude.{ℕ, Bool, List, [], ◌∷◌, ◌++◌, if◌then◌else◌}
use Rattle.vic_dict.specs.declared.op.Mode.{Mode}
use Rattle.vic_change.specs.declared.Change.{Change}
use Rattle.vic_change.specs.Changes.{change}
use Rattle.vic_order.specs.Order.{Server, Answered, fresh_server, away_member, ready_member, serve}

-- the server after changes, from the one before them
unfoldable pub replay : Server → List Change → Server
replay s [] = s
replay s (c ∷ cs) = replay (serve s c.who c.payload).next cs

-- the change that a request of a seat made, if it made one
abbrev pub changes_made : ℕ → ℕ → List ℕ → Answered → List Change
changes_made seat who payload a = if a.change then change seat who payload ∷ [] else []

-- the server before all changes: all clients have come in, or none
abbrev pub opening_server : Mode → ℕ → Bool → Server
opening_server kind count gathered = fresh_server kind count (if gathered then ready_member else away_member)

-- a server that keeps its history: what it was before all changes, the changes, and what it is
pub record KeptServer : Type 0 where
  pub opening : Server
  pub changes : List Change
  pub server : Server

abbrev pub kept_with : Server → List Change → Server → KeptServer
kept_with opening changes server = record { opening = opening; changes = changes; server = server }

-- what it is after a request of a seat
abbrev pub after_request : KeptServer → ℕ → ℕ → List ℕ → KeptServer
after_request k seat who payload = let a = serve k.server who payload in kept_with k.opening (k.changes ++ changes_made seat who payload a) a.next
