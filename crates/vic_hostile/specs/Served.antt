-- What a server in memory has, as the rule of its kind sees it.
use Rattle.std.specs.Prelude.{◌≡◌, ℕ, List, Option, Some, None, replicate}
use Rattle.vic_dict.specs.declared.limits.TheConstants.{MOST_CLIENTS}
use Rattle.vic_order.specs.Order.{Server}
use Rattle.vic_server.specs.Replay.{KeptServer}
use Rattle.vic_attacks.specs.Hostile.{Hostile}

-- the answer and the server after it are those that a rule gives
abbrev pub IsServed : List ℕ × Hostile → List ℕ → Hostile → Type 0
IsServed given bytes next = (bytes ≡ given.0) × (next ≡ given.1)

-- the kept server, without its history
abbrev pub server_in : Option KeptServer → Option Server
server_in (Some k) = Some k.server
server_in None = None

-- the answers of the clients; none before the first is kept
abbrev pub places_in : Option (List (Option (List ℕ))) → List (Option (List ℕ))
places_in (Some told) = told
places_in None = replicate MOST_CLIENTS None
