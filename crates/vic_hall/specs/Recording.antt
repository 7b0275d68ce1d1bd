-- What a server answers and records after a history.
use Rattle.std.specs.Prelude.{ℕ, List, Option, Some, None, Bool, true, false}
use Rattle.vic_wire.specs.declared.message.ToClient.{ToClient}
use Rattle.vic_change.specs.declared.Change.{Change}
use Rattle.vic_order.specs.Order.{Server, Answered, serve}
use Rattle.vic_server.specs.Replay.{replay}

abbrev pub answer_after : Server → List Change → ℕ → List ℕ → ToClient
answer_after opening h who payload = (serve (replay opening h) who payload).answer

-- who asked and the request, where it makes a change
abbrev pub recorded_if : Bool → ℕ → List ℕ → Option (ℕ × List ℕ)
recorded_if true who payload = Some (who, payload)
recorded_if false who payload = None

abbrev pub recorded_after : Server → List Change → ℕ → List ℕ → Option (ℕ × List ℕ)
recorded_after opening h who payload = recorded_if (serve (replay opening h) who payload).change who payload
