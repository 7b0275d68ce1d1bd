-- What connections asked of one server: each answer stands at a front of the one history that the server keeps at the end.
use Rattle.std.specs.Prelude.{◌≡◌, ℕ, ◌+◌, ◌<◌, ◌≤◌, List, [], ◌∷◌, ◌++◌, length, take, drop, Option, Some, None, slice_get, true, false}
use Rattle.vic_wire.specs.declared.message.ToClient.{ToClient}
use Rattle.vic_change.specs.declared.Change.{Change}
use Rattle.vic_change.specs.Changes.{of_seat}
use Rattle.vic_order.specs.Order.{Server, Answered, serve}
use Rattle.vic_turn.specs.Changes.{Each}
use Rattle.vic_ports.specs.Links.{Told, Lines}
use Rattle.vic_gate.specs.declared.worker.WorkEnd.{WorkEnd}
use Rattle.vic_gate.specs.Workers.{IsWorked, by_hello}
use Rattle.vic_server.specs.Replay.{KeptServer, replay, changes_made}

-- how far a connection has come: the place in the history up to which it has seen it, and the changes that its requests made
pub record Place : Type 0 where
  pub at : ℕ
  pub mine : List Change

abbrev pub place : ℕ → List Change → Place
place at mine = record { at = at; mine = mine }

abbrev pub start : Place
start = place 0 []

-- what the rule says at a place of the history
abbrev pub served_at : KeptServer → ℕ → ℕ → List ℕ → Answered
served_at k at who payload = serve (replay k.opening (take at k.changes)) who payload

-- the answer at a place is the rule's there, and where the request makes a change, that change stands next
pub record AnsweredAt (k : KeptServer) (seat : ℕ) (from : Place) (who : ℕ) (payload : List ℕ) (answer : ToClient) (to : Place) : Type 0 where
  pub at : ℕ
  pub later : from.at ≤ at
  pub within : at ≤ length k.changes
  pub answer_is : answer ≡ (served_at k at who payload).answer
  pub next : take (length (changes_made seat who payload (served_at k at who payload))) (drop at k.changes) ≡ changes_made seat who payload (served_at k at who payload)
  pub to_is : to ≡ place (at + length (changes_made seat who payload (served_at k at who payload))) (from.mine ++ changes_made seat who payload (served_at k at who payload))

-- a request that found no memory makes no change
abbrev pub answers_at : KeptServer → ℕ → Place → ℕ → List ℕ → Option ToClient → Place → Type 0
answers_at k seat from who payload (Some a) to = AnsweredAt k seat from who payload a to
answers_at k seat from who payload None to = (from.at ≤ to.at) × (to.mine ≡ from.mine)

-- a worker's connection: its worker answered at places of the history, and the history's changes with its number are those that
-- its requests made
pub record Attends (k : KeptServer) (seat : ℕ) (old : Told) (end : WorkEnd) (new : Told) : Type 0 where
  pub last : Place
  pub worked : IsWorked by_hello (answers_at k seat) old start end new last
  pub own : of_seat seat k.changes ≡ last.mine

-- so many lines came to a server and were given back in order, one worker for each; and the server keeps one history
pub record IsRun (count : ℕ) (opening : Server) (lines : Lines) (ends : List WorkEnd) (k : KeptServer) : Type 0 where
  pub opening_is : k.opening ≡ opening
  pub server_is : k.server ≡ replay k.opening k.changes
  pub came : length lines.came ≡ count
  pub back : length lines.back ≡ count
  pub workers : length ends ≡ count
  pub each : (i : ℕ) (old new : Told) (end : WorkEnd) → slice_get lines.came i ≡ Some old
      → slice_get lines.back i ≡ Some new → slice_get ends i ≡ Some end → Attends k (i + 1) old end new
  pub nothing_else : Each (λ c. (0 < c.seat) × (c.seat ≤ count)) k.changes
