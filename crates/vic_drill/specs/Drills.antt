-- A drill: the run of a group with one honest server whose events are drawn from a number, and its summary.
use Rattle.std.specs.Prelude.{ℕ, zero, suc, ◌+◌, ◌*◌, Bool, true, false, ◌||◌, List, [], ◌∷◌, ◌++◌, replicate, Option, Some, None, nat_lt, if◌then◌else◌, codes, count_by}
use Rattle.std.specs.Fmt.{decimal}
use Rattle.std.specs.FinMap as map
use Rattle.vic_dict.specs.declared.op.Mode.TheVariants as mode
use Rattle.vic_dict.specs.declared.op.Outcome.{Outcome}
use Rattle.vic_dict.specs.declared.op.Outcome.TheVariants as outcome
use Rattle.vic_wire.specs.Hashes.{Group}
use Rattle.vic_rules.specs.declared.trace.Input.TheVariants as input
use Rattle.vic_rules.specs.declared.trace.TraceStep.{TraceStep}
use Rattle.vic_order.specs.Order.{Server, Ordered, sealed_count, weight, ordered_at}
use Rattle.vic_order.specs.Serving.{by_rule}
use Rattle.vic_order.specs.Scenes.{Scene, opening, server_at, waits_in, Event, Asks, Serves, Takes, after_event}
use Rattle.vic_gen.specs.declared.Act.{Act}
use Rattle.vic_gen.specs.declared.Act.TheVariants as act
use Rattle.vic_gen.specs.Drawing.{Drawing, drawing_from, next_drawing, client_drawn, act_of, drawing_after_act}

-- a group without objects, under a key of 32 zeros
abbrev pub drill_group : ℕ → Group
drill_group clients = record { mode = mode.Plain; count = clients; key = replicate 32 0 }

-- what is drawn from, how many calls were made, the events so far (the newest first), and the scene to which they lead
pub record DrillState : Type 0 where
  pub drawing : Drawing
  pub calls : ℕ
  pub events : List Event
  pub scene : Scene

abbrev pub drill_at_start : ℕ → ℕ → DrillState
drill_at_start number clients = record { drawing = drawing_from number clients; calls = 0; events = []; scene = opening (drill_group clients) }

abbrev pub drill_after_event : Event → DrillState → DrillState
drill_after_event m d = record d { events = m ∷ d.events; scene = after_event by_rule d.scene m }

-- ---- the main phase

abbrev pub drill_after_act : ℕ → Act → DrillState → DrillState
drill_after_act me act.Poll d = drill_after_event (Asks me input.Poll) d
drill_after_act me (act.Call o) d = record (drill_after_event (Asks me (input.Call o)) d) { calls = d.calls + 1 }

-- a client acts, by what is drawn
abbrev pub drill_after_next_act : ℕ → DrillState → DrillState
drill_after_next_act me d = drill_after_act me (act_of d.drawing me (d.calls + 1)) (record d { drawing = drawing_after_act d.drawing me })

-- something waits for a client's server, or for the client
abbrev pub waits_for : Scene → ℕ → Bool
waits_for s me = waits_in s.up me || waits_in s.down me

-- its oldest request is served; or, where none waits, it takes its oldest answer
abbrev pub drill_after_delivery : ℕ → DrillState → DrillState
drill_after_delivery me d = if waits_in d.scene.up me then drill_after_event (Serves me) d else drill_after_event (Takes me) d

-- one turn of a client: it goes on, or acts where nothing waits
abbrev pub drill_after_turn_of : ℕ → DrillState → DrillState
drill_after_turn_of me d = if waits_for d.scene me then drill_after_delivery me d else drill_after_next_act me d

-- one turn, of the client that is drawn
abbrev pub drill_after_turn : DrillState → DrillState
drill_after_turn d = drill_after_turn_of (client_drawn d.drawing) (record d { drawing = next_drawing d.drawing })

-- a turn, where fewer calls were made
abbrev pub drill_after_turn_below : ℕ → DrillState → DrillState
drill_after_turn_below calls d = if nat_lt d.calls calls then drill_after_turn d else d

-- the same so many times
unfoldable pub drill_after_repeats : ℕ → (DrillState → DrillState) → DrillState → DrillState
drill_after_repeats zero f d = d
drill_after_repeats (suc n) f d = drill_after_repeats n f (f d)

-- ---- the closing phase

-- the first client for whom something waits, of so many from one on
unfoldable pub first_waiting : Scene → ℕ → ℕ → Option ℕ
first_waiting s me zero = None
first_waiting s me (suc n) = if waits_for s me then Some me else first_waiting s (me + 1) n

-- the one server
abbrev pub server_in : Scene → Option Server
server_in s = server_at s.servers 1

-- the first entry that isn't sealed, if there is one
abbrev pub unsealed_in : Option Server → Option Ordered
unsealed_in None = None
unsealed_in (Some s) = ordered_at s (sealed_count s + 1)

-- its owner polls
abbrev pub drill_after_poll : Option Ordered → DrillState → DrillState
drill_after_poll None d = d
drill_after_poll (Some o) d = drill_after_event (Asks o.entry.client input.Poll) d

-- the first client for whom something waits goes on; where nothing waits, the owner of the first unsealed entry polls; and where all
-- is sealed, nothing changes any more
abbrev pub drill_after_closing_by : Option ℕ → DrillState → DrillState
drill_after_closing_by (Some me) d = drill_after_delivery me d
drill_after_closing_by None d = drill_after_poll (unsealed_in (server_in d.scene)) d

abbrev pub drill_after_closing : DrillState → DrillState
drill_after_closing d = drill_after_closing_by (first_waiting d.scene 1 d.scene.group.count) d

-- ---- the whole

-- a call and a third of a poll take eight turns at most
abbrev pub most_turns : ℕ → ℕ
most_turns calls = 8 * calls

-- more than clients have under way and the server has to seal
abbrev pub most_events : ℕ → ℕ → ℕ
most_events clients calls = 8 * (clients + calls)

-- a drill: it makes its calls, what is under way goes on, and all is sealed
unfoldable pub drill_of : ℕ → ℕ → ℕ → DrillState
drill_of number clients calls = drill_after_repeats (most_events clients calls) drill_after_closing (drill_after_repeats (most_turns calls) (drill_after_turn_below calls) (drill_at_start number clients))

-- ---- its summary

-- a call ended so
abbrev pub ends_done : Option Outcome → Bool
ends_done (Some (outcome.Done a)) = true
ends_done _ = false

abbrev pub ends_aborted : Option Outcome → Bool
ends_aborted (Some (outcome.Aborted u)) = true
ends_aborted _ = false

abbrev pub ends_refused : Option Outcome → Bool
ends_refused (Some (outcome.Refused r)) = true
ends_refused _ = false

-- how many calls of a history ended so
abbrev pub count_of : (Option Outcome → Bool) → List TraceStep → ℕ
count_of ends h = count_by (λ x. ends x.returned) h

abbrev pub line : List ℕ → ℕ → List ℕ
line name n = name ++ 32 ∷ decimal n ++ 10 ∷ []

-- the length of the sealed part, the pairs and the weight of the server, if there is one
abbrev pub server_lines : Option Server → List ℕ
server_lines None = []
server_lines (Some s) = line (codes "sealed") (sealed_count s) ++ line (codes "pairs") (map.len s.dictionary) ++ line (codes "weight") (weight s)

abbrev pub summary : ℕ → ℕ → Scene → List ℕ
summary clients calls s =
    line (codes "clients") clients ++ line (codes "calls") calls
    ++ line (codes "done") (count_of ends_done s.history) ++ line (codes "aborted") (count_of ends_aborted s.history)
    ++ line (codes "refused") (count_of ends_refused s.history)
    ++ server_lines (server_in s)

abbrev pub print_of_drill : ℕ → ℕ → ℕ → List ℕ
print_of_drill number clients calls = summary clients calls (drill_of number clients calls).scene
