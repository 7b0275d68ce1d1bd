-- Small scripts and their events, both written by hand.
use Rattle.std.specs.Prelude.{◌≡◌, ℕ, Bool, true, false, List, [], ◌∷◌, Option, Some, None, is_some, option_map, codes}
use Rattle.vic_rules.specs.declared.object.ObjectCall.TheVariants as object
use Rattle.vic_rules.specs.declared.trace.Input.TheVariants as input
use Rattle.vic_order.specs.Scenes.{SceneOf, server_at, Asks, Serves, Takes}
use Rattle.vic_attacks.specs.declared.HostileKind.{HostileKind}
use Rattle.vic_attacks.specs.declared.HostileKind.TheVariants as kind
use Rattle.vic_attacks.specs.Hostile.{Hostile}
use Rattle.vic_script.specs.Run.{Bad, run_of, bad_line_of}
use Rattle.vic_script_runs.specs.Events.{script_events}
use Rattle.vic_script_runs.specs.Claims.{attacks_of, text_of}

-- two clients, of which the second is asked first. Nothing waits for the second `serve 2`, so that line is bad, and the last isn't done
abbrev pub small_script : List ℕ
small_script = text_of (
    codes "clients 2" ∷ codes "key 6b6579" ∷ codes "poll 2" ∷ codes "# the other one" ∷ codes "poll 1" ∷ codes "run 1"
    ∷ codes "serve 2" ∷ codes "serve 2" ∷ codes "take 2" ∷ [])

-- its events, the last first
abbrev pub SmallScriptIs : Type 0
SmallScriptIs = script_events small_script ≡ Serves 2 ∷ Takes 1 ∷ Serves 1 ∷ Asks 1 input.Poll ∷ Asks 2 input.Poll ∷ []

-- a client of a group with objects, whose store isn't over when it is asked for more. So that line is bad, and the last isn't done
abbrev pub small_objects_script : List ℕ
small_objects_script = text_of (
    codes "objects 1" ∷ codes "call 1 store a zeros:2" ∷ codes "serve 1" ∷ codes "call 1 load a" ∷ codes "take 1" ∷ [])

-- its events, the last first
abbrev pub SmallObjectsScriptIs : Type 0
SmallObjectsScriptIs = script_events small_objects_script ≡ Serves 1 ∷ Asks 1 (input.Object (object.Store (codes "a") (0 ∷ 0 ∷ []))) ∷ []

-- ---- servers that misbehave

-- the clients' server forks after one request, and the second client asks behind it
abbrev pub fork_script : List ℕ
fork_script = text_of (
    codes "clients 2" ∷ codes "hostile fork 1" ∷ codes "poll 1" ∷ codes "serve 1" ∷ codes "poll 2" ∷ codes "serve 2" ∷ [])

-- its events, the last first
abbrev pub ForkScriptIs : Type 0
ForkScriptIs = script_events fork_script ≡ Serves 2 ∷ Asks 2 input.Poll ∷ Serves 1 ∷ Asks 1 input.Poll ∷ []

-- how a server misbehaves, after how many requests, how many it has served, and whether another one is kept
abbrev pub shown_of : Hostile → HostileKind × ℕ × ℕ × Bool
shown_of h = (h.kind, h.after, h.count, is_some h.kept)

-- so much of server 1 where a script ends
abbrev pub server_shown : Option (SceneOf Hostile) → Option (HostileKind × ℕ × ℕ × Bool)
server_shown None = None
server_shown (Some s) = option_map shown_of (server_at s.servers 1)

-- at its end server 1 is such a one, has served both requests, and has kept another one for the second client
abbrev pub ForkScriptForks : Type 0
ForkScriptForks = (server_shown (run_of fork_script).scene ≡ Some (kind.Fork, 1, 2, true))
    × (attacks_of fork_script ≡ record { kind = kind.Fork; after = 1 } ∷ [])

-- a bad line of kind 1
abbrev pub bad_at : ℕ → Option Bad
bad_at n = Some (record { number = n; kind = 1 })

-- a `hostile` line is the last one of a header: a key may stand before it and not behind, and nor may a second one
abbrev pub KeysStandBefore : Type 0
KeysStandBefore = (bad_line_of (text_of (codes "clients 1" ∷ codes "key 6b6579" ∷ codes "hostile fork 1" ∷ [])) ≡ None)
    × (bad_line_of (text_of (codes "clients 1" ∷ codes "hostile fork 1" ∷ codes "key 6b6579" ∷ [])) ≡ bad_at 3)
    × (bad_line_of (text_of (codes "clients 1" ∷ codes "hostile fork 1" ∷ codes "hostile fork 1" ∷ [])) ≡ bad_at 3)

-- nor may one stand where no header has begun, or behind an event
abbrev pub HeadersHaveThem : Type 0
HeadersHaveThem = (bad_line_of (text_of (codes "hostile fork 1" ∷ codes "clients 1" ∷ [])) ≡ bad_at 1)
    × (bad_line_of (text_of (codes "objects 1" ∷ codes "poll 1" ∷ codes "hostile fork 1" ∷ [])) ≡ bad_at 3)

-- it names one of the kinds, and a number up to 1,000,000
abbrev pub KindsHaveNames : Type 0
KindsHaveNames = (bad_line_of (text_of (codes "clients 1" ∷ codes "hostile honest 1" ∷ [])) ≡ bad_at 2)
    × (bad_line_of (text_of (codes "clients 1" ∷ codes "hostile stale 1000000" ∷ [])) ≡ None)
    × (bad_line_of (text_of (codes "clients 1" ∷ codes "hostile stale 1000001" ∷ [])) ≡ bad_at 2)

-- by each of the names
abbrev pub header_with : List ℕ → List ℕ
header_with line = text_of (codes "objects 2" ∷ line ∷ [])

abbrev pub first_shown : HostileKind → ℕ → Option (HostileKind × ℕ × ℕ × Bool)
first_shown k n = Some (k, n, 0, false)

abbrev pub NamesAreOfKinds : Type 0
NamesAreOfKinds = (server_shown (run_of (header_with (codes "hostile rollback 0"))).scene ≡ first_shown kind.Rollback 0)
    × (server_shown (run_of (header_with (codes "hostile fork 1"))).scene ≡ first_shown kind.Fork 1)
    × (server_shown (run_of (header_with (codes "hostile replay 2"))).scene ≡ first_shown kind.Replay 2)
    × (server_shown (run_of (header_with (codes "hostile swap 3"))).scene ≡ first_shown kind.Swap 3)
    × (server_shown (run_of (header_with (codes "hostile badproof 4"))).scene ≡ first_shown kind.BadProof 4)
    × (server_shown (run_of (header_with (codes "hostile stale 5"))).scene ≡ first_shown kind.Stale 5)
    × (server_shown (run_of (header_with (codes "hostile truncate 6"))).scene ≡ first_shown kind.Truncate 6)
    × (server_shown (run_of (header_with (codes "poll 1"))).scene ≡ first_shown kind.Honest 0)
