-- What the code of a drill keeps of it, and what its parts do.
use Rattle.std.specs.Prelude.{◌≡◌, ℕ, ◌+◌, ◌<◌, ◌^◌, Bool, true, false, List, [], ◌∷◌, ◌++◌, map, length, codes, replicate, Option, Some, None, slice_get}
use Rattle.vic_dict.specs.declared.op.Outcome.{Outcome}
use Rattle.vic_wire.specs.Hashes.{Group}
use Rattle.vic_rules.specs.declared.trace.Input.{Input}
use Rattle.vic_rules.specs.declared.trace.Input.TheVariants as input
use Rattle.vic_rules.specs.declared.trace.TraceStep.{TraceStep}
use Rattle.vic_rules.specs.Client.{step, payload_of}
use Rattle.vic_rules.specs.History.{standing}
use Rattle.vic_client.specs.Kept.{StandsFor, kept_group}
use Rattle.std.specs.FinMap as finite
use Rattle.vic_order.specs.Order.{Server, sealed_count, weight}
use Rattle.vic_order.specs.Serving.{by_rule}
use Rattle.vic_order.specs.Scenes.{Scene, Queue}
use Rattle.vic_gen.specs.declared.Act.{Act}
use Rattle.vic_gen.specs.declared.Act.TheVariants as act
use Rattle.vic_drill.specs.Drills.{DrillState, drill_group, waits_for, drill_after_delivery, drill_after_closing, ends_done, ends_aborted, ends_refused, count_of, line}
use Rattle.vic_drill.specs.Laws.{RunsHonestly}
use Rattle.vic_run_drill.specs.declared.seat.Seat.{Seat}
use Rattle.vic_run_drill.specs.declared.seat.UnderWay.{UnderWay}
use Rattle.vic_run_drill.specs.declared.seat.UnderWay.TheVariants as under
use Rattle.vic_run_drill.specs.declared.seat.Went.{Went}
use Rattle.vic_run_drill.specs.declared.seat.Went.TheVariants as went
use Rattle.vic_run_drill.specs.declared.tally.Tally.{Tally}
use Rattle.vic_run_drill.specs.declared.run.Drill.{Drill}

-- ---- a client

-- the queue of requests that what is under way stands for
abbrev pub requests : UnderWay → Queue
requests under.Nothing = []
requests (under.Request payload) = payload ∷ []
requests (under.Answer payload) = []

-- the queue of answers
abbrev pub answers : UnderWay → Queue
answers under.Nothing = []
answers (under.Request payload) = []
answers (under.Answer payload) = payload ∷ []

abbrev pub is_under_way : UnderWay → Bool
is_under_way under.Nothing = false
is_under_way (under.Request payload) = true
is_under_way (under.Answer payload) = true

-- what is under way behind a step that sent this
abbrev pub sent_on : Option (List ℕ) → UnderWay
sent_on None = under.Nothing
sent_on (Some payload) = under.Request payload

-- a client of the group has this number, and stands where the history leaves it
pub record SeatStands (g : Group) (h : List TraceStep) (m : Seat) (i : ℕ) : Type 0 where
  pub id : m.client.id ≡ i
  pub group : kept_group m.client ≡ g
  pub stands : StandsFor m.client (standing g i h)

-- the step that a client makes after a history
abbrev pub step_at : Group → List TraceStep → ℕ → Input → TraceStep
step_at g h i given =
    let v = step g i (standing g i h) given in
    record { client = i; input = given; sent = payload_of g i v.next v.sends; returned = v.returns; object = v.object }

-- a client made its step: what it sent is under way, and it stands where the history then leaves it
pub record Steps (g : Group) (h : List TraceStep) (i : ℕ) (given : Input) (new : Seat) : Type 0 where
  pub under_way : new.under_way ≡ sent_on (step_at g h i given).sent
  pub stands : SeatStands g (step_at g h i given ∷ h) new i

-- what a client is asked for that acts
abbrev pub input_of : Act → Input
input_of act.Poll = input.Poll
input_of (act.Call o) = input.Call o

-- how many calls an act makes
abbrev pub calls_of : Act → ℕ
calls_of act.Poll = 0
calls_of (act.Call o) = 1

-- a client's message went on: none was under way; or the server answered it; or the client took it
abbrev pub Goes : Group → List TraceStep → ℕ → Seat → Seat → Server → Server → Went → Type 0
Goes g h i old new v w went.Nowhere = (old.under_way ≡ under.Nothing) × ((new ≡ old) × (w ≡ v))
Goes g h i old new v w went.Answered =
    (payload : List ℕ) × ((old.under_way ≡ under.Request payload)
    × ((new ≡ record old { under_way = under.Answer (by_rule v i i payload).0 }) × (w ≡ (by_rule v i i payload).1)))
Goes g h i old new v w (went.Taken returned) =
    (payload : List ℕ) × ((old.under_way ≡ under.Answer payload) × ((w ≡ v)
    × (Steps g h i (input.Payload payload) new × (returned ≡ (step_at g h i (input.Payload payload)).returned))))

-- so many clients of a group of this size have come in, and nothing is under way for them
pub record HaveComeIn (size n : ℕ) (ms : List Seat) : Type 0 where
  pub count : length ms ≡ n
  pub up : map (λ m. requests m.under_way) ms ≡ replicate n []
  pub down : map (λ m. answers m.under_way) ms ≡ replicate n []
  pub clients : (k : ℕ) (m : Seat) → slice_get ms k ≡ Some m → SeatStands (drill_group size) [] m (k + 1)

-- ---- counts

abbrev pub one_if : Bool → ℕ
one_if true = 1
one_if false = 0

-- counts, behind a step that returned this
abbrev pub tally_with : Tally → Option Outcome → Tally
tally_with t r = record { done = t.done + one_if (ends_done r); aborted = t.aborted + one_if (ends_aborted r); refused = t.refused + one_if (ends_refused r) }

-- one more can be counted of each
abbrev pub CanCount : Tally → Type 0
CanCount t = (t.done + 1 < 2 ^ 32) × ((t.aborted + 1 < 2 ^ 32) × (t.refused + 1 < 2 ^ 32))

-- ---- the drill

-- the clients with what is under way, the server and the counts are a scene's
pub record ShowsScene (ms : List Seat) (v : Server) (t : Tally) (s : Scene) : Type 0 where
  pub count : length ms ≡ s.group.count
  pub up : map (λ m. requests m.under_way) ms ≡ s.up
  pub down : map (λ m. answers m.under_way) ms ≡ s.down
  pub served_by : s.served_by ≡ replicate (length ms) 1
  pub servers : s.servers ≡ Some v ∷ None ∷ None ∷ None ∷ []
  pub clients : (k : ℕ) (m : Seat) → slice_get ms k ≡ Some m → SeatStands s.group s.history m (k + 1)
  pub done : t.done ≡ count_of ends_done s.history
  pub aborted : t.aborted ≡ count_of ends_aborted s.history
  pub refused : t.refused ≡ count_of ends_refused s.history

-- the code stands where this drill does, which runs honestly
pub record Stands (r : Drill) (d : DrillState) (n : ℕ) : Type 0 where
  pub scene : ShowsScene r.seats.items r.served.server r.tally d.scene
  pub drawing : r.generator ≡ d.drawing
  pub calls : r.calls ≡ d.calls
  pub runs : RunsHonestly (length r.seats.items) d n

-- what was under way for a client went on; or nothing was, and all is as before
abbrev pub WentOn : Drill → DrillState → ℕ → ℕ → Bool → Type 0
WentOn r d n me true = (waits_for d.scene me ≡ true) × Stands r (drill_after_delivery me d) (n + 1)
WentOn r d n me false = (waits_for d.scene me ≡ false) × Stands r d n

-- the closing phase went on; or nothing is left of it
abbrev pub Closes : Drill → DrillState → ℕ → Bool → Type 0
Closes r d n true = Stands r (drill_after_closing d) (n + 1)
Closes r d n false = (drill_after_closing d ≡ d) × Stands r d n

-- there is such a drill, and it can go on
abbrev pub IsGoing : Drill → Type 0
IsGoing r = (d : DrillState) × ((n : ℕ) × ((n + 1 < 2 ^ 32) × Stands r d n))

-- and nothing is under way for this client
abbrev pub IsAtRest : Drill → ℕ → Type 0
IsAtRest r me = (d : DrillState) × ((n : ℕ) × ((n + 1 < 2 ^ 32) × (Stands r d n × (waits_for d.scene me ≡ false))))

-- the eight lines, of the counts and of the server
abbrev pub summary_lines : ℕ → ℕ → Tally → Server → List ℕ
summary_lines clients calls t v =
    line (codes "clients") clients ++ line (codes "calls") calls ++ line (codes "done") t.done ++ line (codes "aborted") t.aborted ++ line (codes "refused") t.refused
    ++ (line (codes "sealed") (sealed_count v) ++ line (codes "pairs") (finite.len v.dictionary) ++ line (codes "weight") (weight v))
