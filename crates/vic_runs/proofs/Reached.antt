-- Scenes that any lines reach: what they have, and how one leads to another.
use Rattle.std.proofs.Common.{◌≡◌, ℕ, ◌+◌, ◌<◌, ◌≤◌, true, List, [], ◌∷◌, Option, Some, None, refl, ◌∙◌, arith}
use Rattle.std.specs.List.{AllByRecursion}
use Rattle.std.proofs.lemmas.List.{length-set}
use Rattle.vic_dict.specs.Lists.{AreBytes}
use Rattle.vic_wire.specs.Hashes.{Group, IsGroup}
use Rattle.vic_rules.specs.declared.trace.Input.{Input}
use Rattle.vic_rules.specs.declared.trace.Input.TheVariants as input
use Rattle.vic_rules.specs.declared.trace.TraceStep.{TraceStep}
use Rattle.vic_rules.specs.Client.{MayStep}
use Rattle.vic_rules.specs.History.{standing, IsLawful}
use Rattle.vic_order.specs.Order.{fresh_server, ready_member}
use Rattle.vic_attacks.specs.Hostile.{Hostile, by_kind}
use Rattle.vic_order.specs.Scenes.{Queue, SceneOf, queue_of, set_queue, server_at, server_of, standing_in, after_step, after_serving_from, after_serving, after_taking_from, after_taking, payload_as_is, payload_with_flip, last_sent, after_resending, after_copying, after_joining, is_server, Event, Asks, Serves, Takes, Flips, Hears, Resends, Copies, Joins, after_event, after_events, MayHappen, MayAllHappen}
use Rattle.vic_script.specs.declared.line.Line.{Line}
use Rattle.vic_script.specs.Scenes.{events_of, done_line, bad_kind}
use Rattle.vic_script.specs.Run.{Attack, opening_as}
use Rattle.vic_runs.specs.Claims.{FitsLine}
use Rattle.vic_runs.specs.Reached.{HostileHolds, IfThere, HoldsBytes, calls_in, IsReached}
use Rattle.vic_runs.proofs.Lists.{all-set, all-replicate}
use Rattle.vic_honest.proofs.Queues.{length-set_queue}
use Rattle.vic_runs.proofs.Queues.{queue-bytes, joined-bytes, queue_with-bytes}
use Rattle.vic_runs.proofs.Servers.{there-at}
use Rattle.vic_runs.proofs.Seats.{IsSeated, seated-opening, seated-after_serving_from, seated-after_copying, seated-after_joining}
use Rattle.vic_runs.proofs.Scenes.{step_by}
use Rattle.vic_runs.proofs.Counting.{calls-step, calls-payload}
use Rattle.vic_runs.proofs.Keeping.{holds-fresh}
use Rattle.vic_runs.proofs.Attacks.{holds-from, holds-by_kind}
use Rattle.vic_runs.proofs.Sent.{sent-bytes, last_sent-bytes, payload_with_flip-bytes}
use Rattle.vic_runs.proofs.Events.{asked, asks, kept-after, may-step}
use Rattle.vic_runs.proofs.Lines.{HasCallLeft, line-may, line-asks}

-- ---- what such a scene has

-- its clients step by the rules
pub reached-lawful : (s : SceneOf Hostile) (n : ℕ) → IsReached s n → IsLawful s.group s.history
reached-lawful s n r = r.lawful

-- each client has its queues and a server that exists
pub reached-seated : (s : SceneOf Hostile) (n : ℕ) → IsReached s n → IsSeated s
reached-seated s n r = record { up_count = r.up_count; down_count = r.down_count; by_count = r.by_count; placed = r.placed }

-- the payloads of each queue that is read are bytes
pub reached-up_bytes : (s : SceneOf Hostile) (n : ℕ) → IsReached s n → (i : ℕ) → HoldsBytes (queue_of s.up i)
reached-up_bytes s n r i = queue-bytes s.up i r.up_bytes

pub reached-down_bytes : (s : SceneOf Hostile) (n : ℕ) → IsReached s n → (i : ℕ) → HoldsBytes (queue_of s.down i)
reached-down_bytes s n r i = queue-bytes s.down i r.down_bytes

-- each server that exists keeps bytes
pub reached-server : (s : SceneOf Hostile) (n : ℕ) → IsReached s n → (k : ℕ) → IfThere HostileHolds (server_at s.servers k)
reached-server s n r k = there-at HostileHolds s.servers k r.servers

-- so few calls are at most more
pub reached-more : (s : SceneOf Hostile) (n m : ℕ) → n ≤ m → IsReached s n → IsReached s m
reached-more s n m more r = record {
  lawful = r.lawful;
  calls = λ i. omega (arith, more, r.calls i);
  up_count = r.up_count;
  down_count = r.down_count;
  up_bytes = r.up_bytes;
  down_bytes = r.down_bytes;
  by_count = r.by_count;
  placed = r.placed;
  servers_count = r.servers_count;
  servers = r.servers;
}

-- ---- the opening

-- any group, whatever its server does
pub reached-opening : (g : Group) (a : Attack) → IsGroup g → IsReached (opening_as g a) 0
unfolding standing
reached-opening g a is =
    let seats : IsSeated (opening_as g a) = seated-opening g _ in
    record {
      lawful = record { group = is; steps = tt };
      calls = λ i. omega arith;
      up_count = seats.up_count;
      down_count = seats.down_count;
      up_bytes = all-replicate HoldsBytes g.count [] tt;
      down_bytes = all-replicate HoldsBytes g.count [] tt;
      by_count = seats.by_count;
      placed = seats.placed;
      servers_count = refl;
      servers = (holds-from a.kind a.after (fresh_server g.mode g.count ready_member) (holds-fresh g.mode g.count ready_member), (tt, (tt, (tt, tt))));
    }

-- ---- a client steps

-- the steps so far, and one that may be next
lawful-next : (s : SceneOf Hostile) (n : ℕ) → IsReached s n → (i : ℕ) → 0 < i → i ≤ s.group.count → (given : Input) → MayStep s.group (standing_in s i) given → IsLawful s.group (step_by s.group i given s.history ∷ s.history)
lawful-next s n r i above upto given may = record { group = r.lawful.group; steps = (r.lawful.steps, record { member = (above, upto); may = may; sent = refl; returned = refl; object = refl }) }

reached-step : (s : SceneOf Hostile) (n m : ℕ) → IsReached s n → (i : ℕ) → 0 < i → i ≤ s.group.count → (given : Input) → MayStep s.group (standing_in s i) given
    → ((j : ℕ) → calls_in (standing s.group j (step_by s.group i given s.history ∷ s.history)) ≤ m) → IsReached (after_step s i given) m
unfolding after_step
reached-step s n m r i above upto given may calls =
    let x : TraceStep = step_by s.group i given s.history in
    let lawful : IsLawful s.group (x ∷ s.history) = lawful-next s n r i above upto given may in
    record {
      lawful = lawful;
      calls = calls;
      up_count = length-set_queue s.up i _ ∙ r.up_count;
      down_count = r.down_count;
      up_bytes = all-set HoldsBytes s.up _ _ r.up_bytes (queue_with-bytes (queue_of s.up i) x.sent (reached-up_bytes s n r i) (sent-bytes s.group x s.history lawful));
      down_bytes = r.down_bytes;
      by_count = r.by_count;
      placed = r.placed;
      servers_count = r.servers_count;
      servers = r.servers;
    }

-- it may have been called once more then
pub reached-after_step : (s : SceneOf Hostile) (n : ℕ) → IsReached s n → (i : ℕ) → 0 < i → i ≤ s.group.count → (given : Input) → MayStep s.group (standing_in s i) given → IsReached (after_step s i given) (n + 1)
reached-after_step s n r i above upto given may =
    let x : TraceStep = step_by s.group i given s.history in
    reached-step s n (n + 1) r i above upto given may (λ j. omega (arith, r.calls j, calls-step s.group s.history x j))

-- a payload calls nothing
pub reached-payload : (s : SceneOf Hostile) (n : ℕ) → IsReached s n → (i : ℕ) → 0 < i → i ≤ s.group.count → (payload : List ℕ) → AreBytes payload → IsReached (after_step s i (input.Payload payload)) n
reached-payload s n r i above upto payload bytes =
    let given : Input = input.Payload payload in
    let x : TraceStep = step_by s.group i given s.history in
    reached-step s n n r i above upto given bytes (λ j. omega (arith, r.calls j, calls-payload s.group s.history x payload refl j))

-- ---- a server serves

reached-after_serving_from : (s : SceneOf Hostile) (n : ℕ) → IsReached s n → (i : ℕ) → 0 < i → i ≤ s.group.count → (queue : Queue) → HoldsBytes queue → (server : Option Hostile) → IfThere HostileHolds server
    → IsReached (after_serving_from by_kind s i queue server) n
reached-after_serving_from s n r i above upto [] bytes server holds = r
reached-after_serving_from s n r i above upto (payload ∷ rest) bytes None holds = r
reached-after_serving_from s n r i above upto (payload ∷ rest) bytes (Some server) holds =
    let kept : HostileHolds (by_kind server i i payload).1 × AreBytes (by_kind server i i payload).0 = holds-by_kind i payload above (omega (arith, upto, r.lawful.group.count.1)) bytes.0 server i holds in
    let seats : IsSeated (after_serving_from by_kind s i (payload ∷ rest) (Some server)) = seated-after_serving_from by_kind s (reached-seated s n r) i (payload ∷ rest) (Some server) in
    record {
      lawful = r.lawful;
      calls = r.calls;
      up_count = seats.up_count;
      down_count = seats.down_count;
      up_bytes = all-set HoldsBytes s.up _ rest r.up_bytes bytes.1;
      down_bytes = all-set HoldsBytes s.down _ _ r.down_bytes (joined-bytes (queue_of s.down i) (by_kind server i i payload).0 (reached-down_bytes s n r i) kept.1);
      by_count = seats.by_count;
      placed = seats.placed;
      servers_count = length-set s.servers _ _ ∙ r.servers_count;
      servers = all-set (IfThere HostileHolds) s.servers _ (Some (by_kind server i i payload).1) r.servers kept.0;
    }

pub reached-after_serving : (s : SceneOf Hostile) (n : ℕ) → IsReached s n → (i : ℕ) → 0 < i → i ≤ s.group.count → IsReached (after_serving by_kind s i) n
unfolding after_serving
reached-after_serving s n r i above upto =
    reached-after_serving_from s n r i above upto (queue_of s.up i) (reached-up_bytes s n r i) (server_at s.servers (server_of s.served_by i)) (reached-server s n r (server_of s.served_by i))

-- ---- a client takes a payload

-- a change of payloads that leaves bytes
abbrev pub KeepsBytes : (List ℕ → List ℕ) → Type 0
KeepsBytes change = (payload : List ℕ) → AreBytes payload → AreBytes (change payload)

reached-fewer : (s : SceneOf Hostile) (n : ℕ) → IsReached s n → (i : ℕ) (rest : Queue) → HoldsBytes rest → IsReached (record s { down = set_queue s.down i rest }) n
reached-fewer s n r i rest bytes = record {
  lawful = r.lawful;
  calls = r.calls;
  up_count = r.up_count;
  down_count = length-set_queue s.down i rest ∙ r.down_count;
  up_bytes = r.up_bytes;
  down_bytes = all-set HoldsBytes s.down _ rest r.down_bytes bytes;
  by_count = r.by_count;
  placed = r.placed;
  servers_count = r.servers_count;
  servers = r.servers;
}

reached-after_taking_from : (change : List ℕ → List ℕ) → KeepsBytes change → (s : SceneOf Hostile) (n : ℕ) → IsReached s n → (i : ℕ) → 0 < i → i ≤ s.group.count → (queue : Queue) → HoldsBytes queue → IsReached (after_taking_from change s i queue) n
reached-after_taking_from change keeps s n r i above upto [] bytes = r
reached-after_taking_from change keeps s n r i above upto (payload ∷ rest) bytes =
    reached-payload (record s { down = set_queue s.down i rest }) n (reached-fewer s n r i rest bytes.1) i above upto (change payload) (keeps payload bytes.0)

pub reached-after_taking : (change : List ℕ → List ℕ) → KeepsBytes change → (s : SceneOf Hostile) (n : ℕ) → IsReached s n → (i : ℕ) → 0 < i → i ≤ s.group.count → IsReached (after_taking change s i) n
unfolding after_taking
reached-after_taking change keeps s n r i above upto = reached-after_taking_from change keeps s n r i above upto (queue_of s.down i) (reached-down_bytes s n r i)

-- ---- what it sent joins its requests again

pub reached-after_resending : (s : SceneOf Hostile) (n : ℕ) → IsReached s n → (i : ℕ) → IsReached (after_resending s i) n
reached-after_resending s n r i = record {
  lawful = r.lawful;
  calls = r.calls;
  up_count = length-set_queue s.up i _ ∙ r.up_count;
  down_count = r.down_count;
  up_bytes = all-set HoldsBytes s.up _ _ r.up_bytes (queue_with-bytes (queue_of s.up i) (last_sent i s.history) (reached-up_bytes s n r i) (last_sent-bytes s.group s.history r.lawful i));
  down_bytes = r.down_bytes;
  by_count = r.by_count;
  placed = r.placed;
  servers_count = r.servers_count;
  servers = r.servers;
}

-- ---- servers are copied and left

pub reached-after_copying : (s : SceneOf Hostile) (n : ℕ) → IsReached s n → (k t : ℕ) → is_server s k ≡ true → IsReached (after_copying s k t) n
reached-after_copying s n r k t there =
    let seats : IsSeated (after_copying s k t) = seated-after_copying s (reached-seated s n r) k t there in
    record {
      lawful = r.lawful;
      calls = r.calls;
      up_count = r.up_count;
      down_count = r.down_count;
      up_bytes = r.up_bytes;
      down_bytes = r.down_bytes;
      by_count = r.by_count;
      placed = seats.placed;
      servers_count = length-set s.servers _ _ ∙ r.servers_count;
      servers = all-set (IfThere HostileHolds) s.servers _ (server_at s.servers k) r.servers (reached-server s n r k);
    }

pub reached-after_joining : (s : SceneOf Hostile) (n : ℕ) → IsReached s n → (i k : ℕ) → is_server s k ≡ true → IsReached (after_joining s i k) n
reached-after_joining s n r i k there =
    let seats : IsSeated (after_joining s i k) = seated-after_joining s (reached-seated s n r) i k there in
    record {
      lawful = r.lawful;
      calls = r.calls;
      up_count = r.up_count;
      down_count = r.down_count;
      up_bytes = r.up_bytes;
      down_bytes = r.down_bytes;
      by_count = seats.by_count;
      placed = seats.placed;
      servers_count = r.servers_count;
      servers = r.servers;
    }

-- ---- events

abbrev Any : Event → Type 0
Any m = Unit {0}

pub any : (events : List Event) → AllByRecursion Any events
any [] = tt
any (m ∷ before) = (tt, any before)

-- an event that may happen leads on to a scene that is reached
reached-after_event : (s : SceneOf Hostile) (n : ℕ) (m : Event) → IsReached s n → MayHappen s m → Any m → IsReached (after_event by_kind s m) (n + asked m)
reached-after_event s n (Asks i given) r may any = reached-after_step s n r i may.0 may.1 given (may-step s i given may.2)
reached-after_event s n (Serves i) r may any = reached-more _ n (n + 0) (omega arith) (reached-after_serving s n r i may.0 may.1)
reached-after_event s n (Takes i) r may any = reached-more _ n (n + 0) (omega arith) (reached-after_taking payload_as_is (λ payload bytes. bytes) s n r i may.0 may.1)
reached-after_event s n (Flips i k) r may any = reached-more _ n (n + 0) (omega arith) (reached-after_taking (payload_with_flip k) (payload_with_flip-bytes k) s n r i may.0 may.1)
reached-after_event s n (Hears i payload) r may any = reached-more _ n (n + 0) (omega arith) (reached-payload s n r i may.0 may.1 payload may.2)
reached-after_event s n (Resends i) r may any = reached-more _ n (n + 0) (omega arith) (reached-after_resending s n r i)
reached-after_event s n (Copies k t) r may any = reached-more _ n (n + 0) (omega arith) (reached-after_copying s n r k t may)
reached-after_event s n (Joins i k) r may any = reached-more _ n (n + 0) (omega arith) (reached-after_joining s n r i k may.2)

pub reached-after : (s : SceneOf Hostile) (n : ℕ) (events : List Event) → IsReached s n → MayAllHappen by_kind s events → IsReached (after_events by_kind s events) (n + asks events)
reached-after s n events r may = kept-after by_kind IsReached Any reached-after_event s n events r may (any events)

-- a line that isn't bad leads on to a scene that is reached
pub reached-line : (s : SceneOf Hostile) (n : ℕ) (l : Line) → IsReached s n → HasCallLeft s l → bad_kind s l ≡ None → FitsLine l → IsReached (done_line by_kind s l).scene (n + 1)
reached-line s n l r left good fits =
    reached-more _ _ (n + 1) (omega (arith, line-asks by_kind s l)) (reached-after s n (events_of by_kind s l) r (line-may by_kind s l (reached-seated s n r) r.lawful left good fits))
