-- Each client of a scene has its queues and a server that exists, whatever events are made.
use Rattle.std.proofs.Common.{◌≡◌, ℕ, ◌-◌, ◌<◌, ◌≤◌, true, List, [], ◌∷◌, length, Option, Some, None, refl, ◌∙◌, arith}
use Rattle.std.specs.List.{AllByRecursion}
use Rattle.std.proofs.lemmas.List.{length-replicate, length-set}
use Rattle.vic_wire.specs.Hashes.{Group}
use Rattle.vic_rules.specs.declared.trace.Input.{Input}
use Rattle.vic_rules.specs.declared.trace.Input.TheVariants as input
use Rattle.vic_laws.proofs.Words.{all_weaker}
use Rattle.vic_order.specs.Serving.{Serving}
use Rattle.vic_order.specs.Scenes.{Queue, SceneOf, opening_with, queue_of, set_queue, server_at, server_of, after_step, after_serving_from, after_serving, after_taking_from, after_taking, payload_as_is, payload_with_flip, after_resending, after_copying, after_joining, is_server, Event, Asks, Serves, Takes, Flips, Hears, Resends, Copies, Joins, after_event, after_events, MayHappen, MayAllHappen}
use Rattle.vic_runs.proofs.Lists.{all-set, all-at, all-replicate}
use Rattle.vic_honest.proofs.Queues.{length-set_queue}
use Rattle.vic_runs.proofs.Servers.{is_server-set}

-- each client has a queue of requests, one of answers, and a server that exists
pub record IsSeated {V : Type 0} (s : SceneOf V) : Type 0 where
  pub up_count : length s.up ≡ s.group.count
  pub down_count : length s.down ≡ s.group.count
  pub by_count : length s.served_by ≡ s.group.count
  pub placed : AllByRecursion (λ n. is_server s n ≡ true) s.served_by

module _ {V : Type 0} where
  -- so the server of each client exists
  pub seated-server : (s : SceneOf V) → IsSeated s → (i : ℕ) → 0 < i → i ≤ s.group.count → is_server s (server_of s.served_by i) ≡ true
  seated-server s h i above upto = all-at (λ n. is_server s n ≡ true) s.served_by (i - 1) 0 h.placed (omega (arith, above, upto, h.by_count))

  -- at the opening all are served by server 1
  pub seated-opening : (g : Group) (server : V) → IsSeated (opening_with g server)
  seated-opening g server = record {
    up_count = length-replicate g.count _;
    down_count = length-replicate g.count _;
    by_count = length-replicate g.count _;
    placed = all-replicate (λ n. is_server (opening_with g server) n ≡ true) g.count 1 refl;
  }

  -- ---- what happens

  pub seated-after_step : (s : SceneOf V) → IsSeated s → (i : ℕ) (given : Input) → IsSeated (after_step s i given)
  unfolding after_step
  seated-after_step s h i given = record { up_count = length-set_queue s.up i _ ∙ h.up_count; down_count = h.down_count; by_count = h.by_count; placed = h.placed }

  pub seated-after_serving_from : (rule : Serving V) (s : SceneOf V) → IsSeated s → (i : ℕ) (queue : Queue) (server : Option V) → IsSeated (after_serving_from rule s i queue server)
  seated-after_serving_from rule s h i [] server = h
  seated-after_serving_from rule s h i (payload ∷ rest) None = h
  seated-after_serving_from rule s h i (payload ∷ rest) (Some server) = record {
    up_count = length-set_queue s.up i rest ∙ h.up_count;
    down_count = length-set_queue s.down i _ ∙ h.down_count;
    by_count = h.by_count;
    placed = all_weaker (λ n. is_server s n ≡ true) _ (λ n there. is_server-set s.servers (server_of s.served_by i) n (Some (rule server i i payload).1) refl there) s.served_by h.placed;
  }

  pub seated-after_serving : (rule : Serving V) (s : SceneOf V) → IsSeated s → (i : ℕ) → IsSeated (after_serving rule s i)
  unfolding after_serving
  seated-after_serving rule s h i = seated-after_serving_from rule s h i (queue_of s.up i) (server_at s.servers (server_of s.served_by i))

  seated-after_taking_from : (change : List ℕ → List ℕ) (s : SceneOf V) → IsSeated s → (i : ℕ) (queue : Queue) → IsSeated (after_taking_from change s i queue)
  seated-after_taking_from change s h i [] = h
  seated-after_taking_from change s h i (payload ∷ rest) =
      seated-after_step (record s { down = set_queue s.down i rest }) (record { up_count = h.up_count; down_count = length-set_queue s.down i rest ∙ h.down_count; by_count = h.by_count; placed = h.placed }) i (input.Payload (change payload))

  pub seated-after_taking : (change : List ℕ → List ℕ) (s : SceneOf V) → IsSeated s → (i : ℕ) → IsSeated (after_taking change s i)
  unfolding after_taking
  seated-after_taking change s h i = seated-after_taking_from change s h i (queue_of s.down i)

  pub seated-after_resending : (s : SceneOf V) → IsSeated s → (i : ℕ) → IsSeated (after_resending s i)
  seated-after_resending s h i = record { up_count = length-set_queue s.up i _ ∙ h.up_count; down_count = h.down_count; by_count = h.by_count; placed = h.placed }

  -- a server that exists is copied
  pub seated-after_copying : (s : SceneOf V) → IsSeated s → (n t : ℕ) → is_server s n ≡ true → IsSeated (after_copying s n t)
  seated-after_copying s h n t there = record {
    up_count = h.up_count;
    down_count = h.down_count;
    by_count = h.by_count;
    placed = all_weaker (λ m. is_server s m ≡ true) _ (λ m here. is_server-set s.servers t m (server_at s.servers n) there here) s.served_by h.placed;
  }

  -- a client joins a server that exists
  pub seated-after_joining : (s : SceneOf V) → IsSeated s → (i n : ℕ) → is_server s n ≡ true → IsSeated (after_joining s i n)
  seated-after_joining s h i n there = record {
    up_count = h.up_count;
    down_count = h.down_count;
    by_count = length-set s.served_by (i - 1) n ∙ h.by_count;
    placed = all-set (λ m. is_server s m ≡ true) s.served_by (i - 1) n h.placed there;
  }

  -- an event that may happen leaves each client its queues and a server that exists
  pub seated-after_event : (rule : Serving V) (s : SceneOf V) (m : Event) → IsSeated s → MayHappen s m → IsSeated (after_event rule s m)
  seated-after_event rule s (Asks i given) h may = seated-after_step s h i given
  seated-after_event rule s (Serves i) h may = seated-after_serving rule s h i
  seated-after_event rule s (Takes i) h may = seated-after_taking payload_as_is s h i
  seated-after_event rule s (Flips i n) h may = seated-after_taking (payload_with_flip n) s h i
  seated-after_event rule s (Hears i payload) h may = seated-after_step s h i (input.Payload payload)
  seated-after_event rule s (Resends i) h may = seated-after_resending s h i
  seated-after_event rule s (Copies n t) h may = seated-after_copying s h n t may
  seated-after_event rule s (Joins i n) h may = seated-after_joining s h i n may.2

  pub seated-after : (rule : Serving V) (s : SceneOf V) (events : List Event) → IsSeated s → MayAllHappen rule s events → IsSeated (after_events rule s events)
  seated-after rule s [] h may = h
  seated-after rule s (m ∷ before) h may = seated-after_event rule (after_events rule s before) m (seated-after rule s before h may.0) may.1
