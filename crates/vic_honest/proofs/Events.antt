-- No event changes the group.
use Rattle.std.proofs.Common.{◌≡◌, ℕ, List, [], ◌∷◌, Option, Some, None, refl, ◌∙◌}
use Rattle.vic_wire.specs.Hashes.{Group}
use Rattle.vic_rules.specs.declared.trace.Input.{Input}
use Rattle.vic_rules.specs.declared.trace.Input.TheVariants as input
use Rattle.vic_order.specs.Serving.{Serving, by_rule}
use Rattle.vic_order.specs.Scenes.{Queue, SceneOf, queue_of, set_queue, server_at, server_of, after_step, after_serving_from, after_serving, after_taking_from, after_taking, payload_as_is, payload_with_flip, Event, Asks, Serves, Takes, Flips, Hears, Resends, Copies, Joins, after_event, after_events}
use Rattle.vic_order.specs.Honest.{scene_after}

module _ {V : Type 0} where
  pub after_step-group : (s : SceneOf V) (i : ℕ) (given : Input) → (after_step s i given).group ≡ s.group
  unfolding after_step
  after_step-group s i given = refl

  after_serving_from-group : (rule : Serving V) (s : SceneOf V) (i : ℕ) (queue : Queue) (server : Option V) → (after_serving_from rule s i queue server).group ≡ s.group
  after_serving_from-group rule s i [] server = refl
  after_serving_from-group rule s i (payload ∷ rest) None = refl
  after_serving_from-group rule s i (payload ∷ rest) (Some server) = refl

  pub after_serving-group : (rule : Serving V) (s : SceneOf V) (i : ℕ) → (after_serving rule s i).group ≡ s.group
  unfolding after_serving
  after_serving-group rule s i = after_serving_from-group rule s i (queue_of s.up i) (server_at s.servers (server_of s.served_by i))

  after_taking_from-group : (change : List ℕ → List ℕ) (s : SceneOf V) (i : ℕ) (queue : Queue) → (after_taking_from change s i queue).group ≡ s.group
  after_taking_from-group change s i [] = refl
  after_taking_from-group change s i (payload ∷ rest) = after_step-group (record s { down = set_queue s.down i rest }) i (input.Payload (change payload))

  pub after_taking-group : (change : List ℕ → List ℕ) (s : SceneOf V) (i : ℕ) → (after_taking change s i).group ≡ s.group
  unfolding after_taking
  after_taking-group change s i = after_taking_from-group change s i (queue_of s.down i)

  pub after_event-group : (rule : Serving V) (s : SceneOf V) (m : Event) → (after_event rule s m).group ≡ s.group
  after_event-group rule s (Asks i given) = after_step-group s i given
  after_event-group rule s (Serves i) = after_serving-group rule s i
  after_event-group rule s (Takes i) = after_taking-group payload_as_is s i
  after_event-group rule s (Flips i n) = after_taking-group (payload_with_flip n) s i
  after_event-group rule s (Hears i payload) = after_step-group s i (input.Payload payload)
  after_event-group rule s (Resends i) = refl
  after_event-group rule s (Copies n t) = refl
  after_event-group rule s (Joins i n) = refl

  pub after-group : (rule : Serving V) (s : SceneOf V) (events : List Event) → (after_events rule s events).group ≡ s.group
  after-group rule s [] = refl
  after-group rule s (m ∷ before) = after_event-group rule (after_events rule s before) m ∙ after-group rule s before

pub scene-group : (g : Group) (events : List Event) → (scene_after g events).group ≡ g
scene-group g events = after-group by_rule _ events
