-- What happens in a scene, whatever its servers are: the steps of its clients, what stays, and what waits.
use Rattle.std.proofs.Common.{◌≡◌, ℕ, ◌<◌, ◌≤◌, true, List, [], ◌∷◌, ◌++◌, length, Option, Some, None, is_some, refl, sym, ap, ◌∙◌, arith, length-append}
use Rattle.vic_wire.specs.Hashes.{Group}
use Rattle.vic_rules.specs.declared.trace.Input.{Input}
use Rattle.vic_rules.specs.declared.trace.TraceStep.{TraceStep}
use Rattle.vic_rules.specs.Client.{step, payload_of}
use Rattle.vic_rules.specs.History.{standing}
use Rattle.vic_order.specs.Serving.{Serving}
use Rattle.vic_order.specs.Scenes.{Queue, SceneOf, queue_of, server_at, server_of, is_server, after_serving_from, after_serving}
use Rattle.vic_honest.proofs.Queues.{queue-set_same}

-- what a client sends at a step
abbrev pub sent_by : Group → ℕ → Input → List TraceStep → Option (List ℕ)
sent_by g i given h = let v = step g i (standing g i h) given in payload_of g i v.next v.sends

-- the step itself
abbrev pub step_by : Group → ℕ → Input → List TraceStep → TraceStep
step_by g i given h =
    let v = step g i (standing g i h) given in
    record { client = i; input = given; sent = payload_of g i v.next v.sends; returned = v.returns; object = v.object }

module _ {V : Type 0} where
  -- ---- what waits

  after_serving_from-waits : (rule : Serving V) (s : SceneOf V) (i : ℕ) (queue : Queue) (server : Option V) → 0 < i → i ≤ length s.down → (queue ≡ [] → ⊥) → is_some server ≡ true
      → queue_of (after_serving_from rule s i queue server).down i ≡ [] → ⊥
  after_serving_from-waits rule s i [] server above upto waits there none = waits refl
  after_serving_from-waits rule s i (payload ∷ rest) None above upto waits there none = absurd cc
  after_serving_from-waits rule s i (payload ∷ rest) (Some server) above upto waits there none =
      let answer : List ℕ = (rule server i i payload).0 in
      let e : queue_of s.down i ++ answer ∷ [] ≡ [] = sym (queue-set_same s.down i (queue_of s.down i ++ answer ∷ []) above upto) ∙ none in
      omega (arith, ap length e, length-append (queue_of s.down i) (answer ∷ []))

  -- where a request waits and the client's server exists, an answer waits once it was served
  pub after_serving-waits : (rule : Serving V) (s : SceneOf V) (i : ℕ) → 0 < i → i ≤ length s.down → (queue_of s.up i ≡ [] → ⊥) → is_server s (server_of s.served_by i) ≡ true
      → queue_of (after_serving rule s i).down i ≡ [] → ⊥
  unfolding after_serving
  after_serving-waits rule s i above upto waits there none = after_serving_from-waits rule s i (queue_of s.up i) (server_at s.servers (server_of s.served_by i)) above upto waits there none
