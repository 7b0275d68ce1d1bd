-- Queues of a scene.
use Rattle.std.proofs.Common.{◌≡◌, ℕ, zero, suc, ◌-◌, ◌<◌, ◌≤◌, ◌≢◌, List, [], length, replicate, refl, sym, ◌∙◌, arith}
use Rattle.std.specs.Prelude.{slice_get, unwrap_or}
use Rattle.std.proofs.lemmas.List.{length-set, get_or-set_same, get_or-set_other}
use Rattle.std.proofs.lemmas.Option.{unwrap_or-slice_get}
use Rattle.vic_order.specs.Scenes.{Queue, queue_of, set_queue}

-- a queue that was set, and another
pub queue-set_same : (queues : List Queue) (i : ℕ) (queue : Queue) → 0 < i → i ≤ length queues → queue_of (set_queue queues i queue) i ≡ queue
queue-set_same queues i queue above upto =
    unwrap_or-slice_get (set_queue queues i queue) (i - 1) [] ∙ get_or-set_same queues (i - 1) queue [] (omega arith)

pub queue-set_other : (queues : List Queue) (i j : ℕ) (queue : Queue) → 0 < i → 0 < j → (j ≡ i → ⊥) → queue_of (set_queue queues i queue) j ≡ queue_of queues j
queue-set_other queues i j queue above low apart =
    let other : j - 1 ≢ i - 1 = λ e. apart (omega arith) in
    unwrap_or-slice_get (set_queue queues i queue) (j - 1) [] ∙ get_or-set_other queues (i - 1) (j - 1) queue [] other ∙ sym (unwrap_or-slice_get queues (j - 1) [])

abbrev empty : Queue
empty = []

fresh-at : (n k : ℕ) → unwrap_or (slice_get (replicate n empty) k) [] ≡ empty
fresh-at zero k = refl
fresh-at (suc n) zero = refl
fresh-at (suc n) (suc k) = fresh-at n k

-- at the opening all queues are empty
pub queue-fresh : (n i : ℕ) → queue_of (replicate n empty) i ≡ []
queue-fresh n i = fresh-at n (i - 1)

pub length-set_queue : (queues : List Queue) (i : ℕ) (queue : Queue) → length (set_queue queues i queue) ≡ length queues
length-set_queue queues i queue = length-set queues (i - 1) queue
