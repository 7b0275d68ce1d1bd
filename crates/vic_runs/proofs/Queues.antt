-- Queues of a scene hold bytes.
use Rattle.std.proofs.Common.{ℕ, ◌-◌, List, [], ◌∷◌, ◌++◌, Option, Some, None}
use Rattle.std.specs.List.{AllByRecursion}
use Rattle.vic_dict.specs.Lists.{AreBytes}
use Rattle.vic_laws.proofs.Words.{all_append}
use Rattle.vic_order.specs.Scenes.{Queue, queue_of, queue_with}
use Rattle.vic_runs.specs.Reached.{IfThere, HoldsBytes}
use Rattle.vic_runs.proofs.Lists.{all-read}

-- each queue that is read holds bytes; past the last there is none
pub queue-bytes : (queues : List Queue) (i : ℕ) → AllByRecursion HoldsBytes queues → HoldsBytes (queue_of queues i)
queue-bytes queues i all = all-read HoldsBytes queues (i - 1) [] all tt

-- a payload of bytes joins a queue of such
pub joined-bytes : (queue : Queue) (payload : List ℕ) → HoldsBytes queue → AreBytes payload → HoldsBytes (queue ++ payload ∷ [])
joined-bytes queue payload all bytes = all_append AreBytes queue (payload ∷ []) all (bytes, tt)

pub queue_with-bytes : (queue : Queue) (o : Option (List ℕ)) → HoldsBytes queue → IfThere AreBytes o → HoldsBytes (queue_with queue o)
queue_with-bytes queue None all bytes = all
queue_with-bytes queue (Some payload) all bytes = joined-bytes queue payload all bytes
