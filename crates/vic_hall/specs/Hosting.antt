-- What hosting did: lines came, were served and went back.
use Rattle.std.specs.Prelude.{◌≡◌, ℕ, ◌+◌, ◌≤◌, List, ◌++◌, length, Option, Some, None}
use Rattle.vic_order.specs.Order.{Server}
use Rattle.vic_ports.specs.Causes.{Rose}
use Rattle.vic_ports.specs.Links.{Told, Lines}
use Rattle.vic_hall.specs.declared.hosting.Hosted.{Hosted}
use Rattle.vic_hall.specs.declared.hosting.Hosted.TheVariants as hosted
use Rattle.vic_hall.specs.Runs.{IsRun}

abbrev pub lines : List Told → List Told → Lines
lines came back = record { came = came; back = back }

-- these lines came, where the doors tell theirs
abbrev pub HaveCome : List Told → Option Lines → Option Lines → Type 0
HaveCome ts None now = now ≡ None
HaveCome ts (Some was) now = now ≡ Some (lines (was.came ++ ts) was.back)

-- these lines went back, where the doors tell theirs and have room for them
abbrev pub HaveGone : List Told → Option Lines → Option Lines → Type 0
HaveGone ts None now = now ≡ None
HaveGone ts (Some was) now =
    length was.back + length ts ≤ length was.came → now ≡ Some (lines was.came (was.back ++ ts))

-- lines came, and went back: they joined those that had, where the doors tell theirs and no more had gone back than come
abbrev pub Visited : Lines → Option Lines → Option Lines → Type 0
Visited l None now = now ≡ None
Visited l (Some was) now =
    length was.back ≤ length was.came → now ≡ Some (lines (was.came ++ l.came) (was.back ++ l.back))

-- by its result: every line was served and went back; an accept failed, and each line that had come went back as it came; or
-- there was no memory, and no line was asked for
abbrev pub Hosts : ℕ → Server → Option Lines → Option Lines → ℕ → ℕ → Hosted → Type 0
Hosts count opening old new before now (hosted.Ran served ends) =
    (now ≡ before) × ((l : Lines) × (Visited l old new × IsRun count opening l ends.items served))
Hosts count opening old new before now hosted.Failed = Rose before now × ((ts : List Told) × Visited (lines ts ts) old new)
Hosts count opening old new before now hosted.NoMemory = (now ≡ before) × (new ≡ old)
