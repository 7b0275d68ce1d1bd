-- What the worker of one connection of a hall did.
use Rattle.vic_ports.specs.Links.{Told}
use Rattle.vic_gate.specs.Workers.{IsWorked, by_hello}
use Rattle.vic_server.specs.Replay.{KeptServer}
use Rattle.vic_hall.specs.declared.crew.Job.{Job}
use Rattle.vic_hall.specs.Steps.{HallStep}

-- it worked by steps of the hall, from the job before to the job after
abbrev pub Worked : {L : Type 0} → KeptServer → (L → Told) → Job L → Job L → Type 0
Worked fixed told old new = IsWorked by_hello (HallStep fixed) (told old.link) old.pass new.end (told new.link) new.pass
