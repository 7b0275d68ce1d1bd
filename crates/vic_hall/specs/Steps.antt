-- One step of a pass, with or without an answer.
use Rattle.std.specs.Prelude.{◌≡◌, ℕ, List, Option, Some, None}
use Rattle.vic_wire.specs.declared.message.ToClient.{ToClient}
use Rattle.vic_server.specs.Replay.{KeptServer}
use Rattle.vic_hall.specs.Recording.{answer_after, recorded_after}
use Rattle.vic_change.specs.declared.Change.{Change}
use Rattle.vic_turn.specs.Passes.{PassView, Answers, Refuses}

abbrev pub Stepped : {F Y : Type 0} → (F → List Change → ℕ → List ℕ → Y) → (F → List Change → ℕ → List ℕ → ℕ → Option (ℕ × List ℕ)) → F → PassView F → ℕ → List ℕ → Option Y → PassView F → Type 0
Stepped replies records fixed old who payload (Some reply) new = Answers replies records fixed old who payload new reply
Stepped replies records fixed old who payload None new = Refuses old new

-- the same, of a server's replies, by a pass that keeps its number
abbrev pub HallStep : KeptServer → PassView KeptServer → ℕ → List ℕ → Option ToClient → PassView KeptServer → Type 0
HallStep fixed old who payload answer new =
    Stepped (λ f h w x. answer_after f.opening h w x) (λ f h w x seat. recorded_after f.opening h w x) fixed old who payload answer new × (new.number ≡ old.number)
