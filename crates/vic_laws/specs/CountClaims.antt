-- How much a client sends.
use Rattle.std.specs.Prelude.{ℕ, ◌+◌, ◌*◌, ◌≤◌, List, [], ◌∷◌, Option, Some, None, nat_eq, if◌then◌else◌}
use Rattle.vic_wire.specs.Hashes.{Group}
use Rattle.vic_rules.specs.declared.object.ObjectCall.TheVariants as object
use Rattle.vic_rules.specs.declared.trace.Input.{Input}
use Rattle.vic_rules.specs.declared.trace.Input.TheVariants as input
use Rattle.vic_rules.specs.declared.trace.TraceStep.{TraceStep}
use Rattle.vic_rules.specs.History.{IsLawful}
use Rattle.vic_laws.specs.AskedClaims.{calls_made}

-- how many of a client's steps sent something
abbrev pub sent_one : Option (List ℕ) → ℕ
sent_one None = 0
sent_one (Some payload) = 1

unfoldable pub sendings : ℕ → List TraceStep → ℕ
sendings me [] = 0
sendings me (x ∷ past) = if nat_eq x.client me then sent_one x.sent + sendings me past else sendings me past

-- what it may send beyond three for each call, for what it was asked: a Poll, a Sync, the content of a store, and the Fetch of a load
abbrev pub asked_other : Input → ℕ
asked_other (input.Call o) = 0
asked_other (input.Object (object.Store name content)) = 1
asked_other (input.Object (object.Load name)) = 1
asked_other (input.Object (object.Erase name)) = 0
asked_other (input.Object (object.Names prefix)) = 0
asked_other input.Poll = 1
asked_other input.Sync = 1
asked_other (input.Payload payload) = 0

unfoldable pub others_asked : ℕ → List TraceStep → ℕ
others_asked me [] = 0
others_asked me (x ∷ past) = if nat_eq x.client me then asked_other x.input + others_asked me past else others_asked me past

-- a client sends at most three requests for each call that it made, and one more for each poll, sync, store and load that it was asked for
abbrev pub SendsAreFew : Type 0
SendsAreFew = (g : Group) (h : List TraceStep) → IsLawful g h → (me : ℕ) → sendings me h ≤ 3 * calls_made g me h + others_asked me h
