-- What a client is asked for, or is given.
use Rattle.std.specs.Prelude.{◌≡◌, ◌+◌, ◌<◌, ◌^◌, IsTrue}
use Rattle.vic_dict.specs.declared.op.Mode.TheVariants as mode
use Rattle.vic_dict.specs.Dictionary.{Fits}
use Rattle.vic_rules.specs.Objects.{FitsObject}
use Rattle.vic_rules.specs.declared.trace.Input.{Input}
use Rattle.vic_rules.specs.declared.trace.Input.TheVariants as input
use Rattle.vic_client.specs.Kept.{KeptClient, is_idle}
use Rattle.vic_session.specs.declared.stepping.Given.{Given}
use Rattle.vic_session.specs.declared.stepping.Given.TheVariants as given

-- the input of the step
abbrev pub input_of : Given → Input
input_of (given.Call op) = input.Call op.now
input_of (given.Object call) = input.Object call.now
input_of given.Poll = input.Poll
input_of given.Sync = input.Sync
input_of (given.Payload payload) = input.Payload payload.now

-- it is no payload
abbrev pub IsAsked : Given → Type 0
IsAsked (given.Call op) = Unit {0}
IsAsked (given.Object call) = Unit {0}
IsAsked given.Poll = Unit {0}
IsAsked given.Sync = Unit {0}
IsAsked (given.Payload payload) = ⊥

-- an idle client may be asked, for a call within the limits; a payload may come at any time
abbrev pub MayBeGiven : Given → KeptClient → Type 0
MayBeGiven (given.Call op) c = IsTrue (is_idle c) × ((c.mode ≡ mode.Plain) × (Fits op.now × (c.calls + 1 < 2 ^ 32)))
MayBeGiven (given.Object call) c = IsTrue (is_idle c) × ((c.mode ≡ mode.Objects) × (FitsObject call.now × (c.calls + 1 < 2 ^ 32)))
MayBeGiven given.Poll c = IsTrue (is_idle c)
MayBeGiven given.Sync c = IsTrue (is_idle c)
MayBeGiven (given.Payload payload) c = Unit {0}
