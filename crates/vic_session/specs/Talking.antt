-- A session that talks: the client, its place in the script and what was printed are those of a talk.
use Rattle.std.specs.Prelude.{◌≡◌, ◌⊎◌, ℕ, ◌+◌, ◌≤◌, List, ◌++◌, length, Option, Some, None, Result, Ok, Err}
use Rattle.vic_rules.specs.declared.trace.Input.{Input}
use Rattle.vic_rules.specs.declared.trace.Input.TheVariants as input
use Rattle.vic_rules.specs.declared.object.Phase.{Phase}
use Rattle.vic_rules.specs.declared.object.Phase.TheVariants as phase
use Rattle.vic_rules.specs.Objects.{FitsObject}
use Rattle.vic_rules.specs.Client.{Standing, step, payload_of}
use Rattle.vic_client.specs.declared.step.Step.{Step}
use Rattle.vic_client.specs.Kept.{KeptClient, StandsFor, kept_group}
use Rattle.vic_client.specs.Pending.{FitsFrame}
use Rattle.vic_script.specs.Lines.{lines_of}
use Rattle.vic_script.specs.Run.{script_limit}
use Rattle.vic_dict.specs.declared.op.Mode.{Mode}
use Rattle.vic_dict.specs.declared.op.Mode.TheVariants as mode
use Rattle.vic_dict.specs.Dictionary.{Fits}
use Rattle.vic_dict.specs.declared.bytes.NoMemory.{NoMemory}
use Rattle.vic_text.specs.declared.client_line.ClientLine.{ClientLine}
use Rattle.vic_text.specs.declared.client_line.ClientLine.TheVariants as line
use Rattle.vic_session.specs.declared.place.At.{At}
use Rattle.vic_session.specs.declared.place.At.TheVariants as at
use Rattle.vic_session.specs.declared.place.Place.{Place}
use Rattle.vic_session.specs.declared.lines.Begun.{Begun}
use Rattle.vic_session.specs.declared.lines.Begun.TheVariants as begun
use Rattle.vic_session.specs.Sessions.{IsLeftAt}
use Rattle.vic_session.specs.Talks.{Talk, Talker, Doing, Calls, Tells, Settles, Leaves, Bad, Halts, talk_after_step, talk_after_asking, talk_from_line, talk_at_next_line, one_of, sent_in, digest_of}

abbrev pub IsDoing : At → Doing → Type 0
IsDoing at.Calls d = d ≡ Calls
IsDoing at.Tells d = d ≡ Tells
IsDoing (at.Settles n) d = d ≡ Settles n
IsDoing at.Leaves d = d ≡ Leaves
IsDoing (at.Bad k) d = d ≡ Bad k
IsDoing (at.Halts k h) d = (payload : List ℕ) × ((d ≡ Halts k payload) × (h.bytes ≡ digest_of payload))

-- the place is within the limit of a script, and so are the lines before it
abbrev pub IsWithin : Place → Type 0
IsWithin p = (p.behind + length p.rest.now ≡ p.total) × ((p.number ≤ p.behind) × (p.behind ≤ script_limit))

-- it is, where lines are still to come; where every line was done, so is the script
abbrev pub IsFine : At → Place → Type 0
IsFine at.Calls p = IsWithin p
IsFine at.Tells p = IsWithin p
IsFine (at.Settles n) p = IsWithin p
IsFine at.Leaves p = p.total ≤ script_limit
IsFine (at.Bad k) p = Unit {0}
IsFine (at.Halts k h) p = Unit {0}

-- an answer is awaited
abbrev pub IsBusy : At → Type 0
IsBusy at.Calls = Unit {0}
IsBusy at.Tells = Unit {0}
IsBusy (at.Settles n) = Unit {0}
IsBusy at.Leaves = ⊥
IsBusy (at.Bad k) = ⊥
IsBusy (at.Halts k h) = ⊥

-- a store whose content was sent is still to call its put
abbrev pub will_call : Phase → ℕ
will_call phase.Closed = 0
will_call (phase.Keeping k h len) = 1
will_call phase.Calling = 0
will_call (phase.Fetching h len) = 0

-- how often a client has called, and is to call for what it was asked
abbrev pub calls_of : Standing → ℕ
calls_of s = s.calls + will_call s.phase

-- the client stands somewhere, and has called no more often than lines were begun
abbrev pub Stands : KeptClient → ℕ → Type 0
Stands c number = (s : Standing) × (StandsFor c s × (calls_of s ≤ number))

-- what the client, the place and the print are, of a talk that began with this print
pub record On (w : Talker) (t : Talk) (start : List ℕ) (c : KeptClient) (p : Place) (out : List ℕ) : Type 0 where
  pub me : c.id ≡ w.me
  pub group : kept_group c ≡ w.group
  pub stands_so : StandsFor c t.now
  pub few : calls_of t.now ≤ p.number
  pub total : w.total ≡ p.total
  pub number : t.number ≡ p.number
  pub behind : t.behind ≡ p.behind
  pub lines : t.lines ≡ lines_of p.rest.now
  pub text : out ≡ start ++ t.text

-- a front of the print was printed
abbrev pub PrintsFront : List ℕ → Talk → List ℕ → Type 0
PrintsFront start t out = (front rest : List ℕ) × ((t.text ≡ front ++ rest) × (out ≡ start ++ front))

-- the talk went on from one to the other, and this is to be sent
pub record Went (w : Talker) (old new : Talk) (start : List ℕ) (c : KeptClient) (p : Place) (out : List ℕ) (sent : Option (List ℕ)) : Type 0 where
  pub on : On w new start c p out
  pub doing : IsDoing p.doing new.doing
  pub sends : sent_in new.history ≡ sent_in old.history ++ one_of sent

abbrev pub GoesTo : Talker → Talk → Talk → List ℕ → KeptClient → Place → List ℕ → Result (Option (List ℕ)) NoMemory → Type 0
GoesTo w old new start c p out (Ok sent) = Went w old new start c p out sent
GoesTo w old new start c p out (Err e) = PrintsFront start new out

-- a line was begun, and nothing was sent; or the client asks; or it is bad
abbrev pub Began : Talker → Talk → List ℕ → Option ClientLine → KeptClient → KeptClient → Place → List ℕ → List ℕ → Begun → Type 0
Began w t start line old new p was out begun.Next =
    (u : Talk) × (((next : Talk → Talk) → talk_from_line w t line next ≡ next u) × ((u.history ≡ t.history) × ((new ≡ old) × On w u start new p out)))
Began w t start line old new p was out (begun.Asks sent doing) =
    (given : Input) × ((d : Doing) × (((next : Talk → Talk) → talk_from_line w t line next ≡ talk_after_asking w t given d)
    × (IsDoing doing d × ((out ≡ was) × Went w t (talk_after_asking w t given d) start new (record p { doing = doing }) out (Some sent)))))
Began w t start line old new p was out begun.Bad = ((next : Talk → Talk) → talk_from_line w t line next ≡ record t { doing = Bad 1 }) × ((new ≡ old) × (out ≡ was))

-- where nothing was sent, the client is as before
abbrev pub Rests : Begun → KeptClient → KeptClient → Type 0
Rests begun.Next old new = new ≡ old
Rests (begun.Asks sent doing) old new = IsBusy doing
Rests begun.Bad old new = new ≡ old

-- a line may be begun in a group of this mode
abbrev pub CanBegin : ClientLine → Mode → Type 0
CanBegin (line.Call o) kind = (kind ≡ mode.Plain) × Fits o
CanBegin (line.Object c) kind = (kind ≡ mode.Objects) × FitsObject c
CanBegin line.Poll kind = Unit {0}
CanBegin line.Sync kind = Unit {0}
CanBegin (line.Settle n) kind = Unit {0}
CanBegin line.Skip kind = Unit {0}

-- the talk goes on from where it is led to as it does from here, and nothing was sent on the way
abbrev pub Led : Talker → Talk → List ℕ → KeptClient → Place → List ℕ → Type 0
Led w t start c p out = (u : Talk) × (On w u start c p out × ((talk_at_next_line w t t.lines ≡ talk_at_next_line w u u.lines) × (u.history ≡ t.history)))

-- the next line was begun
abbrev pub Lined : Talker → Talk → List ℕ → KeptClient → Place → List ℕ → Begun → Type 0
Lined w t start c p out begun.Next = Led w t start c p out
Lined w t start c p out (begun.Asks sent doing) = Went w t (talk_at_next_line w t t.lines) start c p out (Some sent)
Lined w t start c p out begun.Bad = Went w t (talk_at_next_line w t t.lines) start c p out None

-- what is sent fits a frame
abbrev pub FitsIn : Begun → Type 0
FitsIn begun.Next = Unit {0}
FitsIn (begun.Asks sent doing) = FitsFrame sent
FitsIn begun.Bad = Unit {0}

-- where lines are still to come, the place is within the limit
abbrev pub LinedAt : Begun → Place → Type 0
LinedAt begun.Next p = IsWithin p
LinedAt (begun.Asks sent doing) p = IsBusy p.doing × IsWithin p
LinedAt begun.Bad p = (k : ℕ) × (p.doing ≡ at.Bad k)

-- what is to be sent, by what the client is at: at the end nothing is
abbrev pub MaySend : At → Option (List ℕ) → Type 0
MaySend at.Calls sent = Unit {0}
MaySend at.Tells sent = Unit {0}
MaySend (at.Settles n) sent = Unit {0}
MaySend at.Leaves sent = sent ≡ None
MaySend (at.Bad k) sent = sent ≡ None
MaySend (at.Halts k h) sent = sent ≡ None

-- a talk has made a step on a payload: the client stands behind it, and nothing is printed of it yet
pub record Heard (w : Talker) (t : Talk) (start payload : List ℕ) (r : Step) (c : KeptClient) (p : Place) (out : List ℕ) : Type 0 where
  pub me : c.id ≡ w.me
  pub group : kept_group c ≡ w.group
  pub stands_so : StandsFor c (talk_after_step w t (input.Payload payload)).now
  pub few : calls_of t.now ≤ p.number
  pub total : w.total ≡ p.total
  pub number : t.number ≡ p.number
  pub behind : t.behind ≡ p.behind
  pub lines : t.lines ≡ lines_of p.rest.now
  pub text : out ≡ start ++ t.text
  pub doing : IsDoing p.doing t.doing
  pub send : r.send ≡ payload_of w.group w.me (step w.group w.me t.now (input.Payload payload)).next (step w.group w.me t.now (input.Payload payload)).sends
  pub returned : r.returned ≡ (step w.group w.me t.now (input.Payload payload)).returns
  pub object : r.object ≡ (step w.group w.me t.now (input.Payload payload)).object

-- memory ran out at a payload: the client stands before its step on that, or behind it
abbrev pub IsShortOf : Talker → Talk → List ℕ → KeptClient → Type 0
IsShortOf w t payload c = IsLeftAt w.group w.me t.now c ⊎ IsLeftAt w.group w.me (talk_after_step w t (input.Payload payload)).now c
