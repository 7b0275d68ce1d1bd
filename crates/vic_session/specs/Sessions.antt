-- What a session over a link did: the talk between its greeting and its leave, the frames that it sent, and why it ended.
use Rattle.std.specs.Prelude.{◌≡◌, ◌⊎◌, ◌≤◌, ℕ, List, [], ◌∷◌, ◌++◌, length, Option, Some, None, true, codes}
use Rattle.std.specs.List.{flat_map}
use Rattle.vic_wire.specs.Hashes.{Group}
use Rattle.vic_wire.specs.declared.message.ToServer.TheVariants as ask
use Rattle.vic_wire.specs.declared.message.ToClient.{ToClient}
use Rattle.vic_wire.specs.declared.message.ToClient.TheVariants as say
use Rattle.vic_wire.specs.Messages.{request_text}
use Rattle.vic_wire.specs.Reading.{read_answer}
use Rattle.vic_conn.specs.Frames.{Waits, Broken, front_of, frame_text, frames_of}
use Rattle.vic_ports.specs.Causes.{Rose, LeavesBehind, IsSpent}
use Rattle.vic_ports.specs.Written.{AppendedAll, AppendedFront}
use Rattle.vic_ports.specs.Links.{Told}
use Rattle.vic_rules.specs.declared.trace.TraceStep.{TraceStep}
use Rattle.vic_rules.specs.Client.{Standing, at_start}
use Rattle.vic_rules.specs.History.{standing}
use Rattle.vic_client.specs.Kept.{KeptClient, StandsFor, kept_group}
use Rattle.vic_script.specs.Words.{newline}
use Rattle.vic_session.specs.declared.end.SessionEnd.{SessionEnd}
use Rattle.vic_session.specs.declared.end.SessionEnd.TheVariants as ends
use Rattle.vic_session.specs.Talks.{Talk, Talker, Doing, Leaves, Bad, Halts, talk_after_payload, opening_talk, talk, talker, sent_in, digest_of}

-- how far a session came: it greeted; it was answered by Hi and talks; or it said that it leaves
pub data Stage : Type 0 where
  Greets : Stage
  Talks : Stage
  Goes_away : Stage

abbrev pub hello : Talker → List ℕ
hello w = request_text (ask.Hello w.group.mode w.me)

abbrev pub bye : List ℕ
bye = request_text ask.Bye

-- the payloads that it sent, the oldest first
abbrev pub requests : Talker → Talk → Stage → List (List ℕ)
requests w t Greets = hello w ∷ []
requests w t Talks = hello w ∷ sent_in t.history
requests w t Goes_away = hello w ∷ sent_in t.history ++ bye ∷ []

abbrev pub frames : List (List ℕ) → List ℕ
frames payloads = flat_map frame_text payloads

-- the whole frames that were read: that of Hi, those that the client took, and others
abbrev pub Read : Stage → List (List ℕ) → List (List ℕ) → List (List ℕ) → Type 0
Read Greets payloads taken more = (taken ≡ []) × (payloads ≡ more)
Read Talks payloads taken more = (hi : List ℕ) × ((read_answer hi ≡ Some say.Hi) × (payloads ≡ hi ∷ taken ++ more))
Read Goes_away payloads taken more = (hi : List ℕ) × ((read_answer hi ≡ Some say.Hi) × (payloads ≡ hi ∷ taken ++ more))

abbrev pub first_of : List (List ℕ) → Option (List ℕ)
first_of [] = None
first_of (p ∷ ps) = Some p

abbrev pub IsAnswer : Option (List ℕ) → ToClient → Type 0
IsAnswer first a = (p : List ℕ) × ((first ≡ Some p) × (read_answer p ≡ Some a))

-- a greeting or a leave was answered, by something else
abbrev pub IsStrange : Stage → Option (List ℕ) → List ℕ → Type 0
IsStrange Greets first h = (p : List ℕ) × ((first ≡ Some p) × ((h ≡ digest_of p) × ((read_answer p ≡ Some say.Hi → ⊥) × ((r : ℕ) → read_answer p ≡ Some (say.Refused r) → ⊥))))
IsStrange Talks first h = ⊥
IsStrange Goes_away first h = (p : List ℕ) × ((first ≡ Some p) × ((h ≡ digest_of p) × (read_answer p ≡ Some say.Gone → ⊥)))

abbrev pub HaltsBy : Stage → Doing → ℕ → List ℕ → Option (List ℕ) → Type 0
HaltsBy stage doing k h first = ((stage ≡ Talks) × ((p : List ℕ) × ((doing ≡ Halts k p) × (h ≡ digest_of p)))) ⊎ ((k ≡ 1) × IsStrange stage first h)

-- the talk is at its end: no payload is awaited
abbrev pub IsOver : Doing → Type 0
IsOver Leaves = Unit {0}
IsOver (Bad kind) = Unit {0}
IsOver (Halts check payload) = Unit {0}
IsOver doing = ⊥

-- an answer is owed: to the greeting, to what the talk is at, or to the leave
abbrev pub IsOwed : Stage → Doing → Type 0
IsOwed Greets doing = Unit {0}
IsOwed Talks doing = IsOver doing → ⊥
IsOwed Goes_away doing = Unit {0}

-- each payload was taken where one was awaited
abbrev pub AllAwaited : Talker → Talk → List (List ℕ) → Type 0
AllAwaited w t [] = Unit {0}
AllAwaited w t (p ∷ ps) = (IsOver t.doing → ⊥) × AllAwaited w (talk_after_payload w t p) ps

-- it goes away only where every line was done
abbrev pub IsAt : Stage → Doing → Type 0
IsAt Greets doing = Unit {0}
IsAt Talks doing = Unit {0}
IsAt Goes_away doing = doing ≡ Leaves

-- the link ended, with nothing left to read, while an answer was owed
abbrev pub IsCutOff : Stage → Doing → Told → List (List ℕ) → List ℕ → Type 0
IsCutOff stage doing new more rest = IsOwed stage doing × ((more ≡ []) × (((new.ended ≡ true) × IsSpent new.left) × (front_of rest ≡ Waits)))

-- why a session ended: of its stage, of what the talk is at, of what the link tells before and after, of the whole frames read
-- besides, and of the bytes behind them. Where a call of the link failed, answers may have come early
abbrev pub EndsBy : SessionEnd → Stage → Talk → Told → Told → List (List ℕ) → List ℕ → Type 0
EndsBy ends.Ok stage t old new more rest = (stage ≡ Goes_away) × ((t.doing ≡ Leaves) × (IsAnswer (first_of more) say.Gone × (new.faults ≡ old.faults)))
EndsBy (ends.BadLine n k) stage t old new more rest = (stage ≡ Talks) × ((t.doing ≡ Bad k) × ((n ≡ t.number) × (new.faults ≡ old.faults)))
EndsBy ends.LinkFault stage t old new more rest =
    (Rose old.faults new.faults × (IsOwed stage t.doing × (stage ≡ Greets → more ≡ []))) ⊎ ((new.faults ≡ old.faults) × IsCutOff stage t.doing new more rest)
EndsBy (ends.Halted k h) stage t old new more rest = HaltsBy stage t.doing k h.bytes (first_of more) × (new.faults ≡ old.faults)
EndsBy ends.BadFrame stage t old new more rest = IsOwed stage t.doing × ((more ≡ []) × (((n : ℕ) × (front_of rest ≡ Broken n)) × (new.faults ≡ old.faults)))
EndsBy (ends.GreetingRefused r) stage t old new more rest = (stage ≡ Greets) × (IsAnswer (first_of more) (say.Refused r) × (new.faults ≡ old.faults))
EndsBy ends.NoMemory stage t old new more rest = new.faults ≡ old.faults

-- the frames went to the link: all of them, unless a call of it failed or memory ran out
abbrev pub Sent : SessionEnd → List ℕ → Told → Told → Type 0
Sent ends.NoMemory text old new = AppendedFront text old.written new.written
Sent ends.LinkFault text old new = (Rose old.faults new.faults × AppendedFront text old.written new.written) ⊎ AppendedAll text old.written new.written
Sent end text old new = AppendedAll text old.written new.written

-- what the talk printed: nothing before it began
abbrev pub printed_at : Stage → Talk → List ℕ
printed_at Greets t = []
printed_at Talks t = t.text
printed_at Goes_away t = t.text

-- what joins the printed lines: what the talk printed, and at the end that the client has left
abbrev pub Prints : SessionEnd → List ℕ → List ℕ → List ℕ → Type 0
Prints ends.Ok text old new = new ≡ old ++ text ++ codes "bye" ++ newline
Prints ends.NoMemory text old new = (front rest : List ℕ) × ((text ≡ front ++ rest) × (new ≡ old ++ front))
Prints end text old new = new ≡ old ++ text

-- what a session did
pub record IsSession (g : Group) (me : ℕ) (script : List ℕ) (old : Told) (out : List ℕ) (end : SessionEnd) (new : Told) (printed : List ℕ) : Type 0 where
  pub read : List ℕ
  pub took : LeavesBehind read old.left new.left
  -- the payloads that its client took, which are the first of those read after Hi
  pub taken : List (List ℕ)
  pub more : List (List ℕ)
  pub stage : Stage
  pub reads : Read stage (frames_of read).0 taken more
  pub awaited : AllAwaited (talker g me script) (opening_talk (talker g me script) script) taken
  pub at : IsAt stage (talk (talker g me script) script taken).doing
  pub sent : Sent end (frames (requests (talker g me script) (talk (talker g me script) script taken) stage)) old new
  pub prints : Prints end (printed_at stage (talk (talker g me script) script taken)) out printed
  pub ends_so : EndsBy end stage (talk (talker g me script) script taken) old new more (frames_of read).1

-- where the client of a session stands: where it began, until the talk does
abbrev pub stands_at : Stage → Talk → Standing
stands_at Greets t = at_start
stands_at Talks t = t.now
stands_at Goes_away t = t.now

-- it is the client of that number in that group, and stands there
abbrev pub IsLeftAt : Group → ℕ → Standing → KeptClient → Type 0
IsLeftAt g me s c = (c.id ≡ me) × ((kept_group c ≡ g) × StandsFor c s)

-- where memory ran out in a talk, its newest steps aren't made, two at most: those on the last payload, or at the first line. The
-- client stands behind the others, and a front of their requests was sent
pub record IsLeftShort (g : Group) (me : ℕ) (script : List ℕ) (t : Talk) (old new : Told) (c : KeptClient) : Type 0 where
  pub made : List TraceStep
  pub unmade : List TraceStep
  pub all : t.history ≡ unmade ++ made
  pub few : length unmade ≤ 2
  pub stands : IsLeftAt g me (standing g me made) c
  pub sent : AppendedFront (frames (hello (talker g me script) ∷ sent_in made)) old.written new.written

-- and so of a session: before the talk and behind it none of its steps is missing
abbrev pub StandsShort : Stage → Group → ℕ → List ℕ → Talk → Told → Told → KeptClient → Type 0
StandsShort Greets g me script t old new c = IsLeftAt g me at_start c
StandsShort Talks g me script t old new c = IsLeftShort g me script t old new c
StandsShort Goes_away g me script t old new c = IsLeftAt g me t.now c

-- the client afterwards
abbrev pub StandsBehind : SessionEnd → Stage → Group → ℕ → List ℕ → Talk → Told → Told → KeptClient → Type 0
StandsBehind ends.NoMemory stage g me script t old new c = StandsShort stage g me script t old new c
StandsBehind end stage g me script t old new c = IsLeftAt g me (stands_at stage t) c

-- what a session did, and how it left its client
pub record IsSessionOf (g : Group) (me : ℕ) (script : List ℕ) (old : Told) (out : List ℕ) (end : SessionEnd) (new : Told) (printed : List ℕ) (c : KeptClient) : Type 0 where
  pub did : IsSession g me script old out end new printed
  pub stands : StandsBehind end did.stage g me script (talk (talker g me script) script did.taken) old new c
