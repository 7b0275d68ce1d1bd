-- The parts of a session: what was exchanged over the link, its greeting and its leave.
use Rattle.std.specs.Prelude.{◌≡◌, ◌⊎◌, ℕ, List, [], ◌++◌, Option, Some, Result, Ok, Err, codes}
use Rattle.vic_wire.specs.Hashes.{Group}
use Rattle.vic_wire.specs.declared.message.ToClient.TheVariants as say
use Rattle.vic_wire.specs.Reading.{read_answer}
use Rattle.vic_ports.specs.Links.{Told}
use Rattle.vic_script.specs.Words.{newline}
use Rattle.vic_session.specs.declared.wire.WireFault.TheVariants as fault
use Rattle.vic_session.specs.declared.end.SessionEnd.{SessionEnd}
use Rattle.vic_session.specs.declared.end.SessionEnd.TheVariants as ends
use Rattle.vic_session.specs.Talks.{talker, digest_of}
use Rattle.vic_session.specs.Wires.{Asks}
use Rattle.vic_session.specs.Sessions.{hello, bye}

-- what the first answer comes to
abbrev pub JudgedHello : List ℕ → Result (Unit {0}) SessionEnd → Type 0
JudgedHello p (Ok u) = read_answer p ≡ Some say.Hi
JudgedHello p (Err (ends.GreetingRefused r)) = read_answer p ≡ Some (say.Refused r)
JudgedHello p (Err (ends.Halted k h)) = (k ≡ 1) × ((h.bytes ≡ digest_of p) × ((read_answer p ≡ Some say.Hi → ⊥) × ((r : ℕ) → read_answer p ≡ Some (say.Refused r) → ⊥)))
JudgedHello p (Err ends.NoMemory) = Unit {0}
JudgedHello p (Err end) = ⊥

-- and what the answer to the leave comes to
abbrev pub JudgedBye : List ℕ → SessionEnd → Type 0
JudgedBye p ends.Ok = read_answer p ≡ Some say.Gone
JudgedBye p (ends.Halted k h) = (k ≡ 1) × ((h.bytes ≡ digest_of p) × (read_answer p ≡ Some say.Gone → ⊥))
JudgedBye p ends.NoMemory = Unit {0}
JudgedBye p end = ⊥

-- no answer came to a request
abbrev pub Unanswered : Option (List ℕ) → List ℕ → List ℕ → Told → Told → SessionEnd → Type 0
Unanswered request before after old new ends.LinkFault = Asks request before after old new (Err fault.Link)
Unanswered request before after old new ends.BadFrame = Asks request before after old new (Err fault.Length)
Unanswered request before after old new ends.NoMemory = ((new ≡ old) × (after ≡ before)) ⊎ Asks request before after old new (Err fault.NoMemory)
Unanswered request before after old new end = ⊥

-- Hello was said, and what came of it
abbrev pub Greeted : Group → ℕ → List ℕ → List ℕ → Told → Told → Result (Unit {0}) SessionEnd → Type 0
Greeted g me before after old new (Ok u) = (p : List ℕ) × (Asks (Some (hello (talker g me []))) before after old new (Ok p) × JudgedHello p (Ok u))
Greeted g me before after old new (Err end) =
    Unanswered (Some (hello (talker g me []))) before after old new end ⊎ ((p : List ℕ) × (Asks (Some (hello (talker g me []))) before after old new (Ok p) × JudgedHello p (Err end)))

-- Bye was said, and what came of it; what is printed at the end is printed where it was answered by Gone
abbrev pub PrintsBye : SessionEnd → List ℕ → List ℕ → Type 0
PrintsBye ends.Ok was out = out ≡ was ++ codes "bye" ++ newline
PrintsBye end was out = out ≡ was

abbrev pub Parted : List ℕ → List ℕ → Told → Told → SessionEnd → Type 0
Parted before after old new end = Unanswered (Some bye) before after old new end ⊎ ((p : List ℕ) × (Asks (Some bye) before after old new (Ok p) × JudgedBye p end))

abbrev pub Left : List ℕ → List ℕ → Told → Told → List ℕ → List ℕ → SessionEnd → Type 0
Left before after old new was out end = PrintsBye end was out × Parted before after old new end
