-- What is sent to a link, and what is read from it: one payload after the other.
use Rattle.std.specs.Prelude.{◌≡◌, ◌⊎◌, ℕ, List, ◌++◌, Option, true, Result, Ok, Err}
use Rattle.std.specs.List.{flat_map}
use Rattle.vic_conn.specs.Frames.{Waits, Whole, Broken, front_of, frame_text}
use Rattle.vic_ports.specs.Causes.{Rose, LeavesBehind, IsSpent}
use Rattle.vic_ports.specs.Written.{AppendedAll, AppendedFront}
use Rattle.vic_ports.specs.Links.{Told}
use Rattle.vic_session.specs.Talks.{one_of}
use Rattle.vic_session.specs.declared.wire.WireFault.{WireFault}
use Rattle.vic_session.specs.declared.wire.WireFault.TheVariants as fault

-- the frames of payloads
abbrev pub frames : List (List ℕ) → List ℕ
frames payloads = flat_map frame_text payloads

-- a text was written, or a front of it; nothing was read
abbrev pub SendsText : List ℕ → Told → Result (Unit {0}) WireFault → Told → Type 0
SendsText text old (Ok u) new = AppendedAll text old.written new.written × ((new.left ≡ old.left) × (new.faults ≡ old.faults))
SendsText text old (Err fault.Link) new = AppendedFront text old.written new.written × ((new.left ≡ old.left) × Rose old.faults new.faults)
SendsText text old (Err fault.Length) new = ⊥
SendsText text old (Err fault.NoMemory) new = AppendedFront text old.written new.written × ((new.left ≡ old.left) × (new.faults ≡ old.faults))

-- why no frame came, of what the link tells before and after and of the bytes that are left
abbrev pub StopsBy : WireFault → Told → Told → List ℕ → Type 0
StopsBy fault.Link old new left = (front_of left ≡ Waits) × (Rose old.faults new.faults ⊎ (((new.ended ≡ true) × IsSpent new.left) × (new.faults ≡ old.faults)))
StopsBy fault.Length old new left = ((n : ℕ) × (front_of left ≡ Broken n)) × (new.faults ≡ old.faults)
StopsBy fault.NoMemory old new left = new.faults ≡ old.faults

-- bytes were read and nothing was written; then the next frame was taken, or none came
abbrev pub Receives : List ℕ → List ℕ → Told → Told → Result (List ℕ) WireFault → Type 0
Receives before after old new (Ok p) =
    (read : List ℕ) × (LeavesBehind read old.left new.left × ((new.written ≡ old.written) × ((new.faults ≡ old.faults) × (front_of (before ++ read) ≡ Whole p after))))
Receives before after old new (Err f) =
    (read : List ℕ) × (LeavesBehind read old.left new.left × ((new.written ≡ old.written) × StopsBy f old new (before ++ read)))

-- a request was sent, if there is one, and then one answer was read; or it failed in the one or in the other
abbrev pub Asks : Option (List ℕ) → List ℕ → List ℕ → Told → Told → Result (List ℕ) WireFault → Type 0
Asks request before after old new (Ok p) = (mid : Told) × (SendsText (frames (one_of request)) old (Ok tt) mid × Receives before after mid new (Ok p))
Asks request before after old new (Err f) =
    (SendsText (frames (one_of request)) old (Err f) new × (after ≡ before))
    ⊎ ((mid : Told) × (SendsText (frames (one_of request)) old (Ok tt) mid × Receives before after mid new (Err f)))
