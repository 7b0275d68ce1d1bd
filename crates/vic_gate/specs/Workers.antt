-- What the worker of a connection does: requests in the order in which they were read, and their answers.
use Rattle.std.specs.Prelude.{◌≡◌, ◌≢◌, ◌⊎◌, ℕ, List, [], ◌∷◌, ◌++◌, map, Option, Some, None, Bool, true, Result, Ok, Err, unwrap_or}
use Rattle.std.specs.List.{flat_map}
use Rattle.vic_dict.specs.declared.op.Mode.{Mode}
use Rattle.vic_wire.specs.declared.message.ToServer.{ToServer}
use Rattle.vic_wire.specs.declared.message.ToServer.TheVariants as ask
use Rattle.vic_wire.specs.declared.message.ToClient.{ToClient}
use Rattle.vic_wire.specs.declared.message.ToClient.TheVariants as say
use Rattle.vic_wire.specs.Messages.{answer_text}
use Rattle.vic_wire.specs.Reading.{read_request}
use Rattle.vic_conn.specs.Frames.{Waits, Whole, Broken, front_of, frame_text, frames_of}
use Rattle.vic_ports.specs.Causes.{Rose, LeavesBehind, IsSpent}
use Rattle.vic_ports.specs.Written.{AppendedAll, AppendedFront}
use Rattle.vic_ports.specs.Links.{Told}
use Rattle.vic_gate.specs.declared.worker.WorkEnd.{WorkEnd}
use Rattle.vic_gate.specs.declared.worker.WorkEnd.TheVariants as ends

-- how a kind of worker goes about it: what is known of a connection at first and after each answer, who asks by that, and the
-- text of an answer
pub record Manner (A G : Type 0) : Type 0 where
  pub first : G
  pub asks : G → ℕ
  pub after : G → List ℕ → A → G
  pub text : A → List ℕ

-- a request that was answered, and by whom it was asked
pub record Handled (A : Type 0) : Type 0 where
  pub who : ℕ
  pub payload : List ℕ
  pub answer : A

-- ---- who asks

-- the client of a Hello that was answered by Hi
abbrev pub greeted_by : Option ToServer → ToClient → Option ℕ
greeted_by (Some (ask.Hello kind client)) say.Hi = Some client
greeted_by request a = None

-- the client that the connection is greeted as, after one more answer: the first one stays
abbrev pub greeted_after : Option ℕ → List ℕ → ToClient → Option ℕ
greeted_after (Some client) payload a = Some client
greeted_after None payload a = greeted_by (read_request payload) a

-- who asks: 0 before the connection is greeted
abbrev pub asker : Option ℕ → ℕ
asker greeted = unwrap_or greeted 0

-- clients greet, and are answered by messages
abbrev pub by_hello : Manner ToClient (Option ℕ)
by_hello = record { first = None; asks = asker; after = greeted_after; text = answer_text }

-- ---- a chain of answers

-- these requests were answered one after the other, each by a step of the desk, the first by a connection of which this is known
abbrev pub Chain : {A G P : Type 0} → Manner A G → (P → ℕ → List ℕ → Option A → P → Type 0) → G → P → List (Handled A) → G → P → Type 0
Chain manner answers known p [] after q = (p ≡ q) × (known ≡ after)
Chain {P = P} manner answers known p (x ∷ xs) after q =
    (m : P) × ((x.who ≡ manner.asks known) × (answers p x.who x.payload (Some x.answer) m × Chain manner answers (manner.after known x.payload x.answer) m xs after q))

-- the last step of a worker, by the whole frames that it read besides: none, or one that found no memory for the first of them
abbrev pub LastStep : {A G P : Type 0} → Manner A G → (P → ℕ → List ℕ → Option A → P → Type 0) → WorkEnd → List (List ℕ) → G → P → P → Type 0
LastStep manner answers ends.NoMemory more known p q =
    (p ≡ q) ⊎ ((payload : List ℕ) × ((others : List (List ℕ)) × ((more ≡ payload ∷ others) × answers p (manner.asks known) payload None q)))
LastStep manner answers end more known p q = p ≡ q

-- ---- the link

-- a read has answered that nothing is left, and nothing is, where the link tells it
abbrev pub IsOver : Told → Type 0
IsOver t = (t.ended ≡ true) × IsSpent t.left

-- the frames of answers
abbrev pub frames : {A G : Type 0} → Manner A G → List (Handled A) → List ℕ
frames manner handled = flat_map (λ x. frame_text (manner.text x.answer)) handled

-- how the worker ended, by what its link tells before and after, what it handled, the whole frames that it read besides, and the
-- bytes behind them
abbrev pub EndsBy : {A G : Type 0} → Manner A G → WorkEnd → Told → Told → List (Handled A) → List (List ℕ) → List ℕ → Type 0
EndsBy manner ends.Ended old new handled more rest = (more ≡ []) × ((rest ≡ []) × (IsOver new × ((new.faults ≡ old.faults) × AppendedAll (frames manner handled) old.written new.written)))
EndsBy manner ends.BadFrame old new handled more rest =
    (more ≡ []) × ((n : ℕ) × ((front_of rest ≡ Broken n) × ((new.faults ≡ old.faults) × AppendedAll (frames manner handled) old.written new.written)))
EndsBy manner ends.LinkFault old new handled more rest =
    (Rose old.faults new.faults × AppendedFront (frames manner handled) old.written new.written)
    ⊎ ((more ≡ []) × ((rest ≢ []) × ((front_of rest ≡ Waits) × (IsOver new × ((new.faults ≡ old.faults) × AppendedAll (frames manner handled) old.written new.written)))))
EndsBy manner ends.NoMemory old new handled more rest = (new.faults ≡ old.faults) × AppendedFront (frames manner handled) old.written new.written

-- what a worker did: it read bytes, handled their frames in order, and sent the answers. `read` is known where the link tells it
pub record IsWorked {A G P : Type 0} (manner : Manner A G) (answers : P → ℕ → List ℕ → Option A → P → Type 0) (old : Told) (p : P) (end : WorkEnd) (new : Told) (q : P) : Type 0 where
  pub read : List ℕ
  pub took : LeavesBehind read old.left new.left
  pub handled : List (Handled A)
  pub more : List (List ℕ)
  pub in_order : (frames_of read).0 ≡ map (λ x. x.payload) handled ++ more
  pub known : G
  pub last : P
  pub chain : Chain manner answers manner.first p handled known last
  pub stops : LastStep manner answers end more known last q
  pub ends_so : EndsBy manner end old new handled more (frames_of read).1

-- ---- the parts of a worker

-- why no frame came, of what the link tells before and after and of the bytes that are left
abbrev pub StopsBy : WorkEnd → Told → Told → List ℕ → Type 0
StopsBy ends.Ended old new left = (left ≡ []) × (IsOver new × (new.faults ≡ old.faults))
StopsBy ends.BadFrame old new left = ((n : ℕ) × (front_of left ≡ Broken n)) × (new.faults ≡ old.faults)
StopsBy ends.LinkFault old new left = Rose old.faults new.faults ⊎ ((left ≢ []) × ((front_of left ≡ Waits) × (IsOver new × (new.faults ≡ old.faults))))
StopsBy ends.NoMemory old new left = new.faults ≡ old.faults

-- bytes were read and nothing was written; then the next frame was taken, or none came
abbrev pub Waited : List ℕ → List ℕ → Told → Told → Result (List ℕ) WorkEnd → Type 0
Waited before after old new (Ok p) =
    (read : List ℕ) × (LeavesBehind read old.left new.left × ((new.written ≡ old.written) × ((new.faults ≡ old.faults) × (front_of (before ++ read) ≡ Whole p after))))
Waited before after old new (Err end) =
    (read : List ℕ) × (LeavesBehind read old.left new.left × ((new.written ≡ old.written) × StopsBy end old new (before ++ read)))

-- an answer was sent, or a front of it
abbrev pub SendsAnswer : ToClient → Told → Result (Unit {0}) WorkEnd → Told → Type 0
SendsAnswer a old (Ok u) new = AppendedAll (frame_text (answer_text a)) old.written new.written × ((new.left ≡ old.left) × (new.faults ≡ old.faults))
SendsAnswer a old (Err ends.LinkFault) new = AppendedFront (frame_text (answer_text a)) old.written new.written × ((new.left ≡ old.left) × Rose old.faults new.faults)
SendsAnswer a old (Err ends.NoMemory) new = AppendedFront (frame_text (answer_text a)) old.written new.written × ((new.left ≡ old.left) × (new.faults ≡ old.faults))
SendsAnswer a old (Err end) new = ⊥

-- a request was answered, and the answer was sent or not; or there was no memory for an answer
abbrev pub Handles : {A G P : Type 0} → Manner A G → (P → ℕ → List ℕ → Option A → P → Type 0) → G → P → List ℕ → Told → Result G WorkEnd → Told → P → Type 0
Handles {A = A} manner answers known p payload old (Ok g) new q =
    (a : A) × (answers p (manner.asks known) payload (Some a) q × ((g ≡ manner.after known payload a) × (AppendedAll (frame_text (manner.text a)) old.written new.written × ((new.left ≡ old.left) × (new.faults ≡ old.faults)))))
Handles {A = A} manner answers known p payload old (Err ends.LinkFault) new q =
    (a : A) × (answers p (manner.asks known) payload (Some a) q × (AppendedFront (frame_text (manner.text a)) old.written new.written × ((new.left ≡ old.left) × Rose old.faults new.faults)))
Handles {A = A} manner answers known p payload old (Err ends.NoMemory) new q =
    ((a : A) × (answers p (manner.asks known) payload (Some a) q × (AppendedFront (frame_text (manner.text a)) old.written new.written × ((new.left ≡ old.left) × (new.faults ≡ old.faults)))))
    ⊎ (answers p (manner.asks known) payload None q × (new ≡ old))
Handles {A = A} manner answers known p payload old (Err end) new q = ⊥
