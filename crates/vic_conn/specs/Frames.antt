-- Frames in a stream of bytes: four bytes of length, the highest first, and a payload of that length.
use Rattle.std.specs.Prelude.{◌≡◌, ℕ, zero, suc, ◌<◌, Bool, ◌&&◌, List, [], ◌∷◌, ◌++◌, length, Ok, Err, nat_lt, nat_le, if◌then◌else◌}
use Rattle.std.specs.Int.{w32, to_be_bytes}
use Rattle.vic_dict.specs.declared.limits.TheConstants.{LONGEST_FRAME}
use Rattle.vic_conn.specs.declared.fault.FrameFault.{FrameFault}
use Rattle.vic_conn.specs.declared.fault.FrameFault.TheVariants as fault
use Rattle.vic_wire.specs.Reading.{Read, number_at, bytes_at}

-- how a stream goes on: no whole frame yet, a frame's payload and the bytes behind it, or a length that no frame has
pub data Goes : Type 0 where
  Waits : Goes
  Whole : List ℕ → List ℕ → Goes
  Broken : ℕ → Goes

-- the fault is that the next length is one that no frame has
abbrev pub IsBroken : FrameFault → Goes → Type 0
IsBroken fault.Zero goes = goes ≡ Broken 0
IsBroken (fault.TooLong n) goes = (0 < n) × (goes ≡ Broken n)
IsBroken fault.NoMemory goes = ⊥

-- a payload has 1 to 16,777,216 bytes
abbrev pub is_length : ℕ → Bool
is_length n = nat_lt 0 n && nat_le n LONGEST_FRAME

-- how it goes on behind a length, from the bytes read as the payload
abbrev pub on_payload : Read (List ℕ) → Goes
on_payload (Ok p) = Whole p.0 p.1
on_payload (Err e) = Waits

-- and from the bytes read as the length
abbrev pub on_length : Read ℕ → Goes
on_length (Ok n) = if is_length n.0 then on_payload (bytes_at n.0 n.1) else Broken n.0
on_length (Err e) = Waits

-- how a stream goes on that has these bytes next
unfoldable pub front_of : List ℕ → Goes
front_of bytes = on_length (number_at w32 bytes)

-- the bytes of a frame with this payload
abbrev pub frame_text : List ℕ → List ℕ
frame_text payload = to_be_bytes w32 (length payload) ++ payload

-- a payload in front of those behind it
abbrev pub before : List ℕ → List (List ℕ) × List ℕ → List (List ℕ) × List ℕ
before payload split = (payload ∷ split.0, split.1)

-- the payload of a whole frame, and what the bytes behind it are split into; else no payload and the bytes themselves
abbrev pub split_by : (List ℕ → List (List ℕ) × List ℕ) → List ℕ → Goes → List (List ℕ) × List ℕ
split_by split bytes Waits = ([], bytes)
split_by split bytes (Whole payload behind) = before payload (split behind)
split_by split bytes (Broken n) = ([], bytes)

-- the payloads of at most so many whole frames from the front, and the bytes left
unfoldable pub frames_within : ℕ → List ℕ → List (List ℕ) × List ℕ
frames_within zero bytes = ([], bytes)
frames_within (suc n) bytes = split_by (frames_within n) bytes (front_of bytes)

-- the payloads of all whole frames from the front, and the bytes left: there are no more frames than bytes
unfoldable pub frames_of : List ℕ → List (List ℕ) × List ℕ
frames_of bytes = frames_within (length bytes) bytes

-- the payloads taken, piece by piece, from the bytes left and each piece behind them, and the bytes left at the end
unfoldable pub by_pieces : List ℕ → List (List ℕ) → List (List ℕ) × List ℕ
by_pieces left [] = ([], left)
by_pieces left (p ∷ ps) = let now = frames_of (left ++ p) in let later = by_pieces now.1 ps in (now.0 ++ later.0, later.1)
