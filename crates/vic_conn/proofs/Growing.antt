-- What later bytes can't change, and what is read back.
use Rattle.std.proofs.Common.{◌≡◌, ℕ, ◌^◌, ◌<◌, ◌≤◌, List, ◌++◌, length, drop, refl, ap, ◌∙◌, arith}
use Rattle.std.specs.Int.{w32, to_be_bytes, from_be_bytes}
use Rattle.std.proofs.lemmas.List.{take-append-le, drop-append-le, length-append, take_at, drop_at}
use Rattle.std.proofs.lemmas.Nat.{from_be_bytes-to_be_bytes_4}
use Rattle.vic_conn.specs.Frames.{Whole, Broken, is_length, front_of, frame_text}
use Rattle.vic_conn.specs.FrameLaws.{StaysDecided}
use Rattle.vic_conn.proofs.Fronts.{size_of, HasWhole, HasBroken, whole_told, whole_is, broken_told, broken_is, length_allowed}

-- a length that is whole stays
size_stays : (xs ys : List ℕ) → 4 ≤ length xs → size_of (xs ++ ys) ≡ size_of xs
size_stays xs ys enough = ap (from_be_bytes w32) (take-append-le 4 xs ys enough)

-- a whole frame and a broken length, with more bytes behind
whole_grows : (xs ys p behind : List ℕ) → HasWhole xs p behind → HasWhole (xs ++ ys) p (behind ++ ys)
whole_grows xs ys p behind h =
    let size = size_stays xs ys h.enough in
    let after : drop 4 (xs ++ ys) ≡ drop 4 xs ++ ys = drop-append-le 4 xs ys h.enough in
    let enough = h.enough in
    let there = h.there in
    record {
      enough = omega (arith, length-append xs ys);
      allowed = ap is_length size ∙ h.allowed;
      there = rw (size, after) (omega (arith, length-append (drop 4 xs) ys));
      payload = rw (size, after) (take-append-le (size_of xs) (drop 4 xs) ys h.there ∙ h.payload);
      rest = rw (size, after) (drop-append-le (size_of xs) (drop 4 xs) ys h.there ∙ ap (λ b. b ++ ys) h.rest);
    }

broken_grows : (xs ys : List ℕ) (n : ℕ) → HasBroken xs n → HasBroken (xs ++ ys) n
broken_grows xs ys n h =
    let size = size_stays xs ys h.enough in
    let enough = h.enough in
    record {
      enough = omega (arith, length-append xs ys);
      refused = ap is_length size ∙ h.refused;
      size = size ∙ h.size;
    }

pub whole_stays : (xs ys p behind : List ℕ) → front_of xs ≡ Whole p behind → front_of (xs ++ ys) ≡ Whole p (behind ++ ys)
whole_stays xs ys p behind e = whole_is (xs ++ ys) p (behind ++ ys) (whole_grows xs ys p behind (whole_told xs p behind e))

pub broken_stays : (xs ys : List ℕ) (n : ℕ) → front_of xs ≡ Broken n → front_of (xs ++ ys) ≡ Broken n
broken_stays xs ys n e = broken_is (xs ++ ys) n (broken_grows xs ys n (broken_told xs n e))

pub stays : StaysDecided
stays = record { whole = whole_stays; broken = broken_stays }

-- ---- reading back

-- the four bytes of a number in front of other bytes
field_first : (n : ℕ) (rest : List ℕ) → n < 2 ^ 32 → size_of (to_be_bytes w32 n ++ rest) ≡ n
field_first n rest below = from_be_bytes-to_be_bytes_4 n below

field_length : (n : ℕ) (rest : List ℕ) → 4 ≤ length (to_be_bytes w32 n ++ rest)
field_length n rest = omega arith

pub read_back : (p rest : List ℕ) → 0 < length p → length p ≤ 16777216 → front_of (frame_text p ++ rest) ≡ Whole p rest
read_back p rest some most =
    let size : size_of (frame_text p ++ rest) ≡ length p = field_first (length p) (p ++ rest) (omega arith) in
    whole_is (frame_text p ++ rest) p rest (record {
      enough = field_length (length p) (p ++ rest);
      allowed = ap is_length size ∙ length_allowed (length p) some most;
      there = rw size (omega (arith, length-append p rest));
      payload = rw size (take_at p rest (length p) refl);
      rest = rw size (drop_at p rest (length p) refl);
    })
