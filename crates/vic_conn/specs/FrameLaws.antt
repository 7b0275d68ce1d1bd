-- What is shown of frames.
use Rattle.std.specs.Prelude.{◌≡◌, ℕ, ◌<◌, ◌≤◌, ◌⊎◌, List, [], ◌++◌, length, drop}
use Rattle.std.specs.Int.{w32, to_be_bytes}
use Rattle.std.specs.List.{concat}
use Rattle.vic_dict.specs.declared.limits.TheConstants.{LONGEST_FRAME}
use Rattle.vic_dict.specs.Lists.{AreBytes}
use Rattle.vic_conn.specs.Frames.{Waits, Whole, Broken, front_of, frame_text, before, frames_within, frames_of, by_pieces}

-- more bytes behind a whole frame stay behind it, and a broken length stays broken
pub record StaysDecided : Type 0 where
  pub whole : (xs ys p behind : List ℕ) → front_of xs ≡ Whole p behind → front_of (xs ++ ys) ≡ Whole p (behind ++ ys)
  pub broken : (xs ys : List ℕ) (n : ℕ) → front_of xs ≡ Broken n → front_of (xs ++ ys) ≡ Broken n

-- the frames of a stream are the one in front and those behind it, and none where none is whole; a higher bound changes nothing
pub record OneByOne : Type 0 where
  pub whole : (bytes p behind : List ℕ) → front_of bytes ≡ Whole p behind → frames_of bytes ≡ before p (frames_of behind)
  pub waits : (bytes : List ℕ) → front_of bytes ≡ Waits → frames_of bytes ≡ ([], bytes)
  pub broken : (bytes : List ℕ) (n : ℕ) → front_of bytes ≡ Broken n → frames_of bytes ≡ ([], bytes)
  pub bound : (n : ℕ) (bytes : List ℕ) → length bytes ≤ n → frames_within n bytes ≡ frames_of bytes

-- the frames of two pieces are those of the first, and then those of what these leave with the second piece behind it; and those
-- taken piece by piece, of any number of pieces, are those of the pieces joined
pub record AnyPieces : Type 0 where
  pub two : (xs ys : List ℕ) → let first = frames_of xs in let then = frames_of (first.1 ++ ys) in frames_of (xs ++ ys) ≡ (first.0 ++ then.0, then.1)
  pub all : (pieces : List (List ℕ)) → by_pieces [] pieces ≡ frames_of (concat pieces)

-- bytes that end inside the payload of a frame
pub record EndInside (bytes : List ℕ) : Type 0 where
  pub size : ℕ
  pub begun : List ℕ
  pub text : bytes ≡ to_be_bytes w32 size ++ begun
  pub some : 0 < size
  pub most : size ≤ LONGEST_FRAME
  pub short : length begun < size

-- what stands in front: a whole frame is its own bytes, a broken length is no payload's, and a stream waits in a length or in a payload,
-- with fewer bytes than the longest frame has
pub record FrontsAre : Type 0 where
  pub whole : (bytes p behind : List ℕ) → AreBytes bytes → front_of bytes ≡ Whole p behind → bytes ≡ frame_text p ++ behind
  pub some : (bytes p behind : List ℕ) → front_of bytes ≡ Whole p behind → 0 < length p
  pub most : (bytes p behind : List ℕ) → front_of bytes ≡ Whole p behind → length p ≤ LONGEST_FRAME
  pub broken : (bytes : List ℕ) (n : ℕ) → AreBytes bytes → front_of bytes ≡ Broken n → bytes ≡ to_be_bytes w32 n ++ drop 4 bytes
  pub wrong : (bytes : List ℕ) (n : ℕ) → front_of bytes ≡ Broken n → (n ≡ 0) ⊎ (LONGEST_FRAME < n)
  pub waits : (bytes : List ℕ) → AreBytes bytes → front_of bytes ≡ Waits → (length bytes < 4) ⊎ EndInside bytes
  pub short : (bytes : List ℕ) → front_of bytes ≡ Waits → length bytes < 16777220

-- a frame is read back, whatever stands behind it
abbrev pub ReadsBack : Type 0
ReadsBack = (p rest : List ℕ) → 0 < length p → length p ≤ LONGEST_FRAME → front_of (frame_text p ++ rest) ≡ Whole p rest
