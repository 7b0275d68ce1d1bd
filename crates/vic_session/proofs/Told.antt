-- The frame of one payload.
use Rattle.std.proofs.Common.{◌≡◌, ℕ, List, [], ◌∷◌, append-nil}
use Rattle.vic_conn.specs.Frames.{frame_text}
use Rattle.vic_session.specs.Wires.{frames}

pub frames_one : (p : List ℕ) → frames (p ∷ []) ≡ frame_text p
frames_one p = append-nil (frame_text p)
