-- Lists of bytes: joined ones, spelled numbers, digests.
use Rattle.std.proofs.Common.{ℕ, zero, suc, ◌<◌, List, [], arith}
use Rattle.std.specs.Prelude.{slice_index}
use Rattle.std.specs.Int.{w16, w32, byte_at, bytes_high_first, to_be_bytes}
use Rattle.sha2.specs.Sha256.{digest_bytes, final_hash, initial_hash_256, sha256}
use Rattle.vic_dict.specs.Lists.{AreBytes}
use Rattle.vic_dict.proofs.ByteLists.{AreBytes-nil, AreBytes-cons, AreBytes-append}

-- a number's spelling is bytes, whatever the number
byte-below : (i n : ℕ) → byte_at i n < 256
byte-below zero n = omega arith
byte-below (suc i) n = omega arith

bytes-high : (k n : ℕ) → AreBytes (bytes_high_first k n)
bytes-high zero n = AreBytes-nil
bytes-high (suc k) n = AreBytes-cons (byte_at k n) (bytes_high_first k n) (byte-below k n) (bytes-high k n)

pub bytes-w16 : (n : ℕ) → AreBytes (to_be_bytes w16 n)
bytes-w16 n = bytes-high 2 n

pub bytes-w32 : (n : ℕ) → AreBytes (to_be_bytes w32 n)
bytes-w32 n = bytes-high 4 n

bytes-digest : (h : List ℕ) (n : ℕ) → AreBytes (digest_bytes h n)
unfolding digest_bytes
bytes-digest h zero = AreBytes-nil
bytes-digest h (suc n) = AreBytes-append (digest_bytes h n) (to_be_bytes w32 (slice_index h n)) (bytes-digest h n) (bytes-w32 (slice_index h n))

pub bytes-sha256 : (text : List ℕ) → AreBytes (sha256 text)
unfolding sha256
bytes-sha256 text = bytes-digest (final_hash initial_hash_256 text) 8
