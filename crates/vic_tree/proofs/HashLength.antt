-- Each text is that of one node.
use Rattle.std.proofs.Common.{◌≡◌, ℕ, List, length}
use Rattle.sha2.proofs.Facts256.{length-sha256}
use Rattle.vic_wire.specs.Hashes.{hash}

pub length-hash : (text : List ℕ) → length (hash text) ≡ 32
length-hash text = length-sha256 text
