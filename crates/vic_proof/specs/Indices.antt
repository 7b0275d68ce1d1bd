-- The bytes of an index.
use Rattle.std.specs.Prelude.{ℕ, List}
use Rattle.std.specs.Int.{w16, to_be_bytes}

abbrev pub index_bytes : ℕ → List ℕ
index_bytes i = to_be_bytes w16 i
