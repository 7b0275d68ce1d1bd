-- The one spelling of each field, and the texts that are hashed or tagged. Numbers are big-endian.
use Rattle.std.specs.Prelude.{ℕ, Bool, List, [], ◌∷◌, ◌++◌, length, if◌then◌else◌}
use Rattle.std.specs.Int.{w16, w32, to_be_bytes}
use Rattle.vic_dict.specs.declared.op.Op.{Op}
use Rattle.vic_dict.specs.declared.op.Op.TheVariants as op
use Rattle.vic_dict.specs.declared.op.Entry.{Entry}
use Rattle.vic_dict.specs.declared.op.Mode.{Mode}
use Rattle.vic_dict.specs.declared.op.Mode.TheVariants as mode

-- a length byte, and the bytes: a key, a value or a prefix
abbrev pub short_text : List ℕ → List ℕ
short_text bytes = length bytes ∷ bytes

abbrev pub op_text : Op → List ℕ
op_text (op.Put k v) = 1 ∷ short_text k ++ short_text v
op_text (op.Get k) = 2 ∷ short_text k
op_text (op.Del k) = 3 ∷ short_text k
op_text (op.List p) = 4 ∷ short_text p

abbrev pub entry_text : Entry → List ℕ
entry_text e = e.client ∷ to_be_bytes w32 e.seq ++ op_text e.op

abbrev pub mode_byte : Mode → ℕ
mode_byte mode.Plain = 0
mode_byte mode.Objects = 1

-- 0 for done, 1 for aborted
abbrev pub status_byte : Bool → ℕ
status_byte done = if done then 0 else 1

-- ---- texts that are hashed; a digest is its 32 bytes

abbrev pub chain_text : List ℕ → Entry → List ℕ
chain_text before e = 1 ∷ before ++ entry_text e

abbrev pub empty_text : List ℕ
empty_text = 2 ∷ []

abbrev pub leaf_text : List ℕ → List ℕ → List ℕ
leaf_text k v = 3 ∷ short_text k ++ v

abbrev pub inner_text : ℕ → List ℕ → List ℕ → List ℕ
inner_text index left right = 4 ∷ to_be_bytes w16 index ++ left ++ right

abbrev pub genesis_text : Mode → ℕ → List ℕ
genesis_text kind count = 5 ∷ 1 ∷ mode_byte kind ∷ count ∷ []

abbrev pub content_text : List ℕ → List ℕ
content_text content = 6 ∷ content

-- ---- texts that are tagged

abbrev pub invoke_text : Entry → List ℕ
invoke_text e = 17 ∷ entry_text e

abbrev pub commit_text : ℕ → List ℕ → Bool → List ℕ
commit_text position chained done = 18 ∷ to_be_bytes w32 position ++ chained ++ status_byte done ∷ []

abbrev pub seal_text : ℕ → List ℕ → List ℕ → List ℕ
seal_text position chained root = 19 ∷ to_be_bytes w32 position ++ chained ++ root
