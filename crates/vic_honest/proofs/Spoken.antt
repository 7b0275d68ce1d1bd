-- What the server says is bytes.
use Rattle.std.proofs.Common.{ℕ, true, false, List, [], ◌∷◌, ◌++◌, length}
use Rattle.std.specs.Prelude.{if◌then◌else◌, nat_eq}
use Rattle.std.specs.List.{AllByRecursion, flat_map}
use Rattle.std.specs.Int.{w16, w32, to_be_bytes}
use Rattle.vic_dict.specs.Lists.{AreBytes}
use Rattle.vic_dict.proofs.ByteLists.{AreBytes-nil, AreBytes-append}
use Rattle.vic_wire.specs.declared.message.Seal.{Seal}
use Rattle.vic_wire.specs.declared.message.Tagged.{Tagged}
use Rattle.vic_wire.specs.Texts.{entry_text}
use Rattle.vic_wire.specs.Messages.{IsEntry, seal_field, tagged_field, entries_field}
use Rattle.vic_wire.specs.Hashes.{tag_of, masked_key, hash}
use Rattle.vic_spellings.proofs.Bytes.{bytes-w16, bytes-w32, bytes-sha256}
use Rattle.vic_spellings.proofs.Holding.{bytes-entry}

-- ---- fields

pub tag_bytes : (key text : List ℕ) → AreBytes (tag_of key text)
unfolding tag_of
tag_bytes key text = bytes-sha256 (masked_key 0x5c key ++ hash (masked_key 0x36 key ++ text))

-- a tagged entry is bytes where its operation and its tag are
pub record TaggedBytes (t : Tagged) : Type 0 where
  pub entry : IsEntry t.entry
  pub tag : AreBytes t.tag.bytes

all_tagged_bytes : (ts : List Tagged) → AllByRecursion TaggedBytes ts → AreBytes (flat_map tagged_field ts)
all_tagged_bytes [] h = AreBytes-nil
all_tagged_bytes (t ∷ ts) h =
    AreBytes-append (tagged_field t) (flat_map tagged_field ts) (AreBytes-append (entry_text t.entry) t.tag.bytes (bytes-entry t.entry h.0.entry) h.0.tag) (all_tagged_bytes ts h.1)

pub entries_bytes : (ts : List Tagged) → AllByRecursion TaggedBytes ts → AreBytes (entries_field ts)
entries_bytes ts h = AreBytes-append (to_be_bytes w16 (length ts)) (flat_map tagged_field ts) (bytes-w16 (length ts)) (all_tagged_bytes ts h)

pub seal_bytes : (x : Seal) → AreBytes x.root.bytes → AreBytes x.tag.bytes → AreBytes (seal_field x)
seal_bytes x root tag =
    elim (nat_eq x.position 0) as (λ b. AreBytes (if b then to_be_bytes w32 0 else to_be_bytes w32 x.position ++ x.root.bytes ++ x.tag.bytes)) [
      | true ↦ bytes-w32 0
      | false ↦ AreBytes-append (to_be_bytes w32 x.position ++ x.root.bytes) x.tag.bytes (AreBytes-append (to_be_bytes w32 x.position) x.root.bytes (bytes-w32 x.position) root) tag
    ]
