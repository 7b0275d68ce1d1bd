-- Proper dictionaries stay proper.
use Rattle.std.proofs.Common.{◌≤◌, inl, inr, ℕ, ◌<◌, List, length, sym, subst}
use Rattle.std.specs.FinMap as map
use Rattle.vic_dict.specs.declared.op.Op.{Op}
use Rattle.vic_dict.specs.declared.op.Op.TheVariants as op
use Rattle.vic_dict.specs.Dictionary.{Dictionary, nothing, after, Fits, AreBytesIn, IsKey, HasByteKeys, IsProper}
use Rattle.vic_dict.specs.Lists.{AreBytes}
use Rattle.vic_roots.specs.Roots.{KeepsProper}
use Rattle.vic_roots.proofs.Keys.{none_in-nothing, found_after_insert, found_after_remove}

-- the empty dictionary is proper
pub proper-nothing : IsProper nothing
proper-nothing k v e = absurd (none_in-nothing k v e)

-- the words of `IsProper` at one pair
abbrev pub IsProperPair : List ℕ → List ℕ → Type 0
IsProperPair k v = (IsKey k × AreBytes k) × ((length v ≤ 64) × AreBytes v)

-- a dictionary stays proper where a proper pair is put
pub proper-insert : (d : Dictionary) (k v : List ℕ) → IsProper d → IsProperPair k v → IsProper (map.insert d k v)
proper-insert d k v h new q w e =
    elim (found_after_insert d k v q w e) [
      | inl is ↦ subst (λ x. IsProperPair x w) (sym is.0) (subst (λ y. IsProperPair k y) is.1 new)
      | inr old ↦ h q w old
    ]

-- a dictionary stays proper where a key is removed
pub proper-remove : (d : Dictionary) (k : List ℕ) → IsProper d → IsProper (map.remove d k)
proper-remove d k h q w e = h q w (found_after_remove d k q w e)

-- an operation within the limits keeps a dictionary proper
pub proper-after : (d : Dictionary) (o : Op) → IsProper d → Fits o → AreBytesIn o → IsProper (after d o)
proper-after d (op.Put k v) h fits bytes = proper-insert d k v h ((fits.0, bytes.0), (fits.1, bytes.1))
proper-after d (op.Get k) h fits bytes = h
proper-after d (op.Del k) h fits bytes = proper-remove d k h
proper-after d (op.List p) h fits bytes = h

-- the keys of a proper dictionary are byte texts of 1 to 255 bytes
pub byte_keys-proper : (d : Dictionary) → IsProper d → HasByteKeys d
byte_keys-proper d h k v e = (h k v e).0

pub proper_is_kept : KeepsProper
proper_is_kept = record { empty = proper-nothing; after_each = proper-after; keys = byte_keys-proper }
