-- The part of an answer: a tree of which subtrees may be cut away. Its grammar, its one spelling, and what it shows.
use Rattle.std.specs.Prelude.{◌≡◌, ℕ, zero, suc, ◌+◌, ◌-◌, ◌<◌, ◌≤◌, Bool, ◌&&◌, List, [], ◌∷◌, ◌++◌, length, Option, Some, None, Result, Ok, Err, nat_lt, nat_le, ◌==◌, if◌then◌else◌}
use Rattle.std.specs.Int.{w16, to_be_bytes}
use Rattle.vic_dict.specs.declared.limits.TheConstants.{LONGEST_KEY, LONGEST_VALUE}
use Rattle.vic_dict.specs.declared.op.Op.{Op}
use Rattle.vic_dict.specs.Dictionary.{Dictionary, IsKey}
use Rattle.vic_wire.specs.Texts.{short_text}
use Rattle.vic_wire.specs.Reading.{Read, ◌>>=◌, byte_at, bytes_at, number_at, digest_at, if_allowed}
use Rattle.vic_wire.specs.Reading as reading
use Rattle.vic_wire.specs.Trees.{Tree, Empty, Leaf, Inner, Stub, tree_of, root_of, node_texts}
use Rattle.vic_wire.specs.Walks.{tree_after}
use Rattle.vic_wire.specs.Walks as walks
use Rattle.vic_wire.specs.Cuts.{cut_for, cut_none}

-- the piece of the sealed dictionary that an answer carries
abbrev pub Part : Type 0
Part = Tree

-- ---- the grammar

-- a node within a part, its indices at least this
abbrev pub IsNodeFrom : ℕ → Tree → Type 0
IsNodeFrom low Empty = ⊥
IsNodeFrom low (Leaf k v) = IsKey k × (length v ≤ LONGEST_VALUE)
IsNodeFrom low (Inner i l r) = (low ≤ i) × (i < 2296) × IsNodeFrom (i + 1) l × IsNodeFrom (i + 1) r
IsNodeFrom low (Stub root) = length root ≡ 32

-- a whole part; only it may be Empty
abbrev pub IsPart : Part → Type 0
IsPart Empty = Unit {0}
IsPart (Leaf k v) = IsNodeFrom 0 (Leaf k v)
IsPart (Inner i l r) = IsNodeFrom 0 (Inner i l r)
IsPart (Stub root) = IsNodeFrom 0 (Stub root)

-- ---- the one spelling: a form byte 1, and the nodes, each before its two sides

abbrev pub node_field : Tree → List ℕ
node_field Empty = 0 ∷ []
node_field (Leaf k v) = 1 ∷ short_text k ++ short_text v
node_field (Inner i l r) = 2 ∷ to_be_bytes w16 i ++ node_field l ++ node_field r
node_field (Stub root) = 3 ∷ root

abbrev pub part_text : Part → List ℕ
part_text part = 1 ∷ node_field part

-- the part of a dictionary that an operation needs, and the part that only shows its root
abbrev pub part_for : Dictionary → Op → List ℕ
part_for d o = part_text (cut_for (tree_of d) o)

abbrev pub bare_part : Dictionary → List ℕ
bare_part d = part_text (cut_none (tree_of d))

-- ---- reading it from the left, with the first fault and its place, counted from 0

pub data PartFault : Type 0 where
  BadTag : (place : ℕ) → PartFault
  BadLength : (place : ℕ) → PartFault
  IndexNotRising : (place : ℕ) → PartFault
  Short : (place : ℕ) → PartFault
  Trailing : (place : ℕ) → PartFault

-- a value and the bytes after it, or the first fault
abbrev pub PartRead : Type 0 → Type 0
PartRead A = Result (A × List ℕ) PartFault

infixl 10 ◌then◌
abbrev pub ◌then◌ : {A B : Type 0} → Result A PartFault → (A → Result B PartFault) → Result B PartFault
(Ok x) then f = f x
(Err e) then f = Err e

-- the place of the first of the bytes that are left, of so many in all
abbrev pub place : ℕ → List ℕ → ℕ
place all left = all - length left

-- what the next field gives: its fault has the place of its first byte, and is of this kind where its value isn't allowed
abbrev pub field : {A : Type 0} → ℕ → List ℕ → (ℕ → PartFault) → Read A → PartRead A
field all left bad (Ok x) = Ok x
field all left bad (Err reading.Short) = Err (Short (place all left))
field all left bad (Err reading.Value) = Err (bad (place all left))

-- a length byte within the bounds, and that many bytes
abbrev pub length_at : ℕ → ℕ → List ℕ → Read ℕ
length_at low high left = byte_at left >>= (λ n. if_allowed (nat_le low n.0 && nat_le n.0 high) n)

unfoldable pub text_at : ℕ → ℕ → ℕ → List ℕ → PartRead (List ℕ)
text_at all low high left = field all left BadLength (length_at low high left) then (λ n. field all n.1 BadLength (bytes_at n.0 n.1))

unfoldable pub leaf_at : ℕ → List ℕ → PartRead Tree
leaf_at all left = text_at all 1 LONGEST_KEY left then (λ k. text_at all 0 LONGEST_VALUE k.1 then (λ v. Ok (Leaf k.0 v.0, v.1)))

-- an index from the least one that is allowed to 2,295
abbrev pub index_at : ℕ → List ℕ → Read ℕ
index_at low left = number_at w16 left >>= (λ i. if_allowed (nat_le low i.0 && nat_lt i.0 2296) i)

unfoldable pub stub_at : ℕ → List ℕ → PartRead Tree
stub_at all left = field all left BadTag (digest_at left) then (λ root. Ok (Stub root.0.bytes, root.1))

-- a node whose indices are at least this. It reads so many levels; 2,297 are enough
unfoldable pub node_at : ℕ → ℕ → ℕ → List ℕ → PartRead Tree
node_at all zero low left = Err (BadTag (place all left))
node_at all (suc levels) low left = field all left BadTag (byte_at left) then (λ tag.
    if tag.0 == 1 then leaf_at all tag.1
    else if tag.0 == 2 then field all tag.1 IndexNotRising (index_at low tag.1) then (λ i.
    node_at all levels (i.0 + 1) i.1 then (λ l. node_at all levels (i.0 + 1) l.1 then (λ r. Ok (Inner i.0 l.0 r.0, r.1))))
    else if tag.0 == 3 then stub_at all tag.1
    else Err (BadTag (place all left)))

-- Empty stands only as the whole tree
unfoldable pub tree_at : ℕ → List ℕ → PartRead Tree
tree_at all left = field all left BadTag (byte_at left) then (λ tag. if tag.0 == 0 then Ok (Empty, tag.1) else node_at all 2297 0 left)

abbrev pub at_end : ℕ → Tree × List ℕ → Result Part PartFault
at_end all x = if length x.1 == 0 then Ok x.0 else Err (Trailing (place all x.1))

-- the form byte
abbrev pub form_at : List ℕ → Read ℕ
form_at left = byte_at left >>= (λ form. if_allowed (form.0 == 1) form)

-- the part that the bytes spell, or the first fault
unfoldable pub part_at : List ℕ → Result Part PartFault
part_at bytes = field (length bytes) bytes BadTag (form_at bytes) then (λ form. tree_at (length bytes) form.1 then at_end (length bytes))

abbrev pub if_read : Result Part PartFault → Option Part
if_read (Ok part) = Some part
if_read (Err fault) = None

-- the part that the bytes spell, if they spell one
unfoldable pub read_part : List ℕ → Option Part
read_part bytes = if_read (part_at bytes)

-- ---- what it shows

-- its root, whether it shows what the operation walks over, the dictionary there, and the root after the operation
abbrev pub part_root : Part → List ℕ
part_root part = root_of part

abbrev pub reaches : Part → Op → Bool
reaches part o = walks.reaches part o

abbrev pub walked : Part → Op → Dictionary
walked part o = walks.walked part o

abbrev pub root_after : Part → Op → List ℕ
root_after part o = root_of (tree_after part o)

-- the texts of its nodes, stubs left out
abbrev pub part_texts : Part → List (List ℕ)
part_texts part = node_texts part
