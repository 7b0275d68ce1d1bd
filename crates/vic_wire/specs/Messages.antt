-- The one spelling of each message.
use Rattle.std.specs.Prelude.{◌≡◌, ℕ, ◌<◌, ◌≤◌, ◌^◌, List, [], ◌∷◌, ◌++◌, length, replicate, ◌==◌, if◌then◌else◌}
use Rattle.std.specs.List.{flat_map, AllByRecursion}
use Rattle.std.specs.Int.{w16, w32, to_be_bytes}
use Rattle.vic_dict.specs.declared.limits.TheConstants.{LONGEST_CONTENT, MOST_CLIENTS, MOST_TOLD}
use Rattle.vic_dict.specs.declared.op.Entry.{Entry}
use Rattle.vic_dict.specs.Dictionary.{Fits, AreBytesIn}
use Rattle.vic_wire.specs.declared.message.Digest32.{Digest32}
use Rattle.vic_wire.specs.declared.message.Seal.{Seal}
use Rattle.vic_wire.specs.declared.message.Tagged.{Tagged}
use Rattle.vic_wire.specs.declared.message.ToServer.{ToServer}
use Rattle.vic_wire.specs.declared.message.ToServer.TheVariants as ask
use Rattle.vic_wire.specs.declared.message.ToClient.{ToClient}
use Rattle.vic_wire.specs.declared.message.ToClient.TheVariants as say
use Rattle.vic_wire.specs.Texts.{op_text, entry_text, mode_byte, status_byte}
use Rattle.vic_wire.specs.Hashes.{empty_root}

-- its position, and where that isn't 0 the root and the tag
abbrev pub seal_field : Seal → List ℕ
seal_field s = if s.position == 0 then to_be_bytes w32 0 else to_be_bytes w32 s.position ++ s.root.bytes ++ s.tag.bytes

abbrev pub tagged_field : Tagged → List ℕ
tagged_field t = entry_text t.entry ++ t.tag.bytes

-- the count in two bytes, and the tagged entries
abbrev pub entries_field : List Tagged → List ℕ
entries_field ts = to_be_bytes w16 (length ts) ++ flat_map tagged_field ts

abbrev pub request_text : ToServer → List ℕ
request_text (ask.Hello mode client) = 0x21 ∷ 1 ∷ mode_byte mode ∷ client ∷ []
request_text (ask.Invoke known seq op tag) = 0x22 ∷ to_be_bytes w32 known ++ to_be_bytes w32 seq ++ op_text op ++ tag.bytes
request_text (ask.Commit position done tag) = 0x23 ∷ to_be_bytes w32 position ++ status_byte done ∷ tag.bytes
request_text ask.Poll = 0x24 ∷ []
request_text (ask.Seal position root tag) = 0x25 ∷ to_be_bytes w32 position ++ root.bytes ++ tag.bytes
request_text (ask.Sync known) = 0x26 ∷ to_be_bytes w32 known
request_text (ask.Keep content) = 0x27 ∷ content
request_text (ask.Fetch hash) = 0x28 ∷ hash.bytes
request_text ask.Bye = 0x29 ∷ []

abbrev pub answer_text : ToClient → List ℕ
answer_text say.Hi = 0x41 ∷ []
answer_text (say.Reply seal entries part) = 0x42 ∷ seal_field seal ++ entries_field entries ++ part
answer_text say.Wait = 0x43 ∷ []
answer_text (say.Update seal part) = 0x44 ∷ seal_field seal ++ part
answer_text (say.Entries seal entries) = 0x45 ∷ seal_field seal ++ entries_field entries
answer_text (say.Refused reason) = 0x46 ∷ reason ∷ []
answer_text say.Kept = 0x47 ∷ []
answer_text (say.Content content) = 0x48 ∷ content
answer_text say.Gone = 0x49 ∷ []
answer_text say.Absent = 0x4a ∷ []

-- ---- which messages have a spelling

pub record IsEntry (e : Entry) : Type 0 where
  pub client : (0 < e.client) × (e.client ≤ MOST_CLIENTS)
  pub seq : (0 < e.seq) × (e.seq < 2 ^ 32)
  pub op : Fits e.op × AreBytesIn e.op

-- at position 0 the root is that of the empty dictionary, and the tag is zeros
pub record IsSeal (s : Seal) : Type 0 where
  pub position : s.position < 2 ^ 32
  pub root : length s.root.bytes ≡ 32
  pub tag : length s.tag.bytes ≡ 32
  pub first : s.position ≡ 0 → (s.root.bytes ≡ empty_root) × (s.tag.bytes ≡ replicate 32 0)

pub record IsTagged (t : Tagged) : Type 0 where
  pub entry : IsEntry t.entry
  pub tag : length t.tag.bytes ≡ 32

-- the fields of a request are within their lengths, and numbers that must not be 0 aren't
abbrev pub IsDigest : Digest32 → Type 0
IsDigest d = length d.bytes ≡ 32

abbrev pub IsNumber : ℕ → Type 0
IsNumber n = (0 < n) × (n < 2 ^ 32)

abbrev pub HasRequestSpelling : ToServer → Type 0
HasRequestSpelling (ask.Hello mode client) = client < 256
HasRequestSpelling (ask.Invoke known seq op tag) = (known < 2 ^ 32) × (IsNumber seq × ((Fits op × AreBytesIn op) × IsDigest tag))
HasRequestSpelling (ask.Commit position done tag) = IsNumber position × IsDigest tag
HasRequestSpelling ask.Poll = Unit {0}
HasRequestSpelling (ask.Seal position root tag) = IsNumber position × (IsDigest root × IsDigest tag)
HasRequestSpelling (ask.Sync known) = known < 2 ^ 32
HasRequestSpelling (ask.Keep content) = length content ≤ LONGEST_CONTENT
HasRequestSpelling (ask.Fetch hash) = IsDigest hash
HasRequestSpelling ask.Bye = Unit {0}

-- the fields of an answer, likewise
abbrev pub HasSpelling : ToClient → Type 0
HasSpelling say.Hi = Unit {0}
HasSpelling (say.Reply seal entries part) = IsSeal seal × ((0 < length entries) × ((length entries ≤ MOST_TOLD) × AllByRecursion IsTagged entries))
HasSpelling say.Wait = Unit {0}
HasSpelling (say.Update seal part) = IsSeal seal
HasSpelling (say.Entries seal entries) = IsSeal seal × ((length entries ≤ MOST_TOLD) × AllByRecursion IsTagged entries)
HasSpelling (say.Refused reason) = (0 < reason) × (reason ≤ 7)
HasSpelling say.Kept = Unit {0}
HasSpelling (say.Content content) = length content ≤ LONGEST_CONTENT
HasSpelling say.Gone = Unit {0}
HasSpelling say.Absent = Unit {0}
