-- Each message has one spelling, and a payload spells at most one message.
use Rattle.std.specs.Prelude.{◌≡◌, ℕ, List, Some, None, ◌↔◌}
use Rattle.std.specs.List.{AllByRecursion}
use Rattle.vic_dict.specs.Lists.{AreBytes}
use Rattle.vic_wire.specs.declared.message.Seal.{Seal}
use Rattle.vic_wire.specs.declared.message.Tagged.{Tagged}
use Rattle.vic_wire.specs.declared.message.ToServer.{ToServer}
use Rattle.vic_wire.specs.declared.message.ToServer.TheVariants as ask
use Rattle.vic_wire.specs.declared.message.ToClient.{ToClient}
use Rattle.vic_wire.specs.declared.message.ToClient.TheVariants as say
use Rattle.vic_wire.specs.Messages.{request_text, answer_text, HasRequestSpelling, HasSpelling}
use Rattle.vic_wire.specs.Reading.{read_request, read_answer}
use Rattle.vic_wire.specs.Trees.{Empty, Leaf, Inner, Stub}
use Rattle.vic_wire.specs.Parts.{Part, IsPart, part_text, read_part}

-- ---- the digests, parts and contents of a message are bytes

abbrev pub HasBytes : Seal → Type 0
HasBytes s = AreBytes s.root.bytes × AreBytes s.tag.bytes

abbrev pub HaveByteTags : List Tagged → Type 0
HaveByteTags ts = AllByRecursion (λ t. AreBytes t.tag.bytes) ts

abbrev pub HoldsBytes : ToClient → Type 0
HoldsBytes say.Hi = Unit {0}
HoldsBytes (say.Reply seal entries part) = HasBytes seal × (HaveByteTags entries × AreBytes part)
HoldsBytes say.Wait = Unit {0}
HoldsBytes (say.Update seal part) = HasBytes seal × AreBytes part
HoldsBytes (say.Entries seal entries) = HasBytes seal × HaveByteTags entries
HoldsBytes (say.Refused reason) = Unit {0}
HoldsBytes say.Kept = Unit {0}
HoldsBytes (say.Content content) = AreBytes content
HoldsBytes say.Gone = Unit {0}
HoldsBytes say.Absent = Unit {0}

abbrev pub RequestHoldsBytes : ToServer → Type 0
RequestHoldsBytes (ask.Hello mode client) = Unit {0}
RequestHoldsBytes (ask.Invoke known seq op tag) = AreBytes tag.bytes
RequestHoldsBytes (ask.Commit position done tag) = AreBytes tag.bytes
RequestHoldsBytes ask.Poll = Unit {0}
RequestHoldsBytes (ask.Seal position root tag) = AreBytes root.bytes × AreBytes tag.bytes
RequestHoldsBytes (ask.Sync known) = Unit {0}
RequestHoldsBytes (ask.Keep content) = AreBytes content
RequestHoldsBytes (ask.Fetch hash) = AreBytes hash.bytes
RequestHoldsBytes ask.Bye = Unit {0}

-- ---- the laws

-- the answer that is read of a payload is the one that the payload spells; none is read where none is spelled
pub record AnswersAreSpelled : Type 0 where
  pub found : (bytes : List ℕ) (m : ToClient) → AreBytes bytes → read_answer bytes ≡ Some m → HasSpelling m × (bytes ≡ answer_text m)
  pub again : (m : ToClient) → HasSpelling m → read_answer (answer_text m) ≡ Some m
  pub none : (bytes : List ℕ) → AreBytes bytes → (read_answer bytes ≡ None) ↔ ((m : ToClient) → HasSpelling m → bytes ≡ answer_text m → ⊥)
  pub once : (m n : ToClient) → HasSpelling m → HasSpelling n → answer_text m ≡ answer_text n → m ≡ n
  pub in_bytes : (m : ToClient) → HasSpelling m → AreBytes (answer_text m) ↔ HoldsBytes m

-- the same of requests
pub record RequestsAreSpelled : Type 0 where
  pub found : (bytes : List ℕ) (m : ToServer) → AreBytes bytes → read_request bytes ≡ Some m → HasRequestSpelling m × (bytes ≡ request_text m)
  pub again : (m : ToServer) → HasRequestSpelling m → read_request (request_text m) ≡ Some m
  pub none : (bytes : List ℕ) → AreBytes bytes → (read_request bytes ≡ None) ↔ ((m : ToServer) → HasRequestSpelling m → bytes ≡ request_text m → ⊥)
  pub once : (m n : ToServer) → HasRequestSpelling m → HasRequestSpelling n → request_text m ≡ request_text n → m ≡ n
  pub in_bytes : (m : ToServer) → HasRequestSpelling m → AreBytes (request_text m) ↔ RequestHoldsBytes m

-- ---- parts

-- the keys, values and roots of a part are bytes
abbrev pub PartHoldsBytes : Part → Type 0
PartHoldsBytes Empty = Unit {0}
PartHoldsBytes (Leaf k v) = AreBytes k × AreBytes v
PartHoldsBytes (Inner i l r) = PartHoldsBytes l × PartHoldsBytes r
PartHoldsBytes (Stub root) = AreBytes root

-- the same of parts
pub record PartsAreSpelled : Type 0 where
  pub found : (bytes : List ℕ) (part : Part) → AreBytes bytes → read_part bytes ≡ Some part → IsPart part × (bytes ≡ part_text part)
  pub again : (part : Part) → IsPart part → read_part (part_text part) ≡ Some part
  pub once : (part other : Part) → IsPart part → IsPart other → part_text part ≡ part_text other → part ≡ other
  pub in_bytes : (part : Part) → IsPart part → AreBytes (part_text part) ↔ PartHoldsBytes part
