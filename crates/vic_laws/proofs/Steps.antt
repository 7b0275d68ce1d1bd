-- What a step of a client does: one of five kinds, with all that the checks showed.
use Rattle.std.specs.Prelude.{◌≡◌, ℕ, ◌+◌, ◌<◌, ◌≤◌, ◌^◌, ◌⊎◌, Bool, true, not, ◌&&◌, ◌||◌, List, [], ◌∷◌, ◌++◌, length, Some, None}
use Rattle.std.specs.List.{AllByRecursion}
use Rattle.vic_dict.specs.declared.op.Op.{Op}
use Rattle.vic_dict.specs.declared.op.Entry.{Entry}
use Rattle.vic_dict.specs.Lists.{IsIn, AreBytes}
use Rattle.vic_dict.specs.Dictionary.{Fits, AreBytesIn, IsKey}
use Rattle.vic_rules.specs.declared.object.Phase.{Phase}
use Rattle.vic_rules.specs.declared.object.Phase.TheVariants as phase
use Rattle.vic_wire.specs.declared.message.Seal.{Seal}
use Rattle.vic_wire.specs.declared.message.Tagged.{Tagged}
use Rattle.vic_wire.specs.declared.message.ToClient.{ToClient}
use Rattle.vic_wire.specs.declared.message.ToClient.TheVariants as say
use Rattle.vic_wire.specs.Texts.{invoke_text}
use Rattle.vic_wire.specs.Hashes.{Group, tag_of}
use Rattle.vic_wire.specs.Messages.{HasSpelling, IsEntry, IsSeal}
use Rattle.vic_wire.specs.Parts.{Part, read_part, part_root, reaches}
use Rattle.vic_rules.specs.declared.state.Own.{Own}
use Rattle.vic_rules.specs.declared.state.Awaiting.TheVariants as awaits
use Rattle.vic_rules.specs.declared.trace.Input.{Input}
use Rattle.vic_rules.specs.declared.trace.Input.TheVariants as input
use Rattle.vic_rules.specs.Client.{Standing, Move, Invokes, decision, is_done, is_write, new_root, move_on_outcome, move_to_seal, move_on_entries, has_form, has_members, has_tags, is_not_older, is_sealed, keeps_own, is_proved, has_turn, entries_of, seal_of, path_with_entries, newest_first, seal_text_on, has_content, move_to_call}
use Rattle.vic_rules.specs.History.{completion}
use Rattle.vic_rules.specs.Trust.{answer_unless_halted, checked_texts, text_sent, parts_in}

-- all nine checks passed, and the answer has a spelling
pub record Passes (g : Group) (me : ℕ) (s : Standing) (m : ToClient) : Type 0 where
  pub form : has_form s m ≡ true
  pub members : has_members g me s m ≡ true
  pub tags : has_tags g m ≡ true
  pub goes : is_not_older s (seal_of m) ≡ true
  pub sealing : is_sealed g (path_with_entries s (entries_of m)) (seal_of m) ≡ true
  pub own : keeps_own s (seal_of m) ≡ true
  pub proof : is_proved s m ≡ true
  pub turn : has_turn s m ≡ true
  pub content : has_content me s m ≡ true
  pub spelled : HasSpelling m

-- the entry is another member's
abbrev pub IsOther : ℕ → ℕ → Entry → Type 0
IsOther count me e = (e.client ≤ count) × (e.client ≡ me → ⊥)

abbrev pub call_of : ℕ → ℕ → Op → Entry
call_of me seq o = record { client = me; seq = seq; op = o }

-- the own call stands above a position
abbrev pub StandsAbove : ℕ → Own → Type 0
StandsAbove position o = position < o.position

-- what the checks show of the seal of an answer on the path that the client then has
pub record Sealing (g : Group) (s : Standing) (p : List Entry) (seal : Seal) : Type 0 where
  pub spelled : IsSeal seal
  pub goes : s.sealed ≤ seal.position
  pub within : seal.position ≤ length p
  pub own : AllByRecursion (StandsAbove seal.position) s.own
  pub tag : (seal.position ≡ 0) ⊎ (seal.tag.bytes ≡ tag_of g.key (seal_text_on g p seal.position seal.root.bytes))

-- what the checks show of the new entries, the newest first, of which the texts were checked
pub record Arrived (texts : List (List ℕ)) (news : List Entry) : Type 0 where
  pub spelled : AllByRecursion IsEntry news
  pub checked : (e : Entry) → IsIn news e → IsIn texts (invoke_text e)

-- a store whose content was sent can call its put
abbrev pub PhaseFits : ℕ → Phase → Type 0
PhaseFits calls (phase.Keeping k h len) = ((IsKey k × AreBytes k) × ((length h.bytes ≡ 32) × AreBytes h.bytes)) × (calls + 1 < 2 ^ 32)
PhaseFits calls phase.Closed = Unit {0}
PhaseFits calls phase.Calling = Unit {0}
PhaseFits calls (phase.Fetching h len) = Unit {0}

-- nothing joins the path, nothing is sealed, and nothing is called or completed
pub record Quiet (g : Group) (me : ℕ) (s : Standing) (i : Input) (v : Move) : Type 0 where
  pub path : v.next.path ≡ s.path
  pub sealed : v.next.sealed ≡ s.sealed
  pub root : v.next.root ≡ s.root
  pub own : v.next.own ≡ s.own
  pub calls : v.next.calls ≡ s.calls
  -- a client that halted stays so, and one that goes on awaits no Reply
  pub stays : (k : ℕ) → s.halted ≡ Some k → v.next.halted ≡ Some k
  pub rests : (n : ℕ) (o : Op) (load : Bool) → v.next.halted ≡ None → v.next.awaiting ≡ awaits.Reply n o load → ⊥
  pub calls_nothing : (n : ℕ) (o : Op) → v.sends ≡ Some (Invokes n o) → ⊥
  pub opens : PhaseFits s.calls s.phase → PhaseFits s.calls v.next.phase
  pub sends_nothing : text_sent g me v.next v.sends ≡ []
  pub completes_nothing : (client : ℕ) (p : List Entry) → completion client p v.returns ≡ []
  pub checks_nothing : (p : List Entry) → checked_texts g p (answer_unless_halted v.next i) ≡ []
  pub seals_nothing : (m : ToClient) → answer_unless_halted v.next i ≡ Some m → (seal_of m ≡ None) × (entries_of m ≡ [])
  pub shows_nothing : parts_in (answer_unless_halted v.next i) ≡ []

-- the client called an operation: of its own, or of a call on objects, which may have been told that its content is kept
pub record Called (g : Group) (me : ℕ) (s : Standing) (i : Input) (v : Move) : Type 0 where
  pub op : Op
  pub load : Bool
  pub turned : Phase
  pub alive : s.halted ≡ None
  pub few : PhaseFits s.calls s.phase → s.calls + 1 < 2 ^ 32
  pub fits : PhaseFits s.calls s.phase → Fits op × AreBytesIn op
  pub opens : (calls : ℕ) → PhaseFits calls turned
  pub takes : (m : ToClient) → answer_unless_halted v.next i ≡ Some m → m ≡ say.Kept
  pub moved : v ≡ move_to_call s turned op load

-- the client took the Reply to its call
pub record Replied (g : Group) (me : ℕ) (s : Standing) (i : Input) (v : Move) : Type 0 where
  pub payload : List ℕ
  pub seal : Seal
  pub entries : List Tagged
  pub bytes : List ℕ
  pub seq : ℕ
  pub op : Op
  pub load : Bool
  pub others : List Entry
  pub part : Part
  pub asked : i ≡ input.Payload payload
  pub alive : s.halted ≡ None
  pub takes : answer_unless_halted v.next i ≡ Some (say.Reply seal entries bytes)
  pub passes : Passes g me s (say.Reply seal entries bytes)
  pub awaited : s.awaiting ≡ awaits.Reply seq op load
  pub news : newest_first entries ≡ call_of me seq op ∷ others
  pub from_others : AllByRecursion (IsOther g.count me) others
  pub arrived : Arrived (checked_texts g v.next.path (answer_unless_halted v.next i)) (call_of me seq op ∷ others)
  pub are_bytes : AreBytes bytes
  pub is_part : read_part bytes ≡ Some part
  pub root_is : part_root part ≡ seal.root.bytes
  pub reached : reaches part op ≡ true
  pub sealing : Sealing g s (call_of me seq op ∷ (others ++ s.path)) seal
  pub below : seal.position < length (call_of me seq op ∷ (others ++ s.path))
  pub few : length (call_of me seq op ∷ (others ++ s.path)) ≤ 1048576
  pub near : length (call_of me seq op ∷ (others ++ s.path)) ≤ seal.position + 1024
  pub moved : v ≡ move_on_outcome s (call_of me seq op ∷ (others ++ s.path)) seal.position seal.root.bytes
      (s.own ++ record { position = length (call_of me seq op ∷ (others ++ s.path)); op = op; done = is_done (decision me s (others ++ s.path) seal.position part op) } ∷ [])
      (decision me s (others ++ s.path) seal.position part op)

-- the client took an Update, and sealed its first own unsealed call
pub record Updated (g : Group) (me : ℕ) (s : Standing) (i : Input) (v : Move) : Type 0 where
  pub payload : List ℕ
  pub seal : Seal
  pub bytes : List ℕ
  pub part : Part
  pub first : Own
  pub rest : List Own
  pub asked : i ≡ input.Payload payload
  pub alive : s.halted ≡ None
  pub takes : answer_unless_halted v.next i ≡ Some (say.Update seal bytes)
  pub passes : Passes g me s (say.Update seal bytes)
  pub awaited : s.awaiting ≡ awaits.Turn
  pub are_bytes : AreBytes bytes
  pub is_part : read_part bytes ≡ Some part
  pub root_is : part_root part ≡ seal.root.bytes
  pub sealing : Sealing g s s.path seal
  pub own_is : s.own ≡ first ∷ rest
  pub reached : (not (first.done && is_write first.op) || reaches part first.op) ≡ true
  pub next_is : first.position ≡ seal.position + 1
  pub few : length s.path ≤ 1048576
  pub moved : v ≡ move_to_seal s (seal.position + 1) (new_root first part seal.root.bytes) rest

-- the client took the entries that it asked for
pub record Listed (g : Group) (me : ℕ) (s : Standing) (i : Input) (v : Move) : Type 0 where
  pub payload : List ℕ
  pub seal : Seal
  pub entries : List Tagged
  pub others : List Entry
  pub asked : i ≡ input.Payload payload
  pub alive : s.halted ≡ None
  pub takes : answer_unless_halted v.next i ≡ Some (say.Entries seal entries)
  pub passes : Passes g me s (say.Entries seal entries)
  pub awaited : s.awaiting ≡ awaits.Entries
  pub news : newest_first entries ≡ others
  pub from_others : AllByRecursion (IsOther g.count me) others
  pub arrived : Arrived (checked_texts g v.next.path (answer_unless_halted v.next i)) others
  pub sealing : Sealing g s (others ++ s.path) seal
  pub few : length (others ++ s.path) ≤ 1048576
  pub near : length (others ++ s.path) ≤ seal.position + 1024
  pub moved : v ≡ move_on_entries s (others ++ s.path) seal.position seal.root.bytes

-- the kinds of a step
pub data Kind (g : Group) (me : ℕ) (s : Standing) (i : Input) (v : Move) : Type 0 where
  is_quiet : Quiet g me s i v → Kind g me s i v
  is_called : Called g me s i v → Kind g me s i v
  is_replied : Replied g me s i v → Kind g me s i v
  is_updated : Updated g me s i v → Kind g me s i v
  is_listed : Listed g me s i v → Kind g me s i v
