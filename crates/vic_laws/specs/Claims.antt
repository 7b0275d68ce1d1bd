-- The laws of histories, one by one. Each holds of every lawful history, whatever the payloads hold.
use Rattle.std.specs.Prelude.{◌≡◌, ◌≢◌, ℕ, ◌≤◌, ◌⊎◌, Bool, List, [], ◌∷◌, ◌++◌, length, Some}
use Rattle.vic_dict.specs.declared.op.Entry.{Entry}
use Rattle.vic_dict.specs.Lists.{IsIn, front}
use Rattle.vic_dict.specs.Dictionary.{IsProper}
use Rattle.vic_wire.specs.declared.message.Seal.{Seal}
use Rattle.vic_wire.specs.declared.message.Tagged.{Tagged}
use Rattle.vic_wire.specs.declared.message.ToClient.{ToClient}
use Rattle.vic_wire.specs.Texts.{invoke_text}
use Rattle.vic_wire.specs.Hashes.{Group, chain, tag_of}
use Rattle.vic_wire.specs.Trees.{dictionary_root}
use Rattle.vic_wire.specs.Parts.{Part, IsPart, read_part}
use Rattle.vic_spellings.specs.Spellings.{PartHoldsBytes}
use Rattle.vic_rules.specs.declared.trace.TraceStep.{TraceStep}
use Rattle.vic_rules.specs.Client.{Seals, entries_of, seal_of, seal_text_on, commit_text_on, is_done}
use Rattle.vic_rules.specs.History.{IsLawful, path, move_of, Completion, completions}
use Rattle.vic_rules.specs.Views.{confirmation, confirmed_calls, left_by, view_of, IsLegal}
use Rattle.vic_rules.specs.Trust.{IsForged, Collides, answer_taken, parts_taken, texts_made}

-- ---- tags

-- each entry of an answer came with the tag of its text, and so did its seal, on the path that its client then has
pub record TagsOf (g : Group) (after : List Entry) (m : ToClient) : Type 0 where
  pub entries : (t : Tagged) → IsIn (entries_of m) t → t.tag.bytes ≡ tag_of g.key (invoke_text t.entry)
  pub seal : (s : Seal) → seal_of m ≡ Some s → s.position ≢ 0 → s.tag.bytes ≡ tag_of g.key (seal_text_on g after s.position s.root.bytes)

-- each answer that a client took without halting holds no other entry or seal
abbrev pub TagsHold : Type 0
TagsHold = (g : Group) (h : List TraceStep) → IsLawful g h → (later : List TraceStep) (x : TraceStep) (past : List TraceStep) → h ≡ later ++ x ∷ past
    → (m : ToClient) → answer_taken g past x ≡ Some m → TagsOf g (path g x.client (x ∷ past)) m

-- ---- paths

-- two fronts of clients' paths that have one hash are equal, or two different listed texts have one hash
abbrev pub HashesTellPathsIn : Group → List TraceStep → Type 0
HashesTellPathsIn g h = (i j m n : ℕ)
    → chain g (front m (path g i h)) ≡ chain g (front n (path g j h))
    → (front m (path g i h) ≡ front n (path g j h)) ⊎ Collides g h

abbrev pub HashesTellPaths : Type 0
HashesTellPaths = (g : Group) (h : List TraceStep) → IsLawful g h → HashesTellPathsIn g h

-- ---- seals

-- each position of a path is confirmed
abbrev pub AllConfirmed : List Completion → List Entry → Type 0
AllConfirmed cs [] = Unit {0}
AllConfirmed cs (e ∷ p) = ((c : Completion) × (confirmation cs (e ∷ p) ≡ Some c)) × AllConfirmed cs p

-- a seal at a position of a path: it stands within the path, everything up to it is confirmed, and the root is that of the dictionary which that leaves
pub record SealHolds (cs : List Completion) (p : List Entry) (position : ℕ) (root : List ℕ) : Type 0 where
  pub within : position ≤ length p
  pub all : AllConfirmed cs (front position p)
  pub is_root : root ≡ dictionary_root (left_by (confirmed_calls cs (front position p)))

-- the client took a seal at a step, or made one
pub data SealAt (g : Group) (past : List TraceStep) (x : TraceStep) (position : ℕ) (root : List ℕ) : Type 0 where
  of_answer : (m : ToClient) (s : Seal) → answer_taken g past x ≡ Some m → seal_of m ≡ Some s → position ≡ s.position → root ≡ s.root.bytes → SealAt g past x position root
  of_its_own : (move_of g past x).sends ≡ Some Seals → position ≡ (move_of g past x).next.sealed → root ≡ (move_of g past x).next.root → SealAt g past x position root

-- unless a tag was forged or two texts collide, each seal that a client took or made holds of the path that it then has
abbrev pub SealsHoldIn : Group → List TraceStep → Type 0
SealsHoldIn g h = (IsForged g h → ⊥) → (Collides g h → ⊥)
    → (later : List TraceStep) (x : TraceStep) (past : List TraceStep) → h ≡ later ++ x ∷ past → (position : ℕ) (root : List ℕ) → SealAt g past x position root
    → SealHolds (completions g h) (path g x.client (x ∷ past)) position root

abbrev pub SealsHold : Type 0
SealsHold = (g : Group) (h : List TraceStep) → IsLawful g h → SealsHoldIn g h

-- ---- views

-- unless a tag was forged or two texts collide, each answer in a view is that of a dictionary after the calls before it
abbrev pub ViewsAreLegal : Type 0
ViewsAreLegal = (g : Group) (h : List TraceStep) → IsLawful g h → (IsForged g h → ⊥) → (Collides g h → ⊥) → (me : ℕ) → IsLegal (view_of g me h)

-- ---- dictionaries

-- what the confirmed calls of each front of a client's path leave is proper
abbrev pub DictionariesAreProper : Type 0
DictionariesAreProper = (g : Group) (h : List TraceStep) → IsLawful g h → (me n : ℕ) → IsProper (left_by (confirmed_calls (completions g h) (front n (path g me h))))

-- what a view leaves is proper
abbrev pub ViewsLeaveProper : Type 0
ViewsLeaveProper = (g : Group) (h : List TraceStep) → IsLawful g h → (me : ℕ) → IsProper (left_by (view_of g me h))

-- the part has a reading, and is proper
pub record IsProperPart (bytes : List ℕ) : Type 0 where
  pub part : Part
  pub is : read_part bytes ≡ Some part
  pub proper : IsPart part
  pub holds : PartHoldsBytes part

-- each part that a client took without halting is proper
abbrev pub PartsAreProper : Type 0
PartsAreProper = (g : Group) (h : List TraceStep) → IsLawful g h → (bytes : List ℕ) → IsIn (parts_taken g h) bytes → IsProperPart bytes

-- ---- commits

-- the owner of the last entry of a path completed that call on this very path, as done or else as aborted
pub record CommittedAs (cs : List Completion) (p : List Entry) (done : Bool) : Type 0 where
  pub by : Completion
  pub found : confirmation cs p ≡ Some by
  pub ends : is_done by.outcome ≡ done

-- unless two texts collide, a commit text of a front of a client's path that some client made tells how that front's last call was completed
abbrev pub CommitsTellIn : Group → List TraceStep → Type 0
CommitsTellIn g h = (Collides g h → ⊥) → (me n : ℕ) (done : Bool) → IsIn (texts_made g h) (commit_text_on g (front n (path g me h)) done)
    → CommittedAs (completions g h) (front n (path g me h)) done

abbrev pub CommitsTell : Type 0
CommitsTell = (g : Group) (h : List TraceStep) → IsLawful g h → CommitsTellIn g h
