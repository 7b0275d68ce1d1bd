-- The invariant by which no client halts: what each client keeps, and what is under way for it, by the server's log.
use Rattle.std.specs.Prelude.{◌≡◌, ℕ, ◌+◌, ◌<◌, ◌≤◌, ◌⊎◌, Bool, true, List, ◌∷◌, ◌++◌, length, Some, None, nat_eq}
use Rattle.std.specs.List.{AllByRecursion}
use Rattle.vic_dict.specs.declared.op.Op.{Op}
use Rattle.vic_dict.specs.Lists.{IsIn}
use Rattle.vic_dict.specs.Dictionary.{Fits, AreBytesIn}
use Rattle.vic_wire.specs.declared.message.ToClient.{ToClient}
use Rattle.vic_wire.specs.declared.message.ToClient.TheVariants as say
use Rattle.vic_wire.specs.Texts.{invoke_text}
use Rattle.vic_wire.specs.Hashes.{Group, tag_of}
use Rattle.vic_wire.specs.Messages.{HasSpelling}
use Rattle.vic_wire.specs.Parts.{part_for}
use Rattle.vic_rules.specs.declared.state.Awaiting.TheVariants as awaits
use Rattle.vic_rules.specs.Client.{Standing, Invokes, Commits, Polls, Seals, Syncs, Fetches, is_done}
use Rattle.vic_rules.specs.Client.{Keeps as Contains}
use Rattle.vic_wire.specs.declared.message.Digest32.{Digest32}
use Rattle.vic_dict.specs.declared.op.Mode.TheVariants as mode
use Rattle.vic_rules.specs.declared.object.Phase.TheVariants as phase
use Rattle.vic_rules.specs.Objects.{content_hash, is_content_of}
use Rattle.vic_laws.proofs.Steps.{PhaseFits}
use Rattle.vic_honest.proofs.Referred.{IsKept, Refers}
use Rattle.vic_order.specs.declared.Stage.TheVariants as stage
use Rattle.vic_order.specs.Order.{Ordered, Server, size, sealed_count, commit_at, member, update_part}
use Rattle.vic_order.specs.Fates.{entries, fate, dictionary_by}
use Rattle.vic_honest.proofs.Words.{told}
use Rattle.vic_honest.proofs.Standing.{Doing, Rests, Sends, Gets, up_by, down_by}
use Rattle.vic_honest.proofs.Owns.{AllOn, NoneOf, root_on, seal_on, seals_on, owns, IsAbove}

-- ---- the server

-- each entry was made by a member, and ordered within the limits
pub record IsOrdered (g : Group) (o : Ordered) (below : List Ordered) : Type 0 where
  pub member : o.entry.client ≤ g.count
  pub tag : o.tag.bytes ≡ tag_of g.key (invoke_text o.entry)
  pub near : length (o ∷ below) ≤ o.sealed_then + 1024

-- it was ordered when no more was sealed
abbrev pub IsPast : ℕ → Ordered → Type 0
IsPast count o = o.sealed_then ≤ count

-- the log is sealed up to its base
pub record ServerKnows (g : Group) (s : Server) : Type 0 where
  pub over : List Ordered
  pub base : List Ordered
  pub is : s.log ≡ over ++ base
  pub members : length s.members ≡ g.count
  pub ordered : AllOn (IsOrdered g) s.log
  pub near : size s ≤ length base + 1024
  pub seals : s.seals ≡ seals_on g base
  pub dictionary : s.dictionary ≡ dictionary_by base
  pub fates : (newer : List Ordered) (o : Ordered) (below : List Ordered) (done : Bool) → s.log ≡ newer ++ o ∷ below → commit_at s (length (o ∷ below)) ≡ Some done → done ≡ is_done (fate o below)
  pub unmade : (n : ℕ) → size s < n → commit_at s n ≡ None
  pub past : AllByRecursion (IsPast (sealed_count s)) s.log
  pub kind : s.mode ≡ g.mode
  -- in a group with objects each put is of a reference of a content that is kept
  pub referred : s.mode ≡ mode.Objects → AllByRecursion (λ o. Refers s.contents o.entry.op) s.log

-- ---- a client

-- what it keeps is that of its path
pub record Keeps (me : ℕ) (s : Server) (t : Standing) (seen newer : List Ordered) : Type 0 where
  pub over : List Ordered
  pub base : List Ordered
  pub log : s.log ≡ newer ++ seen
  pub path : t.path ≡ entries seen
  pub going : t.halted ≡ None
  pub cut : seen ≡ over ++ base
  pub sealed : t.sealed ≡ length base
  pub root : t.root ≡ root_on base
  pub own : t.own ≡ owns me (length base) seen
  pub unsealed : AllByRecursion (IsAbove (sealed_count s)) t.own
  pub last : (member s me).last ≤ t.calls
  -- a content that it is to fetch is kept
  pub fetching : (h : Digest32) (len : ℕ) → t.phase ≡ phase.Fetching h len → (s.mode ≡ mode.Objects) × IsKept s.contents h.bytes len

-- its calls are all on its path, and the server awaits no commit of it
pub record Calm (me : ℕ) (s : Server) (t : Standing) (newer : List Ordered) : Type 0 where
  pub ready : (member s me).stage ≡ stage.Ready
  pub sealed : t.sealed ≤ sealed_count s
  pub others : NoneOf me newer

-- a call on objects is one of a group with objects
pub record OnObjects (s : Server) (t : Standing) (load : Bool) : Type 0 where
  pub calling : t.phase ≡ phase.Calling → s.mode ≡ mode.Objects
  pub loads : load ≡ true → s.mode ≡ mode.Objects

pub record InvokeGoes (me : ℕ) (s : Server) (t : Standing) (newer : List Ordered) (n : ℕ) (o : Op) : Type 0 where
  pub load : Bool
  pub objects : OnObjects s t load
  pub refers : s.mode ≡ mode.Objects → Refers s.contents o
  pub awaiting : t.awaiting ≡ awaits.Reply n o load
  pub number : n ≡ t.calls
  pub new : (member s me).last < n
  pub fits : Fits o × AreBytesIn o
  pub calm : Calm me s t newer

-- the last entry of its path is its own, with its fate
pub record CommitGoes (me : ℕ) (s : Server) (t : Standing) (seen newer : List Ordered) (done : Bool) : Type 0 where
  pub o : Ordered
  pub below : List Ordered
  pub awaiting : t.awaiting ≡ awaits.Turn
  pub top : seen ≡ o ∷ below
  pub mine : nat_eq o.entry.client me ≡ true
  pub status : done ≡ is_done (fate o below)
  pub sealed : t.sealed ≤ sealed_count s
  pub others : NoneOf me newer
  pub stage : (member s me).stage ≡ stage.Open (length seen)

-- the first entry that isn't sealed is its own and committed, and it has sealed it
pub record SealGoes (me : ℕ) (s : Server) (t : Standing) (seen newer : List Ordered) : Type 0 where
  pub above : List Ordered
  pub o : Ordered
  pub below : List Ordered
  pub done : Bool
  pub awaiting : t.awaiting ≡ awaits.Turn
  pub split : seen ≡ above ++ o ∷ below
  pub mine : nat_eq o.entry.client me ≡ true
  pub count : sealed_count s ≡ length below
  pub position : t.sealed ≡ length (o ∷ below)
  pub committed : commit_at s (length (o ∷ below)) ≡ Some done
  pub ready : (member s me).stage ≡ stage.Ready
  pub others : NoneOf me newer

-- the Reply to its call o, which was ordered on between ++ seen, sealed up to the base
pub record ReplyComes (g : Group) (me : ℕ) (s : Server) (t : Standing) (seen newer : List Ordered) (m : ToClient) : Type 0 where
  pub later : List Ordered
  pub o : Ordered
  pub between : List Ordered
  pub over : List Ordered
  pub base : List Ordered
  pub number : ℕ
  pub op : Op
  pub load : Bool
  pub objects : OnObjects s t load
  pub split : newer ≡ later ++ o ∷ between
  pub cut : between ++ seen ≡ over ++ base
  pub awaiting : t.awaiting ≡ awaits.Reply number op load
  pub entry : o.entry ≡ record { client = me; seq = number; op = op }
  pub later_others : NoneOf me later
  pub others : NoneOf me between
  pub sealed_then : o.sealed_then ≡ length base
  pub from : t.sealed ≤ length base
  pub upto : length base ≤ sealed_count s
  pub higher : sealed_count s < length (o ∷ (between ++ seen))
  pub stage : (member s me).stage ≡ stage.Open (length (o ∷ (between ++ seen)))
  pub message : m ≡ say.Reply (seal_on g base) (told (o ∷ between)) (part_for (dictionary_by base) o.entry.op)

-- the turn: only this client can seal next, so the sealed count stays while the Update is under way
pub record UpdateComes (g : Group) (me : ℕ) (s : Server) (t : Standing) (seen newer : List Ordered) (m : ToClient) : Type 0 where
  pub above : List Ordered
  pub o : Ordered
  pub below : List Ordered
  pub done : Bool
  pub awaiting : t.awaiting ≡ awaits.Turn
  pub split : seen ≡ above ++ o ∷ below
  pub mine : nat_eq o.entry.client me ≡ true
  pub count : sealed_count s ≡ length below
  pub committed : commit_at s (length (o ∷ below)) ≡ Some done
  pub calm : Calm me s t newer
  pub message : m ≡ say.Update (seal_on g below) (update_part (dictionary_by below) o.entry.op done)

-- the answer to a Sync
pub record EntriesCome (g : Group) (me : ℕ) (s : Server) (t : Standing) (seen newer : List Ordered) (m : ToClient) : Type 0 where
  pub later : List Ordered
  pub between : List Ordered
  pub over : List Ordered
  pub base : List Ordered
  pub split : newer ≡ later ++ between
  pub cut : between ++ seen ≡ over ++ base
  pub awaiting : t.awaiting ≡ awaits.Entries
  pub from : t.sealed ≤ length base
  pub upto : length base ≤ sealed_count s
  pub near : length (between ++ seen) ≤ length base + 1024
  pub calm : Calm me s t newer
  pub message : m ≡ say.Entries (seal_on g base) (told between)

-- the server was full or the client too far behind
pub record RefusalComes (me : ℕ) (s : Server) (t : Standing) (newer : List Ordered) (r : ℕ) : Type 0 where
  pub number : ℕ
  pub op : Op
  pub load : Bool
  pub awaiting : t.awaiting ≡ awaits.Reply number op load
  pub limit : (0 < r) × (r ≤ 4)
  pub calm : Calm me s t newer

-- a content of a new hash had no room
pub record KeepRefused (me : ℕ) (s : Server) (t : Standing) (newer : List Ordered) (r : ℕ) : Type 0 where
  pub awaiting : t.awaiting ≡ awaits.Kept
  pub full : r ≡ 7
  pub calm : Calm me s t newer

-- the content of a store is sent
pub record KeepGoes (me : ℕ) (s : Server) (t : Standing) (newer : List Ordered) (c : List ℕ) : Type 0 where
  pub key : List ℕ
  pub awaiting : t.awaiting ≡ awaits.Kept
  pub at : t.phase ≡ phase.Keeping key (record { bytes = content_hash c }) (length c)
  pub holds : PhaseFits t.calls (phase.Keeping key (record { bytes = content_hash c }) (length c))
  pub small : length c ≤ 8388608
  pub objects : s.mode ≡ mode.Objects
  pub calm : Calm me s t newer

pub record KeptComes (me : ℕ) (s : Server) (t : Standing) (newer : List Ordered) : Type 0 where
  pub key : List ℕ
  pub h : Digest32
  pub len : ℕ
  pub awaiting : t.awaiting ≡ awaits.Kept
  pub at : t.phase ≡ phase.Keeping key h len
  pub holds : PhaseFits t.calls (phase.Keeping key h len)
  pub kept : IsKept s.contents h.bytes len
  pub small : len ≤ 8388608
  pub objects : s.mode ≡ mode.Objects
  pub calm : Calm me s t newer

-- a content that is kept is asked for
pub record FetchGoes (me : ℕ) (s : Server) (t : Standing) (newer : List Ordered) (h : List ℕ) : Type 0 where
  pub digest : Digest32
  pub len : ℕ
  pub is : h ≡ digest.bytes
  pub awaiting : t.awaiting ≡ awaits.Content digest len
  pub kept : IsKept s.contents h len
  pub long : length h ≡ 32
  pub objects : s.mode ≡ mode.Objects
  pub calm : Calm me s t newer

pub record ContentComes (me : ℕ) (s : Server) (t : Standing) (newer : List Ordered) (c : List ℕ) : Type 0 where
  pub digest : Digest32
  pub len : ℕ
  pub awaiting : t.awaiting ≡ awaits.Content digest len
  pub is : is_content_of digest.bytes len c ≡ true
  pub kept : IsIn s.contents c
  pub objects : s.mode ≡ mode.Objects
  pub calm : Calm me s t newer

abbrev pub Does : Group → ℕ → Server → Standing → List Ordered → List Ordered → Doing → Type 0
Does g me s t seen newer Rests = (t.awaiting ≡ awaits.Nothing) × Calm me s t newer
Does g me s t seen newer (Sends (Invokes n o)) = InvokeGoes me s t newer n o
Does g me s t seen newer (Sends (Commits done)) = CommitGoes me s t seen newer done
Does g me s t seen newer (Sends Polls) = (t.awaiting ≡ awaits.Turn) × Calm me s t newer
Does g me s t seen newer (Sends Seals) = SealGoes me s t seen newer
Does g me s t seen newer (Sends Syncs) = (t.awaiting ≡ awaits.Entries) × Calm me s t newer
Does g me s t seen newer (Sends (Contains c)) = KeepGoes me s t newer c
Does g me s t seen newer (Sends (Fetches h)) = FetchGoes me s t newer h
Does g me s t seen newer (Gets say.Hi) = ⊥
Does g me s t seen newer (Gets (say.Reply seal es part)) = ReplyComes g me s t seen newer (say.Reply seal es part)
Does g me s t seen newer (Gets say.Wait) = (t.awaiting ≡ awaits.Turn) × Calm me s t newer
Does g me s t seen newer (Gets (say.Update seal part)) = UpdateComes g me s t seen newer (say.Update seal part)
Does g me s t seen newer (Gets (say.Entries seal es)) = EntriesCome g me s t seen newer (say.Entries seal es)
Does g me s t seen newer (Gets (say.Refused r)) = RefusalComes me s t newer r ⊎ KeepRefused me s t newer r
Does g me s t seen newer (Gets say.Kept) = KeptComes me s t newer
Does g me s t seen newer (Gets (say.Content c)) = ContentComes me s t newer c
Does g me s t seen newer (Gets say.Gone) = ⊥
Does g me s t seen newer (Gets say.Absent) = ⊥

abbrev pub IsSpelled : Doing → Type 0
IsSpelled Rests = Unit {0}
IsSpelled (Sends sending) = Unit {0}
IsSpelled (Gets m) = HasSpelling m

pub record ClientKnows (g : Group) (me : ℕ) (s : Server) (t : Standing) (up down : List (List ℕ)) : Type 0 where
  pub seen : List Ordered
  pub newer : List Ordered
  pub keeps : Keeps me s t seen newer
  pub doing : Doing
  pub up_is : up ≡ up_by g me t doing
  pub down_is : down ≡ down_by doing
  pub spelled : IsSpelled doing
  pub does : Does g me s t seen newer doing
