-- What is known of an answer that passed the checks, by what the client keeps.
use Rattle.std.specs.Prelude.{◌≡◌, ℕ, ◌+◌, ◌<◌, ◌≤◌, Bool, true, List, length, Option, IsTrue}
use Rattle.vic_dict.specs.declared.limits.TheConstants.{MOST_ENTRIES}
use Rattle.vic_wire.specs.declared.message.ToClient.{ToClient}
use Rattle.vic_wire.specs.declared.message.ToClient.TheVariants as say
use Rattle.vic_rules.specs.declared.state.Own.{Own}
use Rattle.vic_rules.specs.declared.state.Awaiting.{Awaiting}
use Rattle.vic_rules.specs.declared.state.Awaiting.TheVariants as awaits
use Rattle.vic_dict.specs.Dictionary.{Fits}
use Rattle.vic_wire.specs.Parts.{Part}
use Rattle.vic_rules.specs.Client.{is_next, has_open_op, has_own_op}
use Rattle.vic_checks.specs.declared.state.State.{State}

-- a Reply is awaited
abbrev pub AwaitsReply : Awaiting → Type 0
AwaitsReply (awaits.Reply n o load) = Unit {0}
AwaitsReply awaits.Nothing = ⊥
AwaitsReply awaits.Turn = ⊥
AwaitsReply awaits.Entries = ⊥
AwaitsReply awaits.Kept = ⊥
AwaitsReply (awaits.Content h n) = ⊥

-- the operation of a call that is awaited is within the limits
abbrev pub AwaitsFit : Awaiting → Type 0
AwaitsFit (awaits.Reply n o load) = Fits o
AwaitsFit awaits.Nothing = Unit {0}
AwaitsFit awaits.Turn = Unit {0}
AwaitsFit awaits.Entries = Unit {0}
AwaitsFit awaits.Kept = Unit {0}
AwaitsFit (awaits.Content h n) = Unit {0}

-- a Reply is awaited where one came
abbrev pub RepliesTo : Awaiting → ToClient → Type 0
RepliesTo a (say.Reply seal entries part) = AwaitsReply a
RepliesTo a m = Unit {0}

-- its kind is awaited, it has its part, and its lengths are within the limits, for a path of this length
abbrev pub IsFormed : ℕ → Awaiting → Bool → ToClient → Type 0
IsFormed n a is_part (say.Reply seal entries part) = (AwaitsReply a × IsTrue is_part) × ((seal.position < n + length entries) × (n + length entries ≤ MOST_ENTRIES))
IsFormed n a is_part (say.Update seal part) = IsTrue is_part
IsFormed n a is_part (say.Entries seal entries) = (seal.position ≤ n + length entries) × (n + length entries ≤ MOST_ENTRIES)
IsFormed n a is_part m = Unit {0}

-- the part shows what is walked over: in a Reply by the open call, in an Update by the call that is sealed next
abbrev pub IsShown : Option Part → Awaiting → List Own → ToClient → Type 0
IsShown found a own (say.Reply seal entries part) = has_open_op found a ≡ true
IsShown found a own (say.Update seal part) = has_own_op found own ≡ true
IsShown found a own m = Unit {0}

abbrev pub IsShownTo : Option Part → State → ToClient → Type 0
IsShownTo found x m = IsShown found x.awaiting x.own m

-- the first own call stands just above the seal of an Update
abbrev pub HasTurn : List Own → ToClient → Type 0
HasTurn own (say.Update seal part) = is_next (seal.position + 1) own ≡ true
HasTurn own m = Unit {0}

abbrev pub IsTurn : State → ToClient → Type 0
IsTurn x m = HasTurn x.own m
