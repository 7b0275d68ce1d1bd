-- The part that a message carries.
use Rattle.std.specs.Prelude.{ℕ, ◌+◌, ◌≤◌, length, Option, Some, None}
use Rattle.vic_dict.specs.declared.limits.TheConstants.{MOST_ENTRIES}
use Rattle.vic_wire.specs.declared.message.ToClient.{ToClient}
use Rattle.vic_wire.specs.declared.message.ToClient.TheVariants as say
use Rattle.vic_wire.specs.Parts.{Part, IsPart, read_part}
use Rattle.vic_prune.specs.declared.pruned.Pruned.{Pruned}
use Rattle.vic_prune.specs.Parts.{part}
use Rattle.vic_rules.specs.Client.{Standing}

-- what the bytes of its part spell, if it carries bytes that spell one
abbrev pub part_of : ToClient → Option Part
part_of (say.Reply seal entries bytes) = read_part bytes
part_of (say.Update seal bytes) = read_part bytes
part_of m = None

abbrev pub part_in : Option ToClient → Option Part
part_in None = None
part_in (Some m) = part_of m

-- what a part in memory stands for, if there is one
abbrev pub part_seen : Option Pruned → Option Part
part_seen None = None
part_seen (Some p) = Some (part p)

abbrev pub IsGrammar : Pruned → Type 0
IsGrammar p = IsPart (part p)

-- the seal that the answer carries stands at most at the new length, for a path of this length
abbrev pub IsWithin : ℕ → ToClient → Type 0
IsWithin n (say.Reply seal entries part) = seal.position ≤ n + length entries
IsWithin n (say.Update seal part) = seal.position ≤ n
IsWithin n (say.Entries seal entries) = seal.position ≤ n + length entries
IsWithin n m = Unit {0}

abbrev pub path_length : Standing → ℕ
path_length s = length s.path

-- the seal that the answer carries stands at least at this position
abbrev pub IsAbove : ℕ → ToClient → Type 0
IsAbove n (say.Reply seal entries part) = n ≤ seal.position
IsAbove n (say.Update seal part) = n ≤ seal.position
IsAbove n (say.Entries seal entries) = n ≤ seal.position
IsAbove n m = Unit {0}

-- there is a position above the seal of an Update
abbrev pub IsLow : ToClient → Type 0
IsLow (say.Update seal part) = seal.position ≤ MOST_ENTRIES
IsLow m = Unit {0}
