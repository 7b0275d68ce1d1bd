-- The parts of answers are short.
use Rattle.std.specs.Prelude.{ℕ, ◌≤◌, length}
use Rattle.vic_wire.specs.declared.message.ToClient.{ToClient}
use Rattle.vic_wire.specs.declared.message.ToClient.TheVariants as say

-- the part of an answer has at most so many bytes: a form, leaves and inner nodes of pairs of the greatest weight, and 36 bytes for each
-- of 2,296 levels, an inner node and a stub beside it
abbrev pub HasShortPart : ToClient → Type 0
HasShortPart say.Hi = Unit {0}
HasShortPart (say.Reply seal entries part) = length part ≤ 8471265
HasShortPart say.Wait = Unit {0}
HasShortPart (say.Update seal part) = length part ≤ 8471265
HasShortPart (say.Entries seal entries) = Unit {0}
HasShortPart (say.Refused reason) = Unit {0}
HasShortPart say.Kept = Unit {0}
HasShortPart (say.Content content) = Unit {0}
HasShortPart say.Gone = Unit {0}
HasShortPart say.Absent = Unit {0}
