-- What becomes of the calls that the server ordered. The log has the newest entry first.
use Rattle.std.specs.Prelude.{List, [], ◌∷◌, map, if◌then◌else◌}
use Rattle.vic_dict.specs.declared.op.Op.{Op}
use Rattle.vic_dict.specs.declared.op.Outcome.{Outcome}
use Rattle.vic_dict.specs.declared.op.Entry.{Entry}
use Rattle.vic_dict.specs.Dictionary.{Dictionary, nothing, after}
use Rattle.vic_rules.specs.Client.{in_the_way, decided_outcome, is_done}
use Rattle.vic_order.specs.Order.{Ordered}

-- the entries of a log
abbrev pub entries : List Ordered → List Entry
entries log = map (λ o. o.entry) log

-- what becomes of an entry, given the log below it and the dictionary that this leaves
abbrev pub fate_on : Ordered → List Ordered → Dictionary → Outcome
fate_on o below d = decided_outcome (in_the_way o.entry.client o.entry.op o.sealed_then (entries below)) d o.entry.op

abbrev pub done_after : Dictionary → Op → Outcome → Dictionary
done_after d o x = if is_done x then after d o else d

-- the dictionary after the done entries of a log
unfoldable pub dictionary_by : List Ordered → Dictionary
dictionary_by [] = nothing
dictionary_by (o ∷ below) = done_after (dictionary_by below) o.entry.op (fate_on o below (dictionary_by below))

-- aborted by the least conflicting entry of another client above the sealed count that it was ordered at; else done
unfoldable pub fate : Ordered → List Ordered → Outcome
fate o below = fate_on o below (dictionary_by below)
