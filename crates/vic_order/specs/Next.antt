-- The operation that is sealed next.
use Rattle.std.specs.Prelude.{ℕ, ◌+◌, Bool, Option, Some, None, if◌then◌else◌}
use Rattle.vic_dict.specs.declared.op.Op.{Op}
use Rattle.vic_rules.specs.Client.{is_write}
use Rattle.vic_order.specs.Order.{Ordered, Server, sealed_count, ordered_at, commit_at}

-- an entry's operation, where it is a put or a del that was committed done
abbrev pub write_in : Option Ordered → Option Bool → Option Op
write_in (Some o) (Some done) = if done then (if is_write o.entry.op then Some o.entry.op else None) else None
write_in o status = None

-- that of the entry at a position
abbrev pub write_at : Server → ℕ → Option Op
write_at s n = write_in (ordered_at s n) (commit_at s n)

-- that of the first entry that isn't sealed
abbrev pub next_op : Server → Option Op
next_op s = write_at s (sealed_count s + 1)
