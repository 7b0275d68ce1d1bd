use Rattle.std.proofs.Common.{◌≡◌, ◌-◌}
use Rattle.vic_wire.specs.Reading.{tagged_list_at}
use Rattle.vic_frames.proofs.Loop.{with_front}
use Rattle.vic_frames.proofs.fields.take_tagged_list.Given as goal

abbrev pub invariant-loop : goal.invariant-loop
invariant-loop l = with_front l.items (tagged_list_at (l.count - l.counter) l.cut) ≡ tagged_list_at l.count l.fn.cut
