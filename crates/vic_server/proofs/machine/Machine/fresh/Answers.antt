use Rattle.vic_server.proofs.Sound.{sound_fresh}
use Rattle.vic_server.proofs.machine.Machine.fresh.Goals as goal

pub invariant_of-result : goal.invariant_of-result
invariant_of-result c =
    rw (c.new.ensures.items, c.new-2.ensures.items, c.new-3.ensures.items, c.new-4.ensures.items, c.new-5.ensures, c.in_ok-members.ensures)
    (sound_fresh c.args.count (record { last = 0; stage = c.args.stage }) c.requires.count c.requires.stage)
