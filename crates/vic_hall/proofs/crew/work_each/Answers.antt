use denote.Param.Send.{sendable}
use Rattle.std.proofs.Crossing.{crosses}
use Rattle.vic_turn.proofs.pass.Pass.TheSendSync as passes
use Rattle.vic_hall.proofs.Crossing.{recorder_send, hall_sync}
use Rattle.vic_hall.proofs.crew.work_each.Goals as goal

pub for_each_mut-requires-send-T : goal.for_each_mut-requires-send-T
for_each_mut-requires-send-T g c κs within =
    let link = c.type_bounds.send-L in
    search (passes.the_send, recorder_send, sendable, crosses) depth 60

pub for_each_mut-requires-sync-F : goal.for_each_mut-requires-sync-F
for_each_mut-requires-sync-F g c κs within =
    let gate = c.type_bounds.sync-G in
    let threads = c.type_bounds.sync-R in
    search (hall_sync, sendable, crosses) depth 60
