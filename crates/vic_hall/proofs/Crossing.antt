-- What the workers of a hall share and take may cross threads.
use denote.Param.Send.{IsSend, IsSync, sendable}
use Rattle.std.proofs.Crossing.{crosses}
use Rattle.vic_server.proofs.Crossing.{served_send}
use Rattle.vic_turn.proofs.lock.TurnLock.TheSendSync as locks
use Rattle.vic_hall.specs.contracts.recorder.Recorder as Recorder
use Rattle.vic_hall.specs.contracts.hall.Hall as Hall

pub recorder_send : IsSend Recorder.the_row
recorder_send = search (served_send, sendable, crosses) depth 60

pub hall_sync : IsSync Hall.the_row
hall_sync = search (locks.the_sync, recorder_send, sendable, crosses) depth 60
