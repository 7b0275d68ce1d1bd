-- A server with its history may cross threads. A machine's trie is given, since a search that goes down through it gives up.
use denote.Param.Send.{IsSend, sendable}
use Rattle.std.proofs.Crossing.{crosses}
use Rattle.vic_trie.proofs.Crossing.{trie_send}
use Rattle.vic_blob.proofs.Blobs.TheSendSync as blobs
use Rattle.vic_change.proofs.Change.TheSendSync as changes
use Rattle.vic_server.proofs.rows.Row.TheSendSync as rows
use Rattle.vic_server.proofs.rows.Commit.TheSendSync as commits
use Rattle.vic_server.proofs.rows.SealRow.TheSendSync as seals
use Rattle.vic_server.proofs.rows.Seat.TheSendSync as seats
use Rattle.vic_server.specs.contracts.machine.Machine as Machine
use Rattle.vic_server.specs.contracts.served.Served as Served

machine_send : IsSend Machine.the_row
machine_send = search (trie_send, blobs.the_send, rows.the_send, commits.the_send, seals.the_send, seats.the_send, sendable, crosses) depth 60

pub served_send : IsSend Served.the_row
served_send = search (machine_send, changes.the_send, sendable, crosses) depth 60
