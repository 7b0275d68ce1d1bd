-- A trie may cross threads. Its nodes hold nodes, and what holds of them all stands in the module that is made with their type.
use denote.Param.Send.{IsSend, sendable}
use Rattle.std.proofs.Crossing.{crosses}
use Rattle.vic_trie.proofs.node.Node.TheLaws.TheKnot.{send-Node}
use Rattle.vic_trie.specs.contracts.trie.Trie as Trie

pub trie_send : IsSend Trie.the_row
trie_send = search (send-Node, sendable, crosses) depth 20
