use Rattle.vic_trie.proofs.Kept.{empty_is}
use Rattle.vic_trie.proofs.trie.Trie.new.Goals as goal

pub returns : goal.returns
returns c = empty_is
