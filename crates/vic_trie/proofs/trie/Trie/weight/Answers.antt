use Rattle.std.proofs.Common.{◌∙◌}
use Rattle.vic_trie.specs.Tries.{top_tree}
use Rattle.vic_trie.proofs.Kept.{weight_is}
use Rattle.vic_trie.proofs.trie.Trie.weight.Goals as goal

pub returns : goal.returns
returns c = c.self.invariant.weighed ∙ weight_is (top_tree c.self.inside.top) c.args.self.now c.self.invariant.tree c.self.view_is
