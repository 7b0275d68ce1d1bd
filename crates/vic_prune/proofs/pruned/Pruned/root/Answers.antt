use Rattle.std.proofs.Common.{sym, ◌∙◌}
use Rattle.vic_tree.proofs.Binding.{part_is_bound}
use Rattle.vic_tree.proofs.Alike.{byte_entries, short_entries}
use Rattle.vic_prune.specs.Parts.{part}
use Rattle.vic_tree.proofs.Grammar.{part_is_spelled}
use Rattle.vic_prune.proofs.pruned.Pruned.root.Goals as goal

pub returns-clause-binds : goal.returns-clause-binds
returns-clause-binds c = λ d keys e. part_is_bound (part c.args.self.now) d (part_is_spelled (part c.args.self.now) c.requires) (byte_entries d keys) (short_entries d keys) (sym c.node_root.ensures ∙ e)
