-- The texts of the nodes of an empty tree.
use Rattle.std.specs.Prelude.{◌≡◌, [], ◌∷◌}
use Rattle.std.specs.FinMap as map
use Rattle.std.proofs.Common.{ap, sym, ◌∙◌}
use Rattle.vic_dict.specs.Dictionary.{Dictionary}
use Rattle.vic_wire.specs.Texts.{empty_text}
use Rattle.vic_wire.specs.Trees.{tree_of, node_texts}
use Rattle.vic_tree.proofs.Stands.{tree_of-empty}

pub empty_nodes : (d : Dictionary) → d ≡ map.empty → empty_text ∷ [] ≡ node_texts (tree_of d)
unfolding node_texts
empty_nodes d e = sym (ap node_texts (ap tree_of e ∙ tree_of-empty))
