use Rattle.std.proofs.Common.{◌≡◌, true, false, refl, sym, ap, ◌∙◌}
use Rattle.std.specs.FinMap as map
use Rattle.vic_tree.proofs.Stands.{entries_of}
use Rattle.vic_trie.specs.Nodes.{tree}
use Rattle.vic_trie.proofs.Kept.{tree_is, opened, opened_none, opened_some, empty_is}
use Rattle.vic_trie.proofs.trie.Trie.top.Goals as goal

pub returns-in-None-clause-empty : goal.returns-in-None-clause-empty
returns-in-None-clause-empty c = (λ _. sym (opened_none c.self.view_is c.in-None.is) ∙ empty_is, λ _. refl)

cross : true ≡ false → ⊥
cross e = cc

pub returns-in-Some-clause-empty : goal.returns-in-Some-clause-empty
returns-in-Some-clause-empty c =
    let o = opened c.self.invariant c.self.view_is c.in-Some.is in
    (λ h. absurd (cross h), λ e. absurd (opened_some c.in-Some.node c.args.self.now o e))

pub returns-in-Some-clause-tree : goal.returns-in-Some-clause-tree
returns-in-Some-clause-tree c =
    let o = opened c.self.invariant c.self.view_is c.in-Some.is in
    (o.sound, tree_is (tree c.in-Some.node) c.args.self.now o.grown o.view)

pub returns-in-Some-clause-grown : goal.returns-in-Some-clause-grown
returns-in-Some-clause-grown c = (opened c.self.invariant c.self.view_is c.in-Some.is).grown

pub returns-in-Some-clause-pairs : goal.returns-in-Some-clause-pairs
returns-in-Some-clause-pairs c =
    let o = opened c.self.invariant c.self.view_is c.in-Some.is in
    sym (entries_of (tree c.in-Some.node) o.grown) ∙ ap map.entries o.view
