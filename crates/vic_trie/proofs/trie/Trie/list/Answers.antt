use Rattle.std.proofs.Common.{◌≡◌, true, false, cond, [], ◌++◌, sym, ap, ◌∙◌, arith}
use Rattle.std.specs.Prelude.{nat_eq}
use Rattle.std.specs.List.{starts_with}
use Rattle.vic_wire.specs.Trees.{Empty, Leaf, pairs_of}
use Rattle.vic_wire.specs.Walks.{below, least, leaf_has_prefix}
use Rattle.vic_tree.specs.Shown.{names_below}
use Rattle.vic_trie.specs.Nodes.{tree}
use Rattle.vic_tree.proofs.Names.{keys_of}
use Rattle.vic_trie.proofs.Kept.{names_are, names_nothing, listed, list_long, opened, opened_none}
use Rattle.vic_trie.proofs.trie.Trie.list.Goals as goal

pub returns-then-prefix-gt-LONGEST_KEY : goal.returns-then-prefix-gt-LONGEST_KEY
returns-then-prefix-gt-LONGEST_KEY c =
    let o = opened c.self.invariant c.self.view_is c.in-Some.is in
    c.new-names.ensures ∙ sym (list_long c.in-Some.node c.args.self.now c.args.prefix.now o c.if-prefix-gt-LONGEST_KEY.true)

pub returns-in-None : goal.returns-in-None
returns-in-None c = c.new-names.ensures ∙ sym (names_nothing c.args.self.now c.args.prefix.now (opened_none c.self.view_is c.in-None.is))

pub returns-then-not-has_prefix : goal.returns-then-not-has_prefix
returns-then-not-has_prefix c =
    let o = opened c.self.invariant c.self.view_is c.in-Some.is in
    let p = c.args.prefix.now in
    let e : starts_with nat_eq c.least.result.now p ≡ false = ap (λ k. starts_with nat_eq k p) (sym c.as_slice.ensures) ∙ sym c.has_prefix.ensures ∙ c.if-not-has_prefix.true in
    c.new-names.ensures
    ∙ sym (listed p c.least.result.now c.least.ensures.leaf.0 (tree c.below-node.result.now) (tree c.in-Some.node) false c.below-node.ensures.tree c.least.ensures.leaf.1 e)
    ∙ names_are (tree c.in-Some.node) c.args.self.now o.grown o.view p (λ i. omega (arith, c.type_inv.prefix i))

pub returns-in_ok-collect-in-Some : goal.returns-in_ok-collect-in-Some
returns-in_ok-collect-in-Some c =
    let o = opened c.self.invariant c.self.view_is c.in-Some.is in
    let p = c.args.prefix.now in
    let e : starts_with nat_eq c.least.result.now p ≡ true = ap (λ k. starts_with nat_eq k p) (sym c.as_slice.ensures) ∙ sym c.has_prefix.ensures ∙ c.if-not-has_prefix.false in
    c.in_ok-collect-in-Some.ensures
    ∙ ap (λ ks. ks ++ keys_of (pairs_of (tree c.below-node.result.now))) c.new-names.ensures
    ∙ sym (listed p c.least.result.now c.least.ensures.leaf.0 (tree c.below-node.result.now) (tree c.in-Some.node) true c.below-node.ensures.tree c.least.ensures.leaf.1 e)
    ∙ names_are (tree c.in-Some.node) c.args.self.now o.grown o.view p (λ i. omega (arith, c.type_inv.prefix i))
