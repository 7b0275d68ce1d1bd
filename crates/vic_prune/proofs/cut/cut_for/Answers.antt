use Rattle.std.proofs.Common.{◌≡◌, true, refl, sym, ap, subst, ◌∙◌}
use Rattle.vic_wire.specs.Trees.{Tree, Empty, tree_of}
use Rattle.vic_wire.specs.Cuts.{IsCut, cut_for}
use Rattle.vic_wire.specs.Walks.{reaches}
use Rattle.vic_dict.specs.declared.op.Op.{Op}
use Rattle.vic_dict.specs.declared.op.Op.TheVariants as op
use Rattle.vic_tree.proofs.Stands.{tree_of-empty}
use Rattle.std.proofs.lemmas.Result.{IfOk-weaker}
use Rattle.vic_tree.proofs.Cuts.{cut_itself}
use Rattle.vic_tree.proofs.Made.{cut_for-cut}
use Rattle.vic_trie.specs.Nodes.{tree}
use Rattle.vic_prune.specs.Parts.{part}
use Rattle.vic_prune.proofs.cut.cut_for.Goals as goal

of_empty : (o : Op) → Empty ≡ cut_for Empty o
of_empty (op.Put k v) = refl
of_empty (op.Get k) = refl
of_empty (op.Del k) = refl
of_empty (op.List p) = refl

pub returns-in-None-clause-part : goal.returns-in-None-clause-part
returns-in-None-clause-part c =
    let none : tree_of c.args.trie.now ≡ Empty = ap tree_of (c.in-None.ensures.empty.0 refl) ∙ tree_of-empty in
    of_empty c.args.op.now ∙ ap (λ t. cut_for t c.args.op.now) (sym none)

reached_empty : (o : Op) → reaches Empty o ≡ true
reached_empty (op.Put k v) = refl
reached_empty (op.Get k) = refl
reached_empty (op.Del k) = refl
reached_empty (op.List p) = refl

pub returns-in-None-clause-cut : goal.returns-in-None-clause-cut
returns-in-None-clause-cut c =
    let none : tree_of c.args.trie.now ≡ Empty = ap tree_of (c.in-None.ensures.empty.0 refl) ∙ tree_of-empty in
    subst (λ t. IsCut Empty t) (sym none) (cut_itself Empty)

pub returns-in-None-clause-reaches : goal.returns-in-None-clause-reaches
returns-in-None-clause-reaches c = reached_empty c.args.op.now

pub returns-in-Some-clause-cut : goal.returns-in-Some-clause-cut
returns-in-Some-clause-cut c =
    let same : tree c.in-Some.top.now ≡ tree_of c.args.trie.now = c.in-Some.ensures.tree.1 in
    IfOk-weaker c.cut_of.result (λ p. part p ≡ cut_for (tree c.in-Some.top.now) c.args.op.now) _
    (λ p e. subst (λ t. IsCut (part p) t) same (subst (λ x. IsCut x (tree c.in-Some.top.now)) (sym e) (cut_for-cut (tree c.in-Some.top.now) c.args.op.now))) c.cut_of.ensures.part
