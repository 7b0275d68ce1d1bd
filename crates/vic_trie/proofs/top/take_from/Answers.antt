use Rattle.std.proofs.Common.{◌≡◌, Bool, true, false, not, sym, ap, refl, ◌∙◌}
use Rattle.std.proofs.lemmas.Slice.Eq.{bytes_eq-Decides}
use Rattle.std.specs.Str.{bytes_eq}
use Rattle.vic_trie.specs.Nodes.{tree}
use Rattle.vic_trie.specs.Tries.{top_tree}
use Rattle.vic_trie.proofs.Kept.{taken}
use Rattle.vic_trie.proofs.top.take_from.Goals as goal

not_false : (b : Bool) → not b ≡ false → b ≡ true
not_false true e = refl
not_false false e = cc

pub returns-then-take_out-clause-change : goal.returns-then-take_out-clause-change
returns-then-take_out-clause-change c =
    let t = not_false (bytes_eq c.as_slice.result.now c.args.key.now) (sym c.ne.ensures ∙ c.if-ne.false) in
    let same : c.end.result.0.now ≡ c.args.key.now = sym c.as_slice.ensures ∙ (bytes_eq-Decides _ _).0 t in
    taken c.args.key.now c.end.result.0.now c.end.result.1.now c.len-old.result (tree c.in-Some.node) _ _ (ap top_tree (sym c.in-Some.is)) c.end.ensures.leaf same c.len-old.ensures (sym (c.if-take_out.ensures.tree))

pub returns-else-take_out-clause-change : goal.returns-else-take_out-clause-change
returns-else-take_out-clause-change c =
    let t = not_false (bytes_eq c.as_slice.result.now c.args.key.now) (sym c.ne.ensures ∙ c.if-ne.false) in
    let same : c.end.result.0.now ≡ c.args.key.now = sym c.as_slice.ensures ∙ (bytes_eq-Decides _ _).0 t in
    taken c.args.key.now c.end.result.0.now c.end.result.1.now c.len-old.result (tree c.in-Some.node) _ _ (ap top_tree (sym c.in-Some.is)) c.end.ensures.leaf same c.len-old.ensures c.if-take_out.ensures.tree
