use Rattle.std.proofs.Common.{◌≡◌, true, false, Some, None, cond, sym, ap, ◌∙◌, subst, arith}
use Rattle.vic_trie.proofs.Kept.{opened, opened_none, get_is, get_missing, get_long}
use Rattle.std.specs.Str.{bytes_eq}
use Rattle.vic_wire.specs.Trees.{Empty}
use Rattle.vic_trie.specs.Nodes.{tree}
use Rattle.vic_trie.proofs.trie.Trie.get.Goals as goal

pub returns-then-key-gt-LONGEST_KEY-clause-value : goal.returns-then-key-gt-LONGEST_KEY-clause-value
returns-then-key-gt-LONGEST_KEY-clause-value c =
    let o = opened c.self.invariant c.self.view_is c.in-Some.is in
    sym (get_long c.in-Some.node c.args.self.now c.args.key.now o c.if-key-gt-LONGEST_KEY.true)

pub returns-in-None-clause-value : goal.returns-in-None-clause-value
returns-in-None-clause-value c = sym (get_missing Empty c.args.self.now tt (opened_none c.self.view_is c.in-None.is) c.args.key.now (λ h. h))

pub returns-then-eq-clause-value : goal.returns-then-eq-clause-value
returns-then-eq-clause-value c =
    let o = opened c.self.invariant c.self.view_is c.in-Some.is in
    let e = get_is (tree c.in-Some.node) c.args.self.now o.grown o.view c.args.key.now c.end.result.0.now c.end.result.1.now c.end.ensures.leaf in
    let t : bytes_eq c.end.result.0.now c.args.key.now ≡ true = ap (λ q. bytes_eq q c.args.key.now) (sym c.as_slice.ensures) ∙ sym c.eq.ensures ∙ c.if-eq.true in
    sym (e ∙ ap (λ b. cond b (Some c.end.result.1.now) None) t)

pub returns-else-eq-clause-value : goal.returns-else-eq-clause-value
returns-else-eq-clause-value c =
    let o = opened c.self.invariant c.self.view_is c.in-Some.is in
    let e = get_is (tree c.in-Some.node) c.args.self.now o.grown o.view c.args.key.now c.end.result.0.now c.end.result.1.now c.end.ensures.leaf in
    let t : bytes_eq c.end.result.0.now c.args.key.now ≡ false = ap (λ q. bytes_eq q c.args.key.now) (sym c.as_slice.ensures) ∙ sym c.eq.ensures ∙ c.if-eq.false in
    sym (e ∙ ap (λ b. cond b (Some c.end.result.1.now) None) t)
