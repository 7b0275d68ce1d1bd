use Rattle.std.proofs.Common.{◌≡◌, true, false, None, refl, sym, ap, ◌∙◌, arith}
use Rattle.vic_tree.specs.Grown.{dictionary_of}
use Rattle.vic_trie.specs.Tries.{top_tree}
use Rattle.vic_trie.specs.Weights.{weight_of}
use Rattle.vic_trie.proofs.Kept.{weight_is, del_is, get_at, kept_shrunk, absent_top, remove_missing, not_some_none}
use Rattle.std.specs.FinMap as finmap
use Rattle.std.specs.Option.{IsSome, is_some}
use Rattle.vic_trie.proofs.trie.Trie.del.Goals as goal

pub invariant_of-self-in-Some : goal.invariant_of-self-in-Some
invariant_of-self-in-Some c =
    let i = c.self.inside in let k = c.self.invariant in let t = c.in-Some.ensures.taken in
    let del = del_is (top_tree i.top) c.args.self.now k.tree c.self.view_is c.args.key.now (top_tree c.take_from.new.top) t.2 in
    kept_shrunk i.top c.take_from.new.top i.weight i.count k c.args.key.now c.in-Some.old del.0 t.3 c.in-Some.ensures.change

pub returns-in-None-clause-found : goal.returns-in-None-clause-found
returns-in-None-clause-found c =
    let i = c.self.inside in let k = c.self.invariant in
    let e = absent_top i.top c.args.self.now c.args.key.now k.tree k.sound c.self.view_is c.in-None.ensures.absent.0 in
    (λ h. absurd (cross h), λ h. absurd (not_some_none _ e h))
  where
    cross : false ≡ true → ⊥
    cross e = cc

pub returns-in-None-clause-after : goal.returns-in-None-clause-after
returns-in-None-clause-after c =
    let i = c.self.inside in let k = c.self.invariant in
    let e = absent_top i.top c.args.self.now c.args.key.now k.tree k.sound c.self.view_is c.in-None.ensures.absent.0 in
    ap (λ o. dictionary_of (top_tree o)) c.in-None.ensures.absent.1 ∙ c.self.view_is ∙ remove_missing c.args.self.now c.args.key.now e

pub returns-in-Some-clause-found : goal.returns-in-Some-clause-found
returns-in-Some-clause-found c =
    let i = c.self.inside in let k = c.self.invariant in
    (λ _. ap is_some (get_at (top_tree i.top) c.args.self.now k.tree c.self.view_is c.args.key.now) ∙ c.in-Some.ensures.taken.1, λ _. refl)

pub returns-in-Some-clause-after : goal.returns-in-Some-clause-after
returns-in-Some-clause-after c =
    let i = c.self.inside in let k = c.self.invariant in
    (del_is (top_tree i.top) c.args.self.now k.tree c.self.view_is c.args.key.now (top_tree c.take_from.new.top) c.in-Some.ensures.taken.2).1

pub returns-in-None-clause-weighs : goal.returns-in-None-clause-weighs
returns-in-None-clause-weighs c =
    let same = ap (λ o. dictionary_of (top_tree o)) c.in-None.ensures.absent.1 ∙ c.self.view_is in
    omega (arith, ap weight_of same)

pub returns-in-Some-clause-weighs : goal.returns-in-Some-clause-weighs
returns-in-Some-clause-weighs c =
    let i = c.self.inside in let k = c.self.invariant in
    let light = weight_is (top_tree i.top) c.args.self.now k.tree c.self.view_is in
    let del = del_is (top_tree i.top) c.args.self.now k.tree c.self.view_is c.args.key.now (top_tree c.take_from.new.top) c.in-Some.ensures.taken.2 in
    let now = weight_is (top_tree c.take_from.new.top) (dictionary_of (top_tree c.take_from.new.top)) del.0 refl in
    omega (arith, light, now, c.in-Some.ensures.change.lighter)
