use Rattle.std.proofs.Common.{◌≡◌, true, sym, ap, ◌∙◌}
use Rattle.vic_dict.specs.declared.op.Op.TheVariants as op
use Rattle.vic_dict.specs.Dictionary.{after}
use Rattle.vic_wire.specs.Trees.{dictionary_root}
use Rattle.vic_wire.specs.Walks.{reaches}
use Rattle.vic_prune.specs.Parts.{part}
use Rattle.vic_prune.proofs.OnCuts.{root_on_cut, same_root, put_reached}
use Rattle.vic_prune.proofs.pruned.Pruned.after.Goals as goal

pub returns-in-Put-clause-cut : goal.returns-in-Put-clause-cut
returns-in-Put-clause-cut c =
    let t = part c.args.self.now in let o = c.args.op.now in
    let reached : reaches t o ≡ true = sym c.reaches.ensures ∙ c.if-not-reaches.false in
    let k = c.as_slice-key.result.now in let v = c.as_slice.result.now in
    let is : o ≡ op.Put k v = c.in-Put.is ∙ (λ i. op.Put (sym c.as_slice-key.ensures i) (sym c.as_slice.ensures i)) in
    root_on_cut t o reached (op.Put k v) is c.put_root.ensures.bytes c.put_root.result.bytes (c.put_root.ensures.root (put_reached t o reached k v is))

pub returns-in-Get-clause-cut : goal.returns-in-Get-clause-cut
returns-in-Get-clause-cut c = λ d bytes cut. c.node_root.ensures ∙ same_root (part c.args.self.now) d cut ∙ ap (λ o. dictionary_root (after d o)) (sym c.in-Get.is)

pub returns-in-Del-clause-cut : goal.returns-in-Del-clause-cut
returns-in-Del-clause-cut c =
    let t = part c.args.self.now in let o = c.args.op.now in
    let reached : reaches t o ≡ true = sym c.reaches.ensures ∙ c.if-not-reaches.false in
    let k = c.as_slice-key-in-Del.result.now in
    let is : o ≡ op.Del k = c.in-Del.is ∙ ap (λ q. op.Del q) (sym c.as_slice-key-in-Del.ensures) in
    root_on_cut t o reached (op.Del k) is c.del_root.ensures.bytes c.del_root.result.bytes c.del_root.ensures.root

pub returns-in-List-clause-cut : goal.returns-in-List-clause-cut
returns-in-List-clause-cut c = λ d bytes cut. c.node_root-in-List.ensures ∙ same_root (part c.args.self.now) d cut ∙ ap (λ o. dictionary_root (after d o)) (sym c.in-List.is)
