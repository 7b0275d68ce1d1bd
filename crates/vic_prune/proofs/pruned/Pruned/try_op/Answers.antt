use Rattle.std.proofs.Common.{sym, ap, ◌∙◌}
use Rattle.vic_dict.specs.Dictionary.{reply}
use Rattle.vic_prune.specs.Parts.{part}
use Rattle.vic_prune.proofs.OnCuts.{reply_on_cut, list_on_cut}
use Rattle.vic_prune.proofs.pruned.Pruned.try_op.Goals as goal

pub returns-in-Ok-do_op-clause-cut : goal.returns-in-Ok-do_op-clause-cut
returns-in-Ok-do_op-clause-cut c =
    reply_on_cut (part c.args.self.now) c.args.op.now c.are_bytes.ensures c.in-Ok.ensures.reached c.in-Ok-do_op.answer
    (c.in-Ok-do_op.ensures.ok.0 ∙ ap (λ d. reply d c.args.op.now) c.in-Ok.ensures.walked)

pub returns-in-List-clause-cut : goal.returns-in-List-clause-cut
returns-in-List-clause-cut c =
    list_on_cut c.list.result (part c.args.self.now) c.args.op.now c.in-List.prefix c.in-List.is c.are_bytes.ensures c.list.ensures.answer c.list.ensures.reached
