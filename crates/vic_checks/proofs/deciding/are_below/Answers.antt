use Rattle.std.proofs.Common.{◌∙◌}
use Rattle.vic_checks.proofs.Decisions.{laid_more}
use Rattle.vic_checks.proofs.deciding.are_below.Goals as goal

pub loop-i-preserved : goal.loop-i-preserved
loop-i-preserved c = λ d.
    laid_more c.args.own.now c.loop-i.i c.args.base d d c.at.result.now c.at.ensures.item (c.is_laid.ensures c.if-is_laid.false d) ∙ c.loop-i.invariant d
