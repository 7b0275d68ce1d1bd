use Rattle.std.proofs.Common.{sym, ◌∙◌, ◌≤◌, length, arith}
use Rattle.vic_checks.proofs.Decisions.{laid_more, laid_end}
use Rattle.vic_checks.proofs.deciding.lay_all.Goals as goal

pub loop-i-preserved : goal.loop-i-preserved
loop-i-preserved c =
    laid_more c.args.own.now c.loop-i.i c.args.base c.loop-i.dict c.lay.new.dict c.at.result.now c.at.ensures.item c.in_ok-lay.ensures ∙ c.loop-i.invariant

pub returns : goal.returns
returns c =
    let past : length c.args.own.now ≤ c.loop-i.i = omega (arith, c.loop-i-test.false, c.len-i-end.ensures) in
    sym (laid_end c.args.own.now c.loop-i.i c.args.base c.loop-i.dict past) ∙ c.loop-i.invariant
