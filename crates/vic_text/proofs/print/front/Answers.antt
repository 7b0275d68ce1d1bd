use Rattle.std.proofs.Common.{arith, ◌≤◌, sym, length}
use Rattle.std.proofs.lemmas.List.{length-take-le, take_all}
use Rattle.vic_text.proofs.print.front.Goals as goal

pub slice_bounds-result-end : goal.slice_bounds-result-end
slice_bounds-result-end c = let long : 32 ≤ length c.args.content.now = omega arith in sym (length-take-le 32 c.args.content.now long)

pub returns-then-content-le32 : goal.returns-then-content-le32
returns-then-content-le32 c = let short : length c.args.content.now ≤ 32 = omega arith in sym (take_all 32 c.args.content.now short)
