use Rattle.vic_text.proofs.Splits.{lines_whole, lines_split, rest_whole}
use Rattle.vic_text.proofs.word.split_line.Goals as goal

pub returns-in_err-place-clause-lines : goal.returns-in_err-place-clause-lines
returns-in_err-place-clause-lines c = rw c.from_residual.ensures (lines_whole _ c.requires c.in_err-place.ensures)

pub returns-clause-lines : goal.returns-clause-lines
returns-clause-lines c =
    rw (rest_whole c.in_ok-place.place c.args.text.now) (lines_split c.in_ok-place.place c.args.text.now c.in_ok-place.ensures.0 c.in_ok-place.ensures.1.0 c.in_ok-place.ensures.1.1)
