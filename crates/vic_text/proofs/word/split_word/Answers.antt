use Rattle.vic_text.proofs.Splits.{words_only, words_split, has_none, rest_whole}
use Rattle.vic_text.proofs.word.split_word.Goals as goal

pub returns-in_err-place : goal.returns-in_err-place
returns-in_err-place c = rw c.from_residual.ensures (words_only _ (has_none 32 _ c.in_err-place.ensures))

pub returns : goal.returns
returns c =
    rw (rest_whole c.in_ok-place.place c.args.text.now) (words_split c.in_ok-place.place c.args.text.now c.in_ok-place.ensures.0 c.in_ok-place.ensures.1.0 c.in_ok-place.ensures.1.1)
