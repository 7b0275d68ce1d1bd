use Rattle.std.proofs.Common.{◌≡◌, ap, ◌∙◌, arith}
use Rattle.vic_wire.specs.Messages.{HasSpelling, answer_text}
use Rattle.vic_wire.specs.Reading.{read_answer}
use Rattle.vic_spellings.proofs.Laws.{answers_are_spelled}
use Rattle.vic_frames.proofs.Found.{what_is_found, what_is_read}
use Rattle.vic_frames.specs.Kinds.{answer_at}
use Rattle.vic_frames.proofs.answer.decode_answer.Goals as goal

pub returns-clause-found : goal.returns-clause-found
unfolding read_answer
returns-clause-found c =
    what_is_found (λ m. HasSpelling m × (c.args.payload.now ≡ answer_text m)) c.found_or_none.result (read_answer c.args.payload.now)
    (λ m e. answers_are_spelled.found c.args.payload.now m (λ i. omega (arith, c.type_inv.payload i)) e)
    (c.found_or_none.ensures.exact (answer_at c.args.payload.now) c.answer_of.ensures)

pub returns-clause-only : goal.returns-clause-only
unfolding read_answer
returns-clause-only c = λ m fits is.
    what_is_read c.found_or_none.result (read_answer c.args.payload.now) m (ap read_answer is ∙ answers_are_spelled.again m fits)
    (c.found_or_none.ensures.exact (answer_at c.args.payload.now) c.answer_of.ensures)
