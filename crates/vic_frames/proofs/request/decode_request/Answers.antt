use Rattle.std.proofs.Common.{◌≡◌, ap, ◌∙◌, arith}
use Rattle.vic_wire.specs.Messages.{HasRequestSpelling, request_text}
use Rattle.vic_wire.specs.Reading.{read_request}
use Rattle.vic_spellings.proofs.Laws.{requests_are_spelled}
use Rattle.vic_frames.proofs.Found.{what_is_found, what_is_read}
use Rattle.vic_frames.specs.Kinds.{request_at}
use Rattle.vic_frames.proofs.request.decode_request.Goals as goal

pub returns-clause-found : goal.returns-clause-found
unfolding read_request
returns-clause-found c =
    what_is_found (λ m. HasRequestSpelling m × (c.args.payload.now ≡ request_text m)) c.found_or_none.result (read_request c.args.payload.now)
    (λ m e. requests_are_spelled.found c.args.payload.now m (λ i. omega (arith, c.type_inv.payload i)) e)
    (c.found_or_none.ensures.exact (request_at c.args.payload.now) c.request_of.ensures.gives)

pub returns-clause-only : goal.returns-clause-only
unfolding read_request
returns-clause-only c = λ m fits is.
    what_is_read c.found_or_none.result (read_request c.args.payload.now) m (ap read_request is ∙ requests_are_spelled.again m fits)
    (c.found_or_none.ensures.exact (request_at c.args.payload.now) c.request_of.ensures.gives)
