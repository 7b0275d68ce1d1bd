use Rattle.vic_spellings.proofs.SpelledParts.{parts_are_spelled}
use Rattle.vic_spellings.proofs.parts.Goals as goal

pub returns : goal.returns
returns c = parts_are_spelled
