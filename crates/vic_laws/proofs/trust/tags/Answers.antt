use Rattle.vic_laws.proofs.trust.tags.Goals as goal
use Rattle.vic_laws.proofs.TagsHeld.{tags_hold}

pub returns : goal.returns
returns c = λ g h lawful. tags_hold g h lawful.steps
