use Rattle.vic_made.proofs.Made.{made_texts, made_tags}
use Rattle.vic_made.proofs.made_texts.Goals as goal

pub returns-clause-texts : goal.returns-clause-texts
returns-clause-texts c = made_texts

pub returns-clause-tags : goal.returns-clause-tags
returns-clause-tags c = made_tags
