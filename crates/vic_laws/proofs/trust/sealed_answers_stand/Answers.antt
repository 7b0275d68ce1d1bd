use Rattle.vic_laws.proofs.trust.sealed_answers_stand.Goals as goal
use Rattle.vic_laws.proofs.SealedAnswers.{sealed_answers_stand}

pub returns : goal.returns
returns c = sealed_answers_stand
