-- It is a lemma of its own.
use Rattle.vic_laws.proofs.AnswersStand.{answers_stand}
use Rattle.vic_laws.proofs.order.answers_stand.Goals as goal

pub returns : goal.returns
returns c = answers_stand
