use Rattle.vic_laws.proofs.ByCases.{took_is, texts_taken_are}
use Rattle.vic_laws.proofs.terms.taken_are.Goals as goal

pub returns-clause-answers : goal.returns-clause-answers
returns-clause-answers c = took_is

pub returns-clause-texts : goal.returns-clause-texts
returns-clause-texts c = texts_taken_are
