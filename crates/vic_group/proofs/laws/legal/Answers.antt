use Rattle.vic_laws.proofs.Agreement.{views_show_only_calls}
use Rattle.vic_laws.proofs.AnswersStand.{answers_stand}
use Rattle.vic_laws.proofs.Blocking.{aborted_by_conflict}
use Rattle.vic_laws.proofs.Complete.{views_complete}
use Rattle.vic_laws.proofs.Decisions.{done_meets_no_conflict}
use Rattle.vic_laws.proofs.Legality.{views_legal}
use Rattle.vic_laws.proofs.SealedAnswers.{sealed_answers_stand}
use Rattle.vic_group.proofs.laws.legal.Goals as goal

pub returns-clause-legal : goal.returns-clause-legal
returns-clause-legal c = views_legal

pub returns-clause-complete : goal.returns-clause-complete
returns-clause-complete c = views_complete

pub returns-clause-only_calls : goal.returns-clause-only_calls
returns-clause-only_calls c = views_show_only_calls

pub returns-clause-done : goal.returns-clause-done
returns-clause-done c = done_meets_no_conflict

pub returns-clause-stands : goal.returns-clause-stands
returns-clause-stands c = answers_stand

pub returns-clause-sealed : goal.returns-clause-sealed
returns-clause-sealed c = sealed_answers_stand

pub returns-clause-aborts : goal.returns-clause-aborts
returns-clause-aborts c = aborted_by_conflict
