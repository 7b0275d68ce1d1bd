use Rattle.vic_laws.proofs.ProperEach.{dictionaries_are_proper, views_leave_proper, parts_are_proper}
use Rattle.vic_laws.proofs.trust.dictionaries_are_proper.Goals as goal

pub returns-clause-paths : goal.returns-clause-paths
returns-clause-paths c = dictionaries_are_proper

pub returns-clause-views : goal.returns-clause-views
returns-clause-views c = views_leave_proper

pub returns-clause-parts : goal.returns-clause-parts
returns-clause-parts c = parts_are_proper
