use Rattle.vic_laws.proofs.MadeCommits.{commits_tell_all}
use Rattle.vic_laws.proofs.trust.commits.Goals as goal

pub returns : goal.returns
returns c = commits_tell_all
